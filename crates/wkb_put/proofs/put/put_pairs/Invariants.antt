use Rattle.wkb_put.specs.PutLeft.{RunLeft}
use Rattle.wkb_put.proofs.put.put_pairs.Given as goal

abbrev pub invariant-loop-next : goal.invariant-loop-next
invariant-loop-next l = RunLeft l.events l.from l.initial.output l.output l.next
