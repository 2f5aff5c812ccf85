use Rattle.wkb_judge.specs.Searched.{Searched}
use Rattle.wkb_judge.proofs.judge.fault.Given as goal

abbrev pub invariant-loop-i : goal.invariant-loop-i
invariant-loop-i l = Searched l.events l.from l.i
