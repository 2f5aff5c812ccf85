use mathlib.Core.Path.{◌≡◌}
use Prim.Native.Nat.{◌-◌}
use Rattle.wkb_put.specs.PutLeft.{Left}
use Rattle.wkb_put.proofs.put.put_all.Given as goal

abbrev pub invariant-loop-next : goal.invariant-loop-next
invariant-loop-next l = record { memory : l.output.bytes.ghost_name ≡ l.initial.output.bytes.ghost_name; left : Left l.events l.initial.output.bytes.now l.around l.output l.next }

abbrev pub decreases-loop-next : goal.decreases-loop-next
decreases-loop-next l = l.records - l.next
