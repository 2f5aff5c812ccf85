use mathlib.Core.Path.{◌≡◌}
use Prim.Native.Nat.{◌-◌, ◌/◌, ◌≤◌}
use lib.ListN.{length}
use Rattle.event_log.specs.Log.{feature_in, record_of}
use Rattle.nesting.specs.Machine.{number}
use Rattle.wkb_judge.specs.Along.{Along}
use Rattle.wkb_judge.proofs.judge.judge.Given as goal

abbrev pub invariant-loop-i : goal.invariant-loop-i
invariant-loop-i l = Along number l.events l.low l.feature l.i l.walk l.top l.stored × (length l.stored ≡ 257) × (l.i ≤ length l.events / 64) × (l.feature ≡ feature_in (record_of l.events 0))

abbrev pub decreases-loop-i : goal.decreases-loop-i
decreases-loop-i l = l.whole - l.i
