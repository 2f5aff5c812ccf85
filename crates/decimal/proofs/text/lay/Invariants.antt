use mathlib.Core.Path.{◌≡◌}
use mathlib.Core.List.{◌++◌}
use Prim.Native.Nat.{◌-◌, ◌≤◌}
use lib.ListN.{length, drop}
use Rattle.io.specs.Digits.{last_digits}
use Rattle.decimal.proofs.text.lay.Given as goal

abbrev pub invariant-loop-i : goal.invariant-loop-i
invariant-loop-i l = (l.from ≤ l.i) × (l.i ≤ l.end) × (length l.initial.text ≡ length l.text) × (last_digits 10 (l.i - l.from) l.rest ++ drop l.i l.text ≡ last_digits 10 (l.end - l.from) l.n ++ drop l.end l.initial.text)

abbrev pub decreases-loop-i : goal.decreases-loop-i
decreases-loop-i l = l.i
