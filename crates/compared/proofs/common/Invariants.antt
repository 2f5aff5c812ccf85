use mathlib.Core.Path.{◌≡◌}
use lib.ListN.{take}
use Rattle.compared.proofs.common.Given as goal

abbrev pub invariant-loop-i : goal.invariant-loop-i
invariant-loop-i l = take l.i l.a ≡ take l.i l.b
