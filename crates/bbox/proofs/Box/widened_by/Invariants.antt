use mathlib.Core.Path.{◌≡◌}
use Prim.Native.Nat.{◌*◌}
use lib.ListN.{drop}
use Rattle.bbox.specs.Box.{box_from}
use Rattle.bbox.proofs.Box.widened_by.Given as goal

-- the pairs that are left widen the box so far to what the whole list makes of the first
abbrev pub invariant-loop-x : goal.invariant-loop-x
invariant-loop-x l = box_from l.around (drop (2 * l.x-index) l.words) ≡ box_from l.initial.around l.words
