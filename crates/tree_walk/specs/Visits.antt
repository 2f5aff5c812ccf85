-- How many records the walk with a memory enters: at most one, and the places in all parts lists as often as there are levels.
-- A record that is not skipped is marked deeper than before, so it is walked through once for each level at most.
use Rattle.std.proofs.Math.Option.{Option, none, some}
use Prim.Native.Nat.{ℕ, zero, suc, ◌+◌}
use Rattle.tree_walk.specs.declared.Parts.{Parts}

-- places in a record's parts list
abbrev pub places_of : Option Parts → ℕ
places_of none = 0
places_of (some r) = r.count

-- places in the parts lists of so many records, from a number on
unfoldable pub places : (ℕ → Option Parts) → ℕ → ℕ → ℕ
places get zero n = 0
places get (suc f) n = places_of (get n) + places get f (n + 1)
