-- The walks over triangles, by the cases and turns of the functions that say them.
use Rattle.std.specs.Prelude.{◌≡◌, is_some, Bool, not, ◌&&◌, List, ℕ, ◌+◌, ◌<◌, ◌≤◌, length, drop, get_or}
use Rattle.std.proofs.Common.{◌∙◌, drop_of_length-le}
use Rattle.std.proofs.Math.Bool.{true, false}
use Rattle.std.proofs.Math.Dec.{leb}
use borrow.Author.Tests.{le-leb, lt-leb}
use Rattle.laws.specs.Script.{stop, ◌⨟◌}
use Rattle.coords.specs.declared.lists.Lists.{Lists}
use Rattle.coords.specs.Coords.{Coords}
use Rattle.coords.specs.CoordLaws.{drop-one}
use Rattle.coords.specs.Views.{coords_in}
use Rattle.lines.specs.Lines.{stretches_s, triangle_at, triangles_s, triangle_s}
use Rattle.lines.specs.LineLaws.{none_there, some_there}

-- ---- triangles, by the end at i
module _ (C : Coords) (ends : List ℕ) (tagged : Bool) (before i idx : ℕ) where
  pub triangles_end : length ends ≤ i → triangles_s C (drop i ends) tagged before idx ≡ stop 0
  unfolding triangles_s
  triangles_end h = rw (drop_of_length-le ends h)

  pub triangles_next : i < length ends → triangles_s C (drop i ends) tagged before idx ≡ triangle_at C tagged before (get_or ends i 0) idx ⨟ triangles_s C (drop (i + 1) ends) tagged (get_or ends i 0) (idx + 1)
  unfolding triangles_s
  triangles_next h = rw (drop-one ends i h)

-- ---- a record with 0 or 1 ends, and with more
module _ (l : Lists) (tagged : Bool) (idx : ℕ) where
  module _ {nothing : Bool} (e : nothing ≡ (not (is_some l.xy) && leb (length l.ends.now) 1)) where
    pub triangle_nothing : nothing ≡ true → triangle_s (coords_in l) l.ends.now tagged idx ≡ stop 0
    unfolding triangle_s
    triangle_nothing h = none_there l e h _ _

    pub triangle_single : nothing ≡ false → length l.ends.now ≤ 1 → triangle_s (coords_in l) l.ends.now tagged idx ≡ stretches_s 17 tagged idx (coords_in l) l.ends.now
    unfolding triangle_s
    triangle_single h k = some_there l e h _ _ ∙ rw (le-leb (length l.ends.now) 1 k)

  pub triangle_many : 1 < length l.ends.now → triangle_s (coords_in l) l.ends.now tagged idx ≡ triangles_s (coords_in l) l.ends.now tagged 0 0
  unfolding triangle_s
  triangle_many k = rw (lt-leb (length l.ends.now) 1 k)
