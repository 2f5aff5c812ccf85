-- What some trees hold, by the definitions alone.
use Rattle.std.specs.Prelude.{◌≡◌, refl, false, true, [], ◌∷◌, ℕ, zero, suc}
use Rattle.std.proofs.Math.Option.{Option, none, some}
use Rattle.kinds.specs.declared.flags.Flags.{Flags}
use Rattle.store.specs.Lists.{Rec}
use Rattle.geometries.specs.Geometry.{Coord, Line, line_string, polygon, multi_polygon}
use Rattle.least.specs.Size.{numbers, reached, share, size_of}
use Rattle.least.specs.Least.{least_of}

abbrev no_flags : Flags
no_flags = record { z = false; m = false; t = false; tm = false }

abbrev heights : Flags
heights = record { z = true; m = false; t = false; tm = false }

abbrev fix : Option ℕ → Coord
fix z = record { x = 1; y = 2; z = z; m = none; t = none; tm = none }

abbrev ring : Line
ring = fix none ∷ fix none ∷ fix none ∷ fix none ∷ []

-- B1: a record and 8 words. B2: a record, 16 words and 2 ends.
pub b1 : least_of no_flags (polygon (ring ∷ [])) ≡ 9
unfolding least_of
b1 = refl

pub b2 : least_of no_flags (polygon (ring ∷ ring ∷ [])) ≡ 19
unfolding least_of
b2 = refl

-- a root and the two of them
pub both_polygons : least_of no_flags (multi_polygon ((ring ∷ []) ∷ (ring ∷ ring ∷ []) ∷ [])) ≡ 29
unfolding least_of
both_polygons = refl

-- two pairs with heights: a record, 4 words and 2 values
pub with_heights : least_of heights (line_string (fix (some 7) ∷ fix (some 8) ∷ [])) ≡ 7
unfolding least_of
with_heights = refl

-- records 1 and 2 are parts of the root, record 2 of record 1 too; record 3 is not reached
abbrev shared : ℕ → Option Rec
shared zero = some (record { kind = 7; xy = none; ends = none; z = none; m = none; t = none; tm = none; parts = some (1, 2) })
shared (suc zero) = some (record { kind = 7; xy = none; ends = none; z = none; m = none; t = none; tm = none; parts = some (2, 1) })
shared (suc (suc n)) = some (record { kind = 1; xy = some (5 ∷ 6 ∷ []); ends = none; z = none; m = none; t = none; tm = none; parts = none })

-- three geometries and two numbers
pub counted_once : size_of 4 shared ≡ 5
unfolding size_of share reached numbers
counted_once = refl
