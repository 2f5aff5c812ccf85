-- Events of geometries, written out.
use Rattle.std.specs.Prelude.{◌≡◌, refl, true, false, [], ◌∷◌, zero}
use Rattle.std.proofs.Math.Option.{none, some}
use Rattle.kinds.specs.Event.{begin_e, end_e, xy_e}
use Rattle.kinds.specs.declared.flags.Flags.{Flags}
use Rattle.geometries.specs.Geometry.{Coord, flat, line_string, multi_polygon, multi_surface}
use Rattle.geometries.specs.Coordinate.{coord_e}
use Rattle.geometries.specs.Events.{events_of}

abbrev no_flags : Flags
no_flags = record { z = false; m = false; t = false; tm = false }

abbrev heights : Flags
heights = record { z = true; m = false; t = false; tm = false }

-- a position with a height and a measure
abbrev here : Coord
here = record { x = 1; y = 2; z = some 3; m = some 4; t = none; tm = none }

-- a line is tagged when outermost, and without flags its pairs are told alone
pub line-alone : events_of no_flags zero (line_string (here ∷ [])) ≡ begin_e 2 true 1 0 ∷ xy_e 1 2 0 ∷ end_e 2 true 0 ∷ []
unfolding events_of
line-alone = refl

-- the flags choose which values are told
pub line-high : events_of heights zero (line_string (here ∷ [])) ≡ begin_e 2 true 1 0 ∷ coord_e 1 2 (some 3) none none none 0 ∷ end_e 2 true 0 ∷ []
unfolding events_of
line-high = refl

-- a polygon is untagged inside another type
pub polygon-inside : events_of no_flags zero (multi_polygon (((here ∷ []) ∷ []) ∷ []))
    ≡ begin_e 6 false 1 0 ∷ begin_e 3 false 1 0 ∷ begin_e 2 false 1 0 ∷ xy_e 1 2 0 ∷ end_e 2 false 0 ∷ end_e 3 false 0 ∷ end_e 6 false 0 ∷ []
unfolding events_of
polygon-inside = refl

-- a surface's polygon is tagged
pub polygon_of_surface : events_of no_flags zero (multi_surface (flat ((here ∷ []) ∷ []) ∷ []))
    ≡ begin_e 12 false 1 0 ∷ begin_e 3 true 1 0 ∷ begin_e 2 false 1 0 ∷ xy_e 1 2 0 ∷ end_e 2 false 0 ∷ end_e 3 true 0 ∷ end_e 12 false 0 ∷ []
unfolding events_of
polygon_of_surface = refl
