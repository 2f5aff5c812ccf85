-- Where the writer and the format part: geometries that come back as another, or not at all. Each is the smallest, computed.
use Rattle.std.specs.Prelude.{◌≡◌, refl, true, false, List, [], ◌∷◌, ℕ}
use Rattle.std.proofs.Math.Option.{Option, none, some}
use Rattle.laws.specs.Script.{Script, stop, say}
use Rattle.kinds.specs.Event.{begin_e}
use Rattle.kinds.specs.declared.event.Event.{Event}
use Rattle.geometries.specs.Coordinate.{coord_e}
use Rattle.writer_model.specs.Writer.{finish, next}
use Rattle.geometries.specs.Geometry.{straight, arc, segment, flat, Simple, point, line_string, polygon, multi_point, multi_line_string, multi_polygon, circular_string, compound_curve, curve_polygon, multi_curve, multi_surface, polyhedral_surface, tin, simple, collection, Geometry}
use Rattle.geometries.specs.Events.{events_of}
use Rattle.geometries.specs.Told.{told}
use Rattle.format.specs.Cases.{plain, high, here, there, raised, written, there_and_back}

-- read as a geometry, refused with a number, or refused by the writer
abbrev back_as : (n : ℕ) → Geometry n → Option (Script Event)
back_as n g = some (told (events_of plain n g))

abbrev refused_with : ℕ → Option (Script Event)
refused_with number = some (stop number)

abbrev alone : ℕ → Simple → Option (Script Event)
alone d s = there_and_back plain 0 d false s

abbrev inside : List Simple → Option (Script Event)
inside gs = there_and_back plain 1 7 false (collection gs)

-- ---- no line: one line without a coordinate
pub b3 : alone 3 (polygon []) ≡ back_as 0 (polygon ([] ∷ []))
unfolding there_and_back events_of
b3 = refl

pub no_line : alone 5 (multi_line_string []) ≡ back_as 0 (multi_line_string ([] ∷ []))
unfolding there_and_back events_of
no_line = refl

pub no_triangle : alone 16 (tin []) ≡ back_as 0 (tin ([] ∷ []))
unfolding there_and_back events_of
no_triangle = refl

pub no_ring : alone 6 (multi_polygon ([] ∷ [])) ≡ back_as 0 (multi_polygon (([] ∷ []) ∷ []))
unfolding there_and_back events_of
no_ring = refl

-- ---- no part: there is no list of parts
pub b7 : alone 6 (multi_polygon []) ≡ refused_with 2
unfolding there_and_back
b7 = refl

pub no_face : alone 15 (polyhedral_surface []) ≡ refused_with 2
unfolding there_and_back
no_face = refl

pub no_element : inside [] ≡ refused_with 2
unfolding there_and_back
no_element = refl

-- ---- elements of curves and surfaces make no parts, or are refused
pub compound_curve_lem : alone 9 (compound_curve (straight (here ∷ []) ∷ [])) ≡ refused_with 2
unfolding there_and_back
compound_curve_lem = refl

pub curve_polygon_lem : alone 10 (curve_polygon (segment (straight (here ∷ [])) ∷ [])) ≡ refused_with 2
unfolding there_and_back
curve_polygon_lem = refl

pub multi_curve_lem : alone 11 (multi_curve (segment (straight (here ∷ [])) ∷ [])) ≡ refused_with 2
unfolding there_and_back
multi_curve_lem = refl

pub compound_arc : alone 9 (compound_curve (arc (here ∷ []) ∷ [])) ≡ none
unfolding there_and_back
compound_arc = refl

pub multi_surface_lem : alone 12 (multi_surface (flat ((here ∷ []) ∷ []) ∷ [])) ≡ none
unfolding there_and_back
multi_surface_lem = refl

-- ---- in a collection
-- a ring's end makes a part, and so does the polygon's
pub b8 : inside (polygon ((here ∷ []) ∷ []) ∷ []) ≡ back_as 1 (collection (polygon ((here ∷ []) ∷ []) ∷ polygon ([] ∷ []) ∷ []))
unfolding there_and_back events_of
b8 = refl

-- undeclared and not detected, the root has the last element's type
pub b9 : there_and_back plain 1 0 false (collection (point here ∷ [])) ≡ some (say (begin_e 1 false 0 0) (stop 1))
unfolding there_and_back
b9 = refl

-- undeclared, not detected and promoted, the collection is lost
pub promoted-inside : there_and_back plain 1 0 true (collection (line_string (here ∷ []) ∷ [])) ≡ back_as 0 (multi_line_string ((here ∷ []) ∷ []))
unfolding there_and_back events_of
promoted-inside = refl

-- a MultiPoint's or CircularString's end makes no part
pub points_inside : inside (multi_point (here ∷ []) ∷ []) ≡ refused_with 2
unfolding there_and_back
points_inside = refl

pub arc_inside : inside (circular_string (here ∷ []) ∷ []) ≡ refused_with 2
unfolding there_and_back
arc_inside = refl

-- the pairs of such an end go to the next part, where one follows
pub points_then_point : inside (multi_point (there ∷ []) ∷ point here ∷ []) ≡ back_as 1 (collection (point there ∷ []))
unfolding there_and_back events_of
points_then_point = refl

-- where no part follows, the pairs of such an end go to the next feature
pub point_then_points : (next (finish (written plain 1 7 false (collection (point here ∷ multi_point (there ∷ []) ∷ []))))).pending.xy ≡ 3 ∷ 4 ∷ []
unfolding written
point_then_points = refl

-- each line of several is a part
pub lines-inside : inside (multi_line_string ((here ∷ []) ∷ (there ∷ []) ∷ []) ∷ []) ≡ back_as 1 (collection (multi_line_string ((here ∷ []) ∷ []) ∷ multi_line_string ((there ∷ []) ∷ []) ∷ []))
unfolding there_and_back events_of
lines-inside = refl

pub triangles_inside : inside (tin ((here ∷ []) ∷ (there ∷ []) ∷ []) ∷ []) ≡ back_as 1 (collection (tin ((here ∷ []) ∷ []) ∷ tin ((there ∷ []) ∷ []) ∷ []))
unfolding there_and_back events_of
triangles_inside = refl

-- parts in parts are not made
pub polygons_inside : inside (multi_polygon (((here ∷ []) ∷ []) ∷ []) ∷ []) ≡ some (say (begin_e 7 false 2 0) (stop 2))
unfolding there_and_back
polygons_inside = refl

pub curve_inside : inside (compound_curve (straight (here ∷ []) ∷ []) ∷ []) ≡ some (say (begin_e 7 false 1 0) (stop 2))
unfolding there_and_back
curve_inside = refl

-- an inner collection is lost, and after it nothing more is taken
pub nested : there_and_back plain 2 7 false (collection (collection (point here ∷ []) ∷ [])) ≡ back_as 1 (collection (point here ∷ []))
unfolding there_and_back events_of
nested = refl

pub after-nested : there_and_back plain 2 7 false (collection (collection [] ∷ simple (point here) ∷ [])) ≡ none
unfolding there_and_back
after-nested = refl

-- ---- a height for some of the coordinates: the list is too short, and a later height comes first
pub some-heights : there_and_back high 0 2 false (line_string (raised ∷ there ∷ [])) ≡ some (say (begin_e 2 true 2 0) (say (coord_e 1 2 (some 9) none none none 0) (stop 7)))
unfolding there_and_back
some-heights = refl

pub late_height : there_and_back high 0 2 false (line_string (there ∷ raised ∷ [])) ≡ some (say (begin_e 2 true 2 0) (say (coord_e 3 4 (some 9) none none none 0) (stop 7)))
unfolding there_and_back
late_height = refl
