-- SPEC 11.7: the events that tell of a geometry, begins, ends and pairs, with true sizes and indices from zero.
use Rattle.std.specs.Prelude.{Bool, true, false, cond, List, [], ◌∷◌, ℕ, zero, suc, ◌+◌, length}
use Rattle.std.proofs.Math.Option.{Option, none}
use Rattle.kinds.specs.Event.{begin_e, end_e, xy_e}
use Rattle.kinds.specs.declared.event.Event.{Event}
use Rattle.kinds.specs.declared.flags.Flags.{Flags}
use Rattle.geometries.specs.Coordinate.{multi, coord_e}
use Rattle.geometries.specs.Geometry.{Coord, Line, Segment, straight, arc, Curve, segment, compound, Surface, flat, curved, Simple, point, line_string, polygon, multi_point, multi_line_string, multi_polygon, circular_string, compound_curve, curve_polygon, multi_curve, multi_surface, polyhedral_surface, tin, triangle, simple, collection, Geometry}

-- ---- events, before others; `i` is the number that the events carry
abbrev pub Tells : Type 0 → Type 0
Tells A = A → ℕ → List Event → List Event

abbrev pub shown : Bool → Option ℕ → Option ℕ
shown true o = o
shown false o = none

abbrev pub each : {A : Type 0} → Tells A → Tells (List A)
each f [] i k = k
each f (a ∷ xs) i k = f a i (each f xs (i + 1) k)

-- a begin with the number of elements, the elements numbered from 0, an end
abbrev pub group : {A : Type 0} → ℕ → Bool → Tells A → Tells (List A)
group type tagged f xs i k = begin_e type tagged (length xs) i ∷ each f xs 0 (end_e type tagged i ∷ k)

module _ (F : Flags) where
  -- a pair is kind 64; where any flag is set kind 65, with the values that the flags show
  abbrev pub seen_as : Coord → ℕ → Event
  seen_as c i = cond (multi F) (coord_e c.x c.y (shown F.z c.z) (shown F.m c.m) (shown F.t c.t) (shown F.tm c.tm) i) (xy_e c.x c.y i)

  abbrev pub coord_of : Tells Coord
  coord_of c i k = seen_as c i ∷ k

  -- inside another type a line is untagged, and so is a polygon or a triangle; a surface's polygon is tagged
  abbrev pub line_of : Tells Line
  line_of = group 2 false coord_of

  abbrev pub triangle_of : Bool → Tells Line
  triangle_of tagged l = group 17 tagged line_of (l ∷ [])

  abbrev pub segment_of : Tells Segment
  segment_of (straight l) = line_of l
  segment_of (arc l) = group 8 false coord_of l

  abbrev pub curve_of : Tells Curve
  curve_of (segment s) = segment_of s
  curve_of (compound ss) = group 9 false segment_of ss

  abbrev pub surface_of : Tells Surface
  surface_of (flat rs) = group 3 true line_of rs
  surface_of (curved cs) = group 10 false curve_of cs

  abbrev pub simple_of : Tells Simple
  simple_of (point c) i k = begin_e 1 false 0 i ∷ coord_of c 0 (end_e 1 false i ∷ k)
  simple_of (line_string l) i k = group 2 true coord_of l i k
  simple_of (polygon rs) i k = group 3 true line_of rs i k
  simple_of (multi_point cs) i k = group 4 false coord_of cs i k
  simple_of (multi_line_string ls) i k = group 5 false line_of ls i k
  simple_of (multi_polygon ps) i k = group 6 false (group 3 false line_of) ps i k
  simple_of (circular_string l) i k = group 8 false coord_of l i k
  simple_of (compound_curve ss) i k = group 9 false segment_of ss i k
  simple_of (curve_polygon cs) i k = group 10 false curve_of cs i k
  simple_of (multi_curve cs) i k = group 11 false curve_of cs i k
  simple_of (multi_surface ss) i k = group 12 false surface_of ss i k
  simple_of (polyhedral_surface ps) i k = group 15 false (group 3 false line_of) ps i k
  simple_of (tin ts) i k = group 16 false (triangle_of false) ts i k
  simple_of (triangle l) i k = triangle_of true l i k

  abbrev pub geometry_of : (n : ℕ) → Tells (Geometry n)
  geometry_of zero s i k = simple_of s i k
  geometry_of (suc n) (simple s) i k = simple_of s i k
  geometry_of (suc n) (collection gs) i k = group 7 false (geometry_of n) gs i k

  -- the outermost geometry's index is 0
  unfoldable pub events_of : (n : ℕ) → Geometry n → List Event
  events_of n g = geometry_of n g 0 []

-- the first event of a geometry that stands alone
abbrev pub begins : Simple → Event
begins (point c) = begin_e 1 false 0 0
begins (line_string l) = begin_e 2 true (length l) 0
begins (polygon rs) = begin_e 3 true (length rs) 0
begins (multi_point cs) = begin_e 4 false (length cs) 0
begins (multi_line_string ls) = begin_e 5 false (length ls) 0
begins (multi_polygon ps) = begin_e 6 false (length ps) 0
begins (circular_string l) = begin_e 8 false (length l) 0
begins (compound_curve ss) = begin_e 9 false (length ss) 0
begins (curve_polygon cs) = begin_e 10 false (length cs) 0
begins (multi_curve cs) = begin_e 11 false (length cs) 0
begins (multi_surface ss) = begin_e 12 false (length ss) 0
begins (polyhedral_surface ps) = begin_e 15 false (length ps) 0
begins (tin ts) = begin_e 16 false (length ts) 0
begins (triangle l) = begin_e 17 true 1 0
