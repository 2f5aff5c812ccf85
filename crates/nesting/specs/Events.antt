-- The events that tell of a geometry: begins, ends and pairs, with true sizes and indices from zero.
use Rattle.std.specs.Prelude.{Bool, true, false, List, [], ◌∷◌, ℕ, zero, suc, ◌+◌, length}
use Rattle.nesting.specs.declared.geometry_type.GeometryType.{GeometryType}
use Rattle.nesting.specs.declared.geometry_type.GeometryType.TheVariants.{Point, LineString, Polygon, MultiPoint, MultiLineString, MultiPolygon, Collection}
use Rattle.planar.specs.Geometry.{Coord, Line, Rings, Simple, point, line_string, polygon, multi_point, multi_line_string, multi_polygon, simple, collection, Geometry}

-- A begin has type, tag, size and idx, an end type, tag and idx, a pair x, y and idx. No geometry of these types has any other event: it is
-- `strange`, and has its kind.
pub data Event : Type 0 where
  begin : GeometryType → Bool → ℕ → ℕ → Event
  end : GeometryType → Bool → ℕ → Event
  pair : ℕ → ℕ → ℕ → Event
  strange : ℕ → Event

-- ---- events, before others; `i` is the number that the events carry
abbrev pub Tells : Type 0 → Type 0
Tells A = A → ℕ → List Event → List Event

abbrev pub each : {A : Type 0} → Tells A → Tells (List A)
each f [] i k = k
each f (a ∷ xs) i k = f a i (each f xs (i + 1) k)

-- a begin with the number of elements, the elements numbered from 0, an end
abbrev pub group : {A : Type 0} → GeometryType → Bool → Tells A → Tells (List A)
group type tagged f xs i k = begin type tagged (length xs) i ∷ each f xs 0 (end type tagged i ∷ k)

abbrev pub coord_of : Tells Coord
coord_of c i k = pair c.x c.y i ∷ k

-- a line or polygon is tagged when outermost or in a collection, untagged inside another type
abbrev pub line_of : Tells Line
line_of = group LineString false coord_of

abbrev pub rings_of : Tells Rings
rings_of = group Polygon false line_of

-- a Point's begin has no size: the field is 0
abbrev pub simple_of : Tells Simple
simple_of (point c) i k = begin Point false 0 i ∷ coord_of c 0 (end Point false i ∷ k)
simple_of (line_string l) i k = group LineString true coord_of l i k
simple_of (polygon rs) i k = group Polygon true line_of rs i k
simple_of (multi_point cs) i k = group MultiPoint false coord_of cs i k
simple_of (multi_line_string ls) i k = group MultiLineString false line_of ls i k
simple_of (multi_polygon ps) i k = group MultiPolygon false rings_of ps i k

abbrev pub geometry_of : (n : ℕ) → Tells (Geometry n)
geometry_of zero s i k = simple_of s i k
geometry_of (suc n) (simple s) i k = simple_of s i k
geometry_of (suc n) (collection gs) i k = group Collection false (geometry_of n) gs i k

-- the outermost geometry's index is 0
abbrev pub events_of : (n : ℕ) → Geometry n → List Event
events_of n g = geometry_of n g 0 []
