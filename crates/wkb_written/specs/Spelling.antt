-- Events as well-known binary, little-endian, one behind the other: what each adds goes by its own fields and by what it stands in.
use Rattle.std.specs.Prelude.{Bool, true, false, not, cond, ◌&&◌, List, [], ◌∷◌, ◌++◌, ℕ}
use Rattle.laws.specs.Bytes.{le}
use Rattle.nesting.specs.declared.geometry_type.GeometryType.{GeometryType}
use Rattle.nesting.specs.declared.geometry_type.GeometryType.TheVariants.{Point, LineString, Polygon, MultiPoint, MultiLineString, MultiPolygon, Collection}
use Rattle.wkb_written.specs.declared.around.Around.{Around}
use Rattle.nesting.specs.Events.{Event, begin, end, pair, strange}

abbrev pub outermost : Around
outermost = record { rings = false; points = false }

-- a head, little-endian
abbrev pub head_bytes : ℕ → List ℕ
head_bytes type = 1 ∷ le 4 type

abbrev pub rings_in : GeometryType → Bool → Bool
rings_in Point rings = rings
rings_in LineString rings = rings
rings_in Polygon rings = true
rings_in MultiPoint rings = rings
rings_in MultiLineString rings = false
rings_in MultiPolygon rings = rings
rings_in Collection rings = rings

abbrev pub points_in : GeometryType → Bool
points_in Point = false
points_in LineString = false
points_in Polygon = false
points_in MultiPoint = true
points_in MultiLineString = false
points_in MultiPolygon = false
points_in Collection = false

-- what stands around the next event
abbrev pub after : Around → Event → Around
after k (begin type tagged size idx) = record { rings = rings_in type k.rings; points = points_in type }
after k (end type tagged idx) = k
after k (pair x y idx) = k
after k (strange kind) = k

abbrev pub pair_of : ℕ → ℕ → List ℕ
pair_of x y = le 8 x ++ le 8 y

abbrev pub begin_bytes : Around → GeometryType → Bool → ℕ → List ℕ
begin_bytes k Point tagged size = head_bytes 1
begin_bytes k LineString tagged size = cond (k.rings && not tagged) (le 4 size) (head_bytes 2 ++ le 4 size)
begin_bytes k Polygon tagged size = head_bytes 3 ++ le 4 size
begin_bytes k MultiPoint tagged size = head_bytes 4 ++ le 4 size
begin_bytes k MultiLineString tagged size = head_bytes 5 ++ le 4 size
begin_bytes k MultiPolygon tagged size = head_bytes 6 ++ le 4 size
begin_bytes k Collection tagged size = head_bytes 7 ++ le 4 size

abbrev pub bytes_of : Around → Event → List ℕ
bytes_of k (begin type tagged size idx) = begin_bytes k type tagged size
bytes_of k (end type tagged idx) = []
bytes_of k (pair x y idx) = cond k.points (head_bytes 1 ++ pair_of x y) (pair_of x y)
bytes_of k (strange kind) = []

unfoldable pub spelled : Around → List Event → List ℕ
spelled k [] = []
spelled k (e ∷ es) = bytes_of k e ++ spelled (after k e) es
