-- The numbers of geometry types (SPEC 2.1).
use Rattle.std.specs.Prelude.{◌≡◌, ℕ, ◌<◌, Result}
use Rattle.std.proofs.Common.{Ok, Err, arith}
use Rattle.kinds.specs.declared.geometry_type.GeometryType.{GeometryType}
use Rattle.kinds.specs.declared.geometry_type.NoGeometryType.{NoGeometryType}
use Rattle.kinds.specs.declared.geometry_type.GeometryType.TheVariants.{Unknown, Point, LineString, Polygon, MultiPoint, MultiLineString, MultiPolygon, GeometryCollection, CircularString, CompoundCurve, CurvePolygon, MultiCurve, MultiSurface, Curve, Surface, PolyhedralSurface, Tin, Triangle}

abbrev pub number : GeometryType → ℕ
number Unknown = 0
number Point = 1
number LineString = 2
number Polygon = 3
number MultiPoint = 4
number MultiLineString = 5
number MultiPolygon = 6
number GeometryCollection = 7
number CircularString = 8
number CompoundCurve = 9
number CurvePolygon = 10
number MultiCurve = 11
number MultiSurface = 12
number Curve = 13
number Surface = 14
number PolyhedralSurface = 15
number Tin = 16
number Triangle = 17

-- the type that a byte is the number of, or that it is none's
abbrev pub TypeOf : ℕ → Result GeometryType NoGeometryType → Type 0
TypeOf byte (Ok t) = number t ≡ byte
TypeOf byte (Err _) = 17 < byte

pub number_small : (t : GeometryType) → number t < 18
number_small t = grind arith
