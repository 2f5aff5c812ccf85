-- SPEC 7.5, 7.20, which walk a record takes: the type rules of geometry_reader.rs, decided before the record is read.
use Rattle.std.specs.Prelude.{◌≡◌, Result, true, false, cond, not, ◌&&◌, ℕ, eqb}
use Rattle.std.proofs.Common.{Ok, Err}
use Rattle.kinds.specs.GeometryType.{TypeOf}
use Rattle.kinds.specs.declared.geometry_type.GeometryType.{GeometryType}
use Rattle.kinds.specs.declared.geometry_type.GeometryType.TheVariants.{Unknown as UnknownT, Point as PointT, LineString as LineStringT, Polygon as PolygonT, MultiPoint as MultiPointT, MultiLineString as MultiLineStringT, MultiPolygon, GeometryCollection, CircularString as CircularStringT, CompoundCurve, CurvePolygon, MultiCurve, MultiSurface, Curve as CurveT, Surface as SurfaceT, PolyhedralSurface, Tin as TinT, Triangle as TriangleT}
use Rattle.kinds.specs.declared.geometry_type.NoGeometryType.{NoGeometryType}
use Rattle.kinds.specs.declared.refusal.Refusal.{Refusal}
use Rattle.kinds.specs.declared.refusal.Refusal.TheVariants.{TypeUnknown, TypeNotACurve}
use Rattle.own_lists.specs.declared.own.Own.TheVariants.{Point, LineString, MultiPoint, CircularString, Polygon, MultiLineString, Tin, Triangle}
use Rattle.walks.specs.declared.walk.Role.{Role}
use Rattle.walks.specs.declared.walk.Role.TheVariants.{Geometry as AnyGeometry, Polygon as AsPolygon, Curve}
use Rattle.walks.specs.declared.walk.Walk.{Walk}
use Rattle.walks.specs.declared.walk.Walk.TheVariants.{Own, Parts}

-- the type rules of read_geometry_n
abbrev pub walk_under : GeometryType → ℕ → Result Walk Refusal
walk_under UnknownT stored = Err TypeUnknown
walk_under PointT stored = Ok (Own Point)
walk_under LineStringT stored = Ok (Own (LineString true))
walk_under PolygonT stored = Ok (Own (Polygon true))
walk_under MultiPointT stored = Ok (Own MultiPoint)
walk_under MultiLineStringT stored = Ok (Own MultiLineString)
walk_under MultiPolygon stored = Ok (Parts MultiPolygon AsPolygon)
walk_under GeometryCollection stored = Ok (Parts GeometryCollection AnyGeometry)
walk_under CircularStringT stored = Ok (Own CircularString)
walk_under CompoundCurve stored = Ok (Parts CompoundCurve (Curve stored))
walk_under CurvePolygon stored = Ok (Parts CurvePolygon (Curve stored))
walk_under MultiCurve stored = Ok (Parts MultiCurve (Curve stored))
walk_under MultiSurface stored = Ok (Parts MultiSurface (Curve stored))
walk_under CurveT stored = Err TypeUnknown
walk_under SurfaceT stored = Err TypeUnknown
walk_under PolyhedralSurface stored = Ok (Parts PolyhedralSurface AsPolygon)
walk_under TinT stored = Ok (Own Tin)
walk_under TriangleT stored = Ok (Own Triangle)

abbrev pub walk_named : Result GeometryType NoGeometryType → ℕ → Result Walk Refusal
walk_named (Ok type) stored = walk_under type stored
walk_named (Err _) stored = Err TypeUnknown

-- the walk under the type that a byte is the number of, or under none
pub record WalkOf (kind stored : ℕ) (walk : Result Walk Refusal) : Type 0 where
  pub type : Result GeometryType NoGeometryType
  pub type_is : TypeOf kind type
  pub walk_is : walk ≡ walk_named type stored

-- the same by the byte
unfoldable pub walk_of : ℕ → ℕ → Result Walk Refusal
walk_of type stored =
    cond (eqb type 1) (Ok (Own Point))
    (cond (eqb type 2) (Ok (Own (LineString true)))
    (cond (eqb type 3) (Ok (Own (Polygon true)))
    (cond (eqb type 4) (Ok (Own MultiPoint))
    (cond (eqb type 5) (Ok (Own MultiLineString))
    (cond (eqb type 6) (Ok (Parts MultiPolygon AsPolygon))
    (cond (eqb type 15) (Ok (Parts PolyhedralSurface AsPolygon))
    (cond (eqb type 7) (Ok (Parts GeometryCollection AnyGeometry))
    (cond (eqb type 8) (Ok (Own CircularString))
    (cond (eqb type 9) (Ok (Parts CompoundCurve (Curve stored)))
    (cond (eqb type 10) (Ok (Parts CurvePolygon (Curve stored)))
    (cond (eqb type 11) (Ok (Parts MultiCurve (Curve stored)))
    (cond (eqb type 12) (Ok (Parts MultiSurface (Curve stored)))
    (cond (eqb type 16) (Ok (Own Tin))
    (cond (eqb type 17) (Ok (Own Triangle))
    (Err TypeUnknown)))))))))))))))

-- the type rules of read_curve
unfoldable pub curve_walk : ℕ → ℕ → Result Walk Refusal
curve_walk above kind =
    cond (eqb kind 2) (Ok (Own (LineString false)))
    (cond (eqb kind 8) (Ok (Own CircularString))
    (cond (eqb kind 9 && not (eqb above 9)) (Ok (Parts CompoundCurve (Curve kind)))
    (cond (eqb kind 3 && eqb above 12) (Ok (Own (Polygon true)))
    (cond (eqb kind 10 && eqb above 12) (Ok (Parts CurvePolygon (Curve kind))) (Err TypeNotACurve)))))

abbrev pub WalkIn : Role → ℕ → Result Walk Refusal → Type 0
WalkIn AnyGeometry kind walk = WalkOf kind kind walk
WalkIn AsPolygon kind walk = walk ≡ Ok (Own (Polygon false))
WalkIn (Curve above) kind walk = walk ≡ curve_walk above kind

abbrev pub walk_in : Role → ℕ → Result Walk Refusal
walk_in AnyGeometry kind = walk_of kind kind
walk_in AsPolygon kind = Ok (Own (Polygon false))
walk_in (Curve above) kind = curve_walk above kind
