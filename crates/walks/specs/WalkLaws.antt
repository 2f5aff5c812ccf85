-- Laws of the type rules.
use Rattle.std.specs.Prelude.{◌≡◌, refl, false, ℕ, ◌<◌, eqb, Result}
use Rattle.std.proofs.Common.{Ok, Err, sym, ap, ◌∙◌, arith, ne_eqb}
use Rattle.kinds.specs.GeometryType.{number, TypeOf}
use Rattle.kinds.specs.declared.geometry_type.GeometryType.{GeometryType}
use Rattle.kinds.specs.declared.geometry_type.GeometryType.TheVariants.{Unknown, Point, LineString, Polygon, MultiPoint, MultiLineString, MultiPolygon, GeometryCollection, CircularString, CompoundCurve, CurvePolygon, MultiCurve, MultiSurface, Curve as CurveT, Surface, PolyhedralSurface, Tin, Triangle}
use Rattle.kinds.specs.declared.geometry_type.NoGeometryType.{NoGeometryType}
use Rattle.kinds.specs.declared.refusal.Refusal.{Refusal}
use Rattle.kinds.specs.declared.refusal.Refusal.TheVariants.{TypeUnknown, TypeNotACurve}
use Rattle.walks.specs.declared.walk.Walk.{Walk}
use Rattle.walks.specs.Walks.{walk_under, walk_named, walk_of, curve_walk, WalkOf}

-- a type that is none of those that are named
pub not_a_curve : (above kind : ℕ) → (kind ≡ 2 → ⊥) → (kind ≡ 8 → ⊥) → (kind ≡ 9 → ⊥) → (kind ≡ 3 → ⊥) → (kind ≡ 10 → ⊥) → Err TypeNotACurve ≡ curve_walk above kind
unfolding curve_walk
not_a_curve above kind a b c d e = rw (ne_eqb kind 2 a, ne_eqb kind 8 b, ne_eqb kind 9 c, ne_eqb kind 3 d, ne_eqb kind 10 e)

-- ---- the walk under a type is the walk under its number, and there is none under a byte that is no type's number
typed : (t : GeometryType) (stored : ℕ) → walk_under t stored ≡ walk_of (number t) stored
unfolding walk_of
typed Unknown stored = refl
typed Point stored = refl
typed LineString stored = refl
typed Polygon stored = refl
typed MultiPoint stored = refl
typed MultiLineString stored = refl
typed MultiPolygon stored = refl
typed GeometryCollection stored = refl
typed CircularString stored = refl
typed CompoundCurve stored = refl
typed CurvePolygon stored = refl
typed MultiCurve stored = refl
typed MultiSurface stored = refl
typed CurveT stored = refl
typed Surface stored = refl
typed PolyhedralSurface stored = refl
typed Tin stored = refl
typed Triangle stored = refl

untyped : (kind stored : ℕ) → 17 < kind → walk_of kind stored ≡ Err TypeUnknown
unfolding walk_of
untyped kind stored h =
    let other : (k : ℕ) → k < 18 → eqb kind k ≡ false = λ k l. ne_eqb kind k (λ e. omega (arith, e)) in
    rw (other 1 (omega arith), other 2 (omega arith), other 3 (omega arith), other 4 (omega arith), other 5 (omega arith), other 6 (omega arith), other 15 (omega arith), other 7 (omega arith), other 8 (omega arith), other 9 (omega arith), other 10 (omega arith), other 11 (omega arith), other 12 (omega arith), other 16 (omega arith), other 17 (omega arith))

pub walk_is : (kind stored : ℕ) {walk : Result Walk Refusal} → WalkOf kind stored walk → walk ≡ walk_of kind stored
walk_is kind stored w = w.walk_is ∙ by_type w.type w.type_is
  where
    by_type : (named : Result GeometryType NoGeometryType) → TypeOf kind named → walk_named named stored ≡ walk_of kind stored
    by_type (Ok t) e = typed t stored ∙ ap (λ (k : ℕ). walk_of k stored) e
    by_type (Err _) h = sym (untyped kind stored h)
