-- What the machine's tests say, and the tests from the facts.
use Rattle.std.specs.Prelude.{◌≡◌, refl, Bool, true, false, ◌||◌, ℕ, ◌≤◌, ltb, leb}
use Rattle.std.proofs.Common.{sym, eqb-true, eq-eqb, leb-true, le-leb, ltb-true, lt-ltb}
use Rattle.laws.specs.Every.{never, both}
use Rattle.nesting.specs.declared.geometry_type.GeometryType.{GeometryType}
use Rattle.nesting.specs.declared.geometry_type.GeometryType.TheVariants.{Point, LineString, Polygon, MultiPoint, MultiLineString, MultiPolygon, Collection}
use Rattle.nesting.specs.Rules.{Rules, limit, Enough, MayHold}
use Rattle.nesting.specs.Machine.{enough, allowed}

-- ---- sizes
either : (p : Bool) (n : ℕ) → (p || leb 1 n) ≡ true → p ≡ false → 1 ≤ n
either true n e q = absurd (never (sym q))
either false n e q = leb-true 1 n e

or-one : (p : Bool) (n : ℕ) → (p ≡ false → 1 ≤ n) → (p || leb 1 n) ≡ true
or-one true n h = refl
or-one false n h = le-leb 1 n (h refl)

module _ (R : Rules) where
  enough_true : (t : GeometryType) (n : ℕ) → enough R t n ≡ true → Enough R t n
  enough_true t n e = let u = both (R.may_be_empty t || leb 1 n) (ltb n limit) e in (either (R.may_be_empty t) n u.0, ltb-true n limit u.1)

  true_enough : (t : GeometryType) (n : ℕ) → Enough R t n → enough R t n ≡ true
  true_enough t n h = rw (or-one (R.may_be_empty t) n h.0, lt-ltb n limit h.1)

  pub allowed_true : (t : GeometryType) (n : ℕ) → allowed R t n ≡ true → MayHold R t n
  allowed_true Point n e = eqb-true n 0 e
  allowed_true LineString n e = enough_true LineString n e
  allowed_true Polygon n e = enough_true Polygon n e
  allowed_true MultiPoint n e = enough_true MultiPoint n e
  allowed_true MultiLineString n e = enough_true MultiLineString n e
  allowed_true MultiPolygon n e = enough_true MultiPolygon n e
  allowed_true Collection n e = enough_true Collection n e

  pub true_allowed : (t : GeometryType) (n : ℕ) → MayHold R t n → allowed R t n ≡ true
  true_allowed Point n h = eq-eqb n 0 h
  true_allowed LineString n h = true_enough LineString n h
  true_allowed Polygon n h = true_enough Polygon n h
  true_allowed MultiPoint n h = true_enough MultiPoint n h
  true_allowed MultiLineString n h = true_enough MultiLineString n h
  true_allowed MultiPolygon n h = true_enough MultiPolygon n h
  true_allowed Collection n h = true_enough Collection n h
