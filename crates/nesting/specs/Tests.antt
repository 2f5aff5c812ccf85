-- What the machine's tests say, and the tests from the facts.
use Rattle.std.specs.Prelude.{◌≡◌, refl, Bool, true, false, ◌&&◌, ℕ, suc, eqb, leb}
use Rattle.std.proofs.Common.{sym, ap, ◌∙◌, eqb-true, leb-true, le-leb}
use Rattle.laws.specs.Every.{never, both}
use Rattle.nesting.specs.declared.geometry_type.GeometryType.{GeometryType}
use Rattle.nesting.specs.declared.geometry_type.GeometryType.TheVariants.{Point, LineString, Polygon, MultiPoint, MultiLineString, MultiPolygon, Collection}
use Rattle.nesting.specs.Rules.{Rules, Clear}
use Rattle.nesting.specs.Machine.{number, numbered, same, exceeds}

three : (p q r : Bool) → (p && q && r) ≡ true → (p ≡ true) × (q ≡ true) × (r ≡ true)
three p q r e = let t = both (p && q) r e in let u = both p q t.0 in (u.0, u.1, t.1)

pub four : (p q r s : Bool) → (p && q && r && s) ≡ true → (p ≡ true) × (q ≡ true) × (r ≡ true) × (s ≡ true)
four p q r s e = let t = both (p && q && r) s e in let u = three p q r t.0 in (u.0, u.1, u.2, t.1)

pub five : (p q r s t : Bool) → (p && q && r && s && t) ≡ true → (p ≡ true) × (q ≡ true) × (r ≡ true) × (s ≡ true) × (t ≡ true)
five p q r s t e = let u = both (p && q && r && s) t e in let v = four p q r s u.0 in (v.0, v.1, v.2, v.3, u.1)

pub same_true : (a b : Bool) → same a b ≡ true → a ≡ b
same_true true true e = refl
same_true true false e = absurd (never e)
same_true false true e = absurd (never e)
same_true false false e = refl

pub same_self : (a : Bool) → same a a ≡ true
same_self true = refl
same_self false = refl

pub numbered-number : (t : GeometryType) → numbered (number t) ≡ t
numbered-number Point = refl
numbered-number LineString = refl
numbered-number Polygon = refl
numbered-number MultiPoint = refl
numbered-number MultiLineString = refl
numbered-number MultiPolygon = refl
numbered-number Collection = refl

pub same_number : (t u : GeometryType) → number t ≡ number u → t ≡ u
same_number t u e = sym (numbered-number t) ∙ ap numbered e ∙ numbered-number u

pub number_true : (t u : GeometryType) → eqb (number t) (number u) ≡ true → t ≡ u
number_true t u e = same_number t u (eqb-true (number t) (number u) e)

module _ (R : Rules) where
  -- ---- levels
  pub exceeds_false : (t : GeometryType) (level n : ℕ) → exceeds R t level n ≡ false → Clear R t level n
  exceeds_false t level n e opened some = rw (opened, le-leb 1 n some) at e

  pub false_exceeds : (t : GeometryType) (level n : ℕ) → Clear R t level n → exceeds R t level n ≡ false
  false_exceeds t level n clear = go (R.opens t) refl (leb 1 n) refl
    where
      go : (p : Bool) → R.opens t ≡ p → (q : Bool) → leb 1 n ≡ q → (p && q && R.too_deep (suc level)) ≡ false
      go false a q b = refl
      go true a false b = refl
      go true a true b = clear a (leb-true 1 n b)
