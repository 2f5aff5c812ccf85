-- What a flat event is read as, by what its kind was told to be.
use Rattle.kinds.specs.declared.event.Event.{Event as Flat}
use Rattle.std.specs.Prelude.{◌≡◌, refl, Bool, true, false, ℕ, ◌-◌, eqb, None}
use Rattle.std.proofs.Common.{sym, ap, ◌∙◌, ne_eqb}
use Rattle.nesting.specs.declared.geometry_type.GeometryType.{GeometryType}
use Rattle.nesting.specs.declared.geometry_type.GeometryType.TheVariants.{Point, LineString, Polygon, MultiPoint, MultiLineString, MultiPolygon, Collection}
use Rattle.nesting.specs.Events.{begin, pair, strange}
use Rattle.nesting.specs.Machine.{number, numbered}
use Rattle.nesting.specs.Flat.{is_type, read_as, read}
use Rattle.nesting.specs.Taking.{OfNumber}
use Rattle.nesting.specs.Tests.{numbered-number}
use Rattle.nesting.proofs.FlatLaws.{number-numbered}

type-number : (type : GeometryType) → is_type (number type) ≡ true
type-number Point = refl
type-number LineString = refl
type-number Polygon = refl
type-number MultiPoint = refl
type-number MultiLineString = refl
type-number MultiPolygon = refl
type-number Collection = refl

pub is-type : (n : ℕ) (type : GeometryType) → n ≡ number type → is_type n ≡ true
is-type n type e = ap is_type e ∙ type-number type

pub no_type : (n : ℕ) → OfNumber n None → is_type n ≡ false
no_type n none = go (is_type n) refl
  where
    go : (b : Bool) → is_type n ≡ b → b ≡ false
    go true h = absurd (none (numbered n) (sym (number-numbered n h)))
    go false h = refl

module _ (e : Flat) where
  begin-by : (b c d : Bool) → b ≡ true → (type : GeometryType) → numbered e.kind ≡ type → read_as b c d e ≡ begin type e.tagged e.size e.idx
  begin-by b c d h type n = rw (h, n)

  other-by : (b c d : Bool) → b ≡ false → c ≡ false → d ≡ false → read_as b c d e ≡ strange e.kind
  other-by b c d h k l = rw (h, k, l)

  pair-by : (b c d : Bool) → b ≡ false → c ≡ false → d ≡ true → read_as b c d e ≡ pair e.x e.y e.idx
  pair-by b c d h k l = rw (h, k, l)

  pub reads_begin : (type : GeometryType) → e.kind ≡ number type → read e ≡ begin type e.tagged e.size e.idx
  reads_begin type h = begin-by (is_type e.kind) (is_type (e.kind - 32)) (eqb e.kind 64) (is-type e.kind type h) type (ap numbered h ∙ numbered-number type)

  pub reads_pair : e.kind ≡ 64 → read e ≡ pair e.x e.y e.idx
  reads_pair h = pair-by (is_type e.kind) (is_type (e.kind - 32)) (eqb e.kind 64) (ap is_type h) (ap (λ (n : ℕ). is_type (n - 32)) h) (ap (λ (n : ℕ). eqb n 64) h)

  pub reads_strange : OfNumber e.kind None → OfNumber (e.kind - 32) None → (e.kind ≡ 64 → ⊥) → read e ≡ strange e.kind
  reads_strange no_begin no_end no_pair =
      other-by (is_type e.kind) (is_type (e.kind - 32)) (eqb e.kind 64) (no_type e.kind no_begin) (no_type (e.kind - 32) no_end) (ne_eqb e.kind 64 no_pair)
