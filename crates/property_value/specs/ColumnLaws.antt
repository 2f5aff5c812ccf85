-- Laws of column types.
use Rattle.std.specs.Prelude.{◌≡◌, refl, true, ℕ, ◌+◌, ◌≤◌, ◌<◌, leb, eqb}
use Rattle.std.proofs.Common.{zero-le, arith, eqb-true, leb-true, ne_eqb}
use Rattle.laws.specs.Every.{every, every-at}
use Rattle.property_value.specs.Column.{width_of, is_width}

-- the width of a range of types, by a test that antt computes over the range
pub width_in : (from n width kind : ℕ) → every (λ x. eqb width (width_of x)) from n ≡ true → from ≤ kind → kind < from + n → width ≡ width_of kind
width_in from n width kind t h k = eqb-true width (width_of kind) (every-at (λ x. eqb width (width_of x)) from n kind t h k)

pub width_most : (kind : ℕ) → kind < 256 → width_of kind ≤ 8
unfolding width_of
width_most kind h = leb-true (width_of kind) 8 (every-at (λ x. leb (width_of x) 8) 0 256 kind refl zero-le (omega arith))

pub number_width : (kind : ℕ) → kind < 11 → is_width (width_of kind) ≡ true
unfolding is_width width_of
number_width kind h = every-at (λ x. is_width (width_of x)) 0 11 kind refl zero-le (omega arith)

pub last_width : (width : ℕ) → is_width width ≡ true → (width ≡ 1 → ⊥) → (width ≡ 2 → ⊥) → (width ≡ 4 → ⊥) → width ≡ 8
unfolding is_width
last_width width e one two four = eqb-true width 8 (simp (ne_eqb width 1 one, ne_eqb width 2 two, ne_eqb width 4 four) at e)
