-- Facts on doubles and their patterns.
use Rattle.std.specs.Prelude.{◌≡◌, refl, Bool, true, false, not, ℕ, ◌<◌, ◌^◌, T, Float}
use Rattle.std.proofs.Common.{sym, ◌∙◌, ap, subst}
use Rattle.std.specs.Float.{nan, inf, fin, binary64}
use Rattle.std.specs.Float.Ieee.{of_bits, to_bits, div, lt, eq, ne, is_nan, nan_bits}
use Rattle.std.specs.Float.Ieee.Compare.{differs_from_itself}
use Rattle.std.specs.Float.Ieee.Bits.{nan_bits_is, to_bits-of_bits}

is_nan_lem : (x : Float) → is_nan x ≡ true → x ≡ nan
unfolding is_nan
is_nan_lem nan e = refl
is_nan_lem (inf s) e = cc
is_nan_lem (fin s m x) e = cc

pub nan_of : (w : ℕ) → nan_bits binary64 w ≡ true → of_bits binary64 w ≡ nan
nan_of w e = is_nan_lem (of_bits binary64 w) (sym (nan_bits_is binary64 w) ∙ e)

pub zero_by_zero : div binary64 (of_bits binary64 0) (of_bits binary64 0) ≡ nan
unfolding div of_bits
zero_by_zero = refl

pub below_nan : (x : Float) → lt x nan ≡ false
unfolding lt
below_nan nan = refl
below_nan (inf s) = refl
below_nan (fin s m e) = refl

pub nan_below : (x : Float) → lt nan x ≡ false
unfolding lt
nan_below x = refl

-- the bits of a double that came from a pattern are that pattern, unless it is a NaN's
pub bits_back : (w : ℕ) → w < 2 ^ 64 → nan_bits binary64 w ≡ false → to_bits binary64 (of_bits binary64 w) ≡ w
bits_back w h e = to_bits-of_bits binary64 w h (subst T (sym (ap not (sym (nan_bits_is binary64 w) ∙ e))) tt)

-- a double that equals itself is a number, and one that does not is the NaN
pub self_number : (x : Float) → eq x x ≡ true → T (not (is_nan x))
unfolding eq is_nan
self_number nan e = absurd (subst T (sym e) tt)
self_number (inf s) e = tt
self_number (fin s m x) e = tt

pub self_nan : (x : Float) → eq x x ≡ false → x ≡ nan
unfolding ne
self_nan x e = differs_from_itself x (subst (λ (b : Bool). T (not b)) (sym e) tt)
