-- What the code of a mantissa and an exponent leans on.
use Rattle.std.specs.Prelude.{◌≡◌, refl, ℕ, suc, ◌+◌, ◌*◌, ◌-◌, ◌/◌, ◌%◌, ◌^◌, ◌≤◌, ◌<◌}
use Rattle.std.proofs.Common.{sym, ap, ◌∙◌, mul-one, mul_right_comm, mul_left_comm, mul-le-mul_left, mod-eq_of_lt, arith, pow_mono, pow_pos, pow-add, lt-ltb, le-ltb}
use Rattle.std.proofs.Math.Nat.{pow-succ'}
use Rattle.std.proofs.Math.Pow.{split}
use Rattle.laws.specs.Cond.{if_so, if_not}
use Rattle.decimal.specs.declared.Decimal.{Decimal}
use Rattle.decimal.specs.declared.Magnitude.{Magnitude}
use Rattle.decimal.specs.declared.Magnitude.TheVariants.{Finite, Vast}
use Rattle.decimal.specs.Rounding.{half_to_even}
use Rattle.decimal.specs.RoundingLaws.{whole, at_most, one_more_lem, common_factor, apart, moved}
use Rattle.decimal.specs.Magnitude.{ten_millionths, cut, told}

-- A mantissa goes up by `most` bits within a word, and out of it by more.
pub record Held (mantissa exponent point most : ℕ) : Type 0 where
  pub few : most < 64
  pub short : mantissa < 2 ^ 63
  pub within : mantissa * 2 ^ most < 2 ^ 64
  pub beyond : point + most < exponent → 2 ^ 63 ≤ mantissa * 2 ^ most

-- ---- what is carried
pub cut_below : (w f : ℕ) → f < 10000000 → ◌≡◌ {A = Decimal} (record { whole = w; fraction = f }) (cut (w * 10000000 + f))
unfolding cut
cut_below w f h = λ i. record { whole = before i; fraction = behind i }
  where
    before : w ≡ (w * 10000000 + f) / 10000000
    before = omega arith

    behind : f ≡ (w * 10000000 + f) % 10000000
    behind = omega arith

pub cut_full : (w f : ℕ) → f ≡ 10000000 → ◌≡◌ {A = Decimal} (record { whole = w + 1; fraction = 0 }) (cut (w * 10000000 + f))
unfolding cut
cut_full w f h = λ i. record { whole = before i; fraction = behind i }
  where
    before : w + 1 ≡ (w * 10000000 + f) / 10000000
    before = omega arith

    behind : 0 ≡ (w * 10000000 + f) % 10000000
    behind = omega arith

-- ---- bits behind the point
-- A whole part and the bits below it, moved to the top of a word.
pub parted : (m bits : ℕ) → bits < 64
    → m / 2 ^ bits * 10000000 + half_to_even (m * 2 ^ (64 - bits) % 2 ^ 64 * 10000000) (2 ^ 64) ≡ half_to_even (m * 10000000) (2 ^ bits)
parted m bits h =
    ap (λ (x : ℕ). m / 2 ^ bits * 10000000 + x) same_fraction
    ∙ sym (apart (m / 2 ^ bits) (m % 2 ^ bits) (2 ^ bits) (pow_pos bits))
    ∙ ap (λ (x : ℕ). half_to_even (x * 10000000) (2 ^ bits)) (split m bits)
  where
    word : 64 ≡ bits + (64 - bits)
    word = omega arith

    top : m * 2 ^ (64 - bits) % 2 ^ 64 ≡ m % 2 ^ bits * 2 ^ (64 - bits)
    top = ap (λ (x : ℕ). m * 2 ^ (64 - bits) % 2 ^ x) word ∙ moved m bits (64 - bits)

    divisor : 2 ^ 64 ≡ 2 ^ bits * 2 ^ (64 - bits)
    divisor = ap (λ (x : ℕ). 2 ^ x) word ∙ pow-add 2 bits (64 - bits)

    same_fraction : half_to_even (m * 2 ^ (64 - bits) % 2 ^ 64 * 10000000) (2 ^ 64) ≡ half_to_even (m % 2 ^ bits * 10000000) (2 ^ bits)
    same_fraction =
        ap (λ (x : ℕ). half_to_even (x * 10000000) (2 ^ 64)) top
        ∙ ap (λ (x : ℕ). half_to_even x (2 ^ 64)) (mul_right_comm (m % 2 ^ bits) (2 ^ (64 - bits)) 10000000)
        ∙ ap (λ (x : ℕ). half_to_even (m % 2 ^ bits * 10000000 * 2 ^ (64 - bits)) x) divisor
        ∙ common_factor (m % 2 ^ bits * 10000000) (2 ^ bits) (2 ^ (64 - bits)) (pow_pos bits) (pow_pos (64 - bits))

-- A word with all of its bits behind the point.
pub at_most_one : (n bits : ℕ) → n < 2 ^ 64 → 64 ≤ bits → half_to_even (n * 10000000) (2 ^ bits) ≤ 10000000
at_most_one n bits h g =
    let far : 2 ^ 64 ≤ 2 ^ bits = pow_mono {i = 64} {j = bits} g in
    at_most n (2 ^ bits) (omega arith)

-- ---- what is told
below-point : (point m e : ℕ) → e < point → ten_millionths point m e ≡ half_to_even (m * 10000000) (2 ^ (point - e))
unfolding ten_millionths
below-point point m e h =
    let none : e - point ≡ 0 = omega arith in
    ap (λ (x : ℕ). half_to_even (m * 2 ^ x * 10000000) (2 ^ (point - e))) none
    ∙ ap (λ (x : ℕ). half_to_even (x * 10000000) (2 ^ (point - e))) (mul-one m)

from-point : (point m e : ℕ) → point ≤ e → ten_millionths point m e ≡ m * 2 ^ (e - point) * 10000000
unfolding ten_millionths
from-point point m e h =
    let none : point - e ≡ 0 = omega arith in
    ap (λ (x : ℕ). half_to_even (m * 2 ^ (e - point) * 10000000) (2 ^ x)) none
    ∙ whole (m * 2 ^ (e - point) * 10000000)

pub told_below : (point m e : ℕ) (d : Decimal) → e < point → m < 2 ^ 63 → d ≡ cut (half_to_even (m * 10000000) (2 ^ (point - e)))
    → Finite d ≡ told (ten_millionths point m e)
unfolding told
told_below point m e d h short is =
    if_so Vast (lt-ltb _ _ fits) (ap Finite (is ∙ ap cut (sym (below-point point m e h))))
  where
    fits : ten_millionths point m e / 10000000 < 2 ^ 64
    fits = rw (below-point point m e h) (omega (arith, one_more_lem (m * 10000000) (2 ^ (point - e))))

pub told_vast : (point m e most : ℕ) → Held m e point most → point ≤ e → most < e - point → Vast ≡ told (ten_millionths point m e)
unfolding told
told_vast point m e most held h g = if_not (Finite (cut (ten_millionths point m e))) (le-ltb _ _ vast) refl
  where
    doubled : m * 2 ^ suc most ≡ 2 * (m * 2 ^ most)
    doubled = ap (λ (x : ℕ). m * x) (pow-succ' 2 most) ∙ mul_left_comm m 2 (2 ^ most)

    further : m * 2 ^ suc most ≤ m * 2 ^ (e - point)
    further = mul-le-mul_left m (pow_mono {i = suc most} {j = e - point} g)

    full : 2 ^ 63 ≤ m * 2 ^ most
    full = held.beyond (omega arith)

    vast : 2 ^ 64 ≤ ten_millionths point m e / 10000000
    vast = rw (from-point point m e h) (omega (arith, doubled, further, full))

pub told_whole : (point m e most : ℕ) → Held m e point most → point ≤ e → e - point ≤ most
    → ◌≡◌ {A = Magnitude} (Finite (record { whole = m * 2 ^ (e - point) % 2 ^ 64; fraction = 0 })) (told (ten_millionths point m e))
unfolding told
told_whole point m e most held h g = if_so Vast (lt-ltb _ _ fits) (ap Finite exact)
  where
    under : m * 2 ^ (e - point) < 2 ^ 64
    under = omega (arith, held.within, mul-le-mul_left m (pow_mono {i = e - point} {j = most} g))

    fits : ten_millionths point m e / 10000000 < 2 ^ 64
    fits = rw (from-point point m e h) (omega (arith, under))

    exact : ◌≡◌ {A = Decimal} (record { whole = m * 2 ^ (e - point) % 2 ^ 64; fraction = 0 }) (cut (ten_millionths point m e))
    exact =
        ap (λ (x : ℕ). record { whole = x; fraction = 0 }) (mod-eq_of_lt under)
        ∙ cut_below (m * 2 ^ (e - point)) 0 (omega arith)
        ∙ ap cut (omega (arith, from-point point m e h))
