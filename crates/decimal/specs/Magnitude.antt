-- What a double or a float is worth without its sign, by IEEE 754's patterns, in ten-millionths.
use Rattle.std.specs.Prelude.{cond, ℕ, ◌+◌, ◌*◌, ◌-◌, ◌/◌, ◌%◌, ◌^◌, ltb, eqb}
use Rattle.decimal.specs.declared.Decimal.{Decimal}
use Rattle.decimal.specs.declared.Magnitude.{Magnitude}
use Rattle.decimal.specs.declared.Magnitude.TheVariants.{Finite, Vast, Infinite, NotANumber}
use Rattle.decimal.specs.Rounding.{half_to_even}

-- m · 2^(e - point) · 10^7, rounded half to even. A difference below zero is zero, so one of the two powers is 1.
unfoldable pub ten_millionths : ℕ → ℕ → ℕ → ℕ
ten_millionths point m e = half_to_even (m * 2 ^ (e - point) * 10000000) (2 ^ (point - e))

-- So many ten-millionths, as what stands before the point and behind it.
unfoldable pub cut : ℕ → Decimal
cut n = record { whole = n / 10000000; fraction = n % 10000000 }

-- What does not fit a word before the point is vast.
unfoldable pub told : ℕ → Magnitude
told n = cond (ltb (n / 10000000) (2 ^ 64)) (Finite (cut n)) Vast

-- An exponent field of all ones is no number that has digits.
unfoldable pub special : ℕ → Magnitude
special fraction = cond (eqb fraction 0) Infinite NotANumber

-- A pattern by its exponent field and its fraction field. An exponent field of zeros has the least exponent and no implied bit.
unfoldable pub magnitude : ℕ → ℕ → ℕ → ℕ → ℕ → Magnitude
magnitude ones implied point exponent fraction =
    cond (eqb exponent ones)
    (special fraction)
    (cond (eqb exponent 0) (told (ten_millionths point fraction 1)) (told (ten_millionths point (fraction + implied) exponent)))

-- A double has 52 bits of fraction and 11 of exponent, whose bias is 1023: at the exponent field 1075 the mantissa is a whole number.
unfoldable pub of_double : ℕ → Magnitude
of_double bits = magnitude 2047 (2 ^ 52) 1075 (bits % 2 ^ 63 / 2 ^ 52) (bits % 2 ^ 52)

-- A float has 23 bits of fraction and 8 of exponent, whose bias is 127.
unfoldable pub of_float : ℕ → Magnitude
of_float bits = magnitude 255 (2 ^ 23) 150 (bits % 2 ^ 31 / 2 ^ 23) (bits % 2 ^ 23)
