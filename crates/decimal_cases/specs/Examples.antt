-- The definitions on numbers that anyone can work out by hand.
use Rattle.std.specs.Prelude.{◌≡◌, refl}
use Rattle.decimal.specs.declared.Magnitude.{Magnitude}
use Rattle.decimal.specs.declared.Magnitude.TheVariants.{Finite, Vast, Infinite, NotANumber}
use Rattle.decimal.specs.Rounding.{goes_up, half_to_even}
use Rattle.decimal.specs.Magnitude.{ten_millionths, cut, told, special, magnitude, of_double, of_float}

-- 1.0, 0x3ff0000000000000
pub one : of_double 4607182418800017408 ≡ Finite (record { whole = 1; fraction = 0 })
unfolding goes_up half_to_even ten_millionths cut told special magnitude of_double
one = refl

-- 2^-8, 0x3f70000000000000, is 39062.5 ten-millionths, and 3 · 2^-8, 0x3f88000000000000, is 117187.5 of them.
pub half_down : of_double 4571153621781053440 ≡ Finite (record { whole = 0; fraction = 39062 })
unfolding goes_up half_to_even ten_millionths cut told special magnitude of_double
half_down = refl

pub half_up : of_double 4577909021222109184 ≡ Finite (record { whole = 0; fraction = 117188 })
unfolding goes_up half_to_even ten_millionths cut told special magnitude of_double
half_up = refl

-- The least number there is, 2^64, and what is no number.
pub least : of_double 1 ≡ Finite (record { whole = 0; fraction = 0 })
unfolding goes_up half_to_even ten_millionths cut told special magnitude of_double
least = refl

pub vast : of_double 4895412794951729152 ≡ Vast
unfolding goes_up half_to_even ten_millionths cut told special magnitude of_double
vast = refl

pub infinite : of_double 9218868437227405312 ≡ Infinite
unfolding special magnitude of_double
infinite = refl

pub not_a_number : of_double 9221120237041090560 ≡ NotANumber
unfolding special magnitude of_double
not_a_number = refl

-- The float nearest to 0.1, 0x3dcccccd
pub tenth : of_float 1036831949 ≡ Finite (record { whole = 0; fraction = 1000000 })
unfolding goes_up half_to_even ten_millionths cut told special magnitude of_float
tenth = refl
