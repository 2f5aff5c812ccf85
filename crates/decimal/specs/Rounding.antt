-- A quotient rounded to the nearest whole number, and where two are as near, to the even one.
use Rattle.std.specs.Prelude.{Bool, cond, ◌&&◌, ◌||◌, ℕ, ◌+◌, ◌*◌, ◌/◌, ◌%◌, ltb, eqb}

-- More than half is left, or just half and the quotient is odd.
unfoldable pub goes_up : ℕ → ℕ → Bool
goes_up n d = ltb d (2 * (n % d)) || (eqb (2 * (n % d)) d && eqb (n / d % 2) 1)

unfoldable pub half_to_even : ℕ → ℕ → ℕ
half_to_even n d = n / d + cond (goes_up n d) 1 0
