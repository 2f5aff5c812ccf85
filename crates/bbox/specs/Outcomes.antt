-- Outcomes that are easily mistaken, computed: both zeros, and the infinities.
use Rattle.std.specs.Prelude.{◌≡◌, refl, Bool, true, false, not, ℕ, ℤ, Float}
use Rattle.std.specs.Float.{fin}
use Rattle.std.specs.Float.Ieee.{of_bits, lt}
use Rattle.bbox.specs.Box.{Side, least, greatest, moved, beginning, double}

-- the zeros and the infinities, the negative one for `true`
abbrev zero : Bool → Float
zero false = double 0
zero true = double 0x8000_0000_0000_0000

abbrev infinity : Bool → Float
infinity false = double 0x7ff0_0000_0000_0000
infinity true = double 0xfff0_0000_0000_0000

-- the sign of the infinity that is beyond every number
abbrev outward : Side → Bool
outward least = true
outward greatest = false

-- a side's edge of the beginning box
abbrev first : Side → Float
first least = beginning.least_x
first greatest = beginning.greatest_x

zero_moves_no_zero : (side : Side) (sign : Bool) → moved side (zero sign) (zero (not sign)) ≡ zero sign
unfolding of_bits lt
zero_moves_no_zero least false = refl
zero_moves_no_zero least true = refl
zero_moves_no_zero greatest false = refl
zero_moves_no_zero greatest true = refl

infinity_moves_number : (side : Side) (s : Bool) (m : ℕ) (e : ℤ) → moved side (fin s m e) (infinity (outward side)) ≡ infinity (outward side)
unfolding of_bits lt
infinity_moves_number least s m e = refl
infinity_moves_number greatest s m e = refl

number_moves_first : (side : Side) (s : Bool) (m : ℕ) (e : ℤ) → moved side (first side) (fin s m e) ≡ fin s m e
unfolding lt beginning
number_moves_first least s m e = refl
number_moves_first greatest s m e = refl

infinity_moves_first : (side : Side) → moved side (first side) (infinity (outward side)) ≡ infinity (outward side)
unfolding of_bits lt beginning
infinity_moves_first least = refl
infinity_moves_first greatest = refl

same_infinity_leaves_first : (side : Side) → moved side (first side) (infinity (not (outward side))) ≡ first side
unfolding of_bits lt beginning
same_infinity_leaves_first least = refl
same_infinity_leaves_first greatest = refl
