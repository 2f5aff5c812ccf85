-- A decimal number as a person reads it, in ASCII.
use Rattle.std.specs.Prelude.{◌≡◌, Bool, cond, List, ◌∷◌, ◌++◌, ℕ, length, decimal}
use Rattle.io.specs.Digits.{last_digits, IsDigitCount}
use Rattle.decimal.specs.declared.Decimal.{Decimal}

-- A minus sign, where it is negative.
abbrev pub signed : Bool → List ℕ → List ℕ
signed negative text = cond negative (45 ∷ text) text

-- The digits before the point, as few as there can be and at least one, the point, and seven digits.
abbrev pub pointed : ℕ → Decimal → List ℕ
pointed places d = last_digits 10 places d.whole ++ 46 ∷ last_digits 10 7 d.fraction

pub record Spelt (negative : Bool) (d : Decimal) (text : List ℕ) : Type 0 where
  pub places : ℕ
  pub fewest : IsDigitCount 10 1 d.whole places
  pub reads : text ≡ signed negative (pointed places d)

-- The text that is printed: with as many digits before the point as the number has.
unfoldable pub spelt : Bool → Decimal → List ℕ
spelt negative d = signed negative (pointed (length (decimal d.whole)) d)
