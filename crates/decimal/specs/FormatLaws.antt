-- What the code of a format leans on.
use Rattle.std.specs.Prelude.{◌≡◌, ℕ, ◌+◌, ◌*◌, ◌^◌, ◌≤◌, ◌<◌}
use Rattle.std.proofs.Common.{arith, mul-le-mul_right, pow_pos}
use Rattle.std.proofs.Math.Nat.{mul-lt-mul_of_pos_right, mul_assoc}
use Rattle.decimal.specs.FiniteLaws.{Held}

-- A mantissa has the implied bit as its highest, and goes up by `up` bits to the top of a word.
pub record IsFormat (sign implied point up : ℕ) : Type 0 where
  pub signed : 0 < sign
  pub short : implied ≤ 2 ^ 62
  pub some : 0 < implied
  pub few : up < 64
  pub far : 0 < point
  pub top : implied * 2 ^ up ≡ 2 ^ 63

module _ (sign implied point up : ℕ) (is : IsFormat sign implied point up) where
  -- A mantissa below twice the implied bit stays within a word.
  within_word : (m : ℕ) → m < 2 * implied → m * 2 ^ up < 2 ^ 64
  within_word m h =
      omega (arith, is.top, mul_assoc 2 implied (2 ^ up), mul-lt-mul_of_pos_right {k = 2 ^ up} h (pow_pos up))

  pub held_least : (fraction : ℕ) → fraction < implied → Held fraction 1 point up
  held_least fraction h = record {
    few = is.few;
    short = omega (arith, is.short);
    within = within_word fraction (omega arith);
    beyond = λ g. omega (arith, is.far);
  }

  pub held_more : (fraction exponent : ℕ) → fraction < implied → Held (fraction + implied) exponent point up
  held_more fraction exponent h = record {
    few = is.few;
    short = omega (arith, is.short);
    within = within_word (fraction + implied) (omega arith);
    beyond = λ g. omega (arith, is.top, below);
  }
    where
      below : implied * 2 ^ up ≤ (fraction + implied) * 2 ^ up
      below = mul-le-mul_right (2 ^ up) (omega arith)
