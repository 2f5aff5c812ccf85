-- What the code of a fraction leans on.
use Rattle.std.specs.Prelude.{◌≡◌, Bool, not, cond, ◌&&◌, ◌||◌, ℕ, suc, ◌+◌, ◌*◌, ◌-◌, ◌/◌, ◌%◌, ◌^◌, ◌≤◌, ◌<◌, ltb, eqb}
use Rattle.std.proofs.Common.{sym, ap, ◌∙◌, arith, pow_mono}
use Rattle.decimal.specs.Rounding.{half_to_even}
use Rattle.decimal.specs.RoundingLaws.{nothing, by-words}

-- Below 2^-95 of a word there is nothing in ten-millionths.
pub tiny : (n bits : ℕ) → n < 2 ^ 64 → 95 < bits → half_to_even (n * 10000000) (2 ^ bits) ≡ 0
tiny n bits h g =
    let far : 2 ^ 96 ≤ 2 ^ bits = pow_mono {i = 96} {j = bits} g in
    nothing (n * 10000000) (2 ^ bits) (omega arith)

-- The test of the code: what is left of a word, and whether anything is left below it.
abbrev pub up : ℕ → ℕ → Bool → Bool
up quotient rest more = ltb (2 ^ 63) rest || (eqb rest (2 ^ 63) && (more || eqb (quotient % 2) 1))

-- The quotient by half words, gone up or not.
pub rounded : (n bits hi lo : ℕ) (b : Bool) → 64 ≤ bits → bits ≤ 95 → hi * 4294967296 + lo ≡ n * 10000000 → lo < 4294967296
    → b ≡ up (hi / 2 ^ (bits - 32)) (hi * 2 ^ (96 - bits) % 2 ^ 64) (not (eqb lo 0))
    → hi / 2 ^ (bits - 32) + cond b 1 0 ≡ half_to_even (n * 10000000) (2 ^ bits)
rounded n bits hi lo b least most product small test =
    ap (λ (x : Bool). hi / 2 ^ (bits - 32) + cond x 1 0) test
    ∙ ap (λ (x : ℕ). hi / 2 ^ x + cond (up (hi / 2 ^ x) (hi * 2 ^ (96 - bits) % 2 ^ 64) (not (eqb lo 0))) 1 0) high_bits
    ∙ sym (by-words hi lo (bits - 33) (96 - bits) small word)
    ∙ ap (λ (x : ℕ). half_to_even (hi * 4294967296 + lo) (2 ^ x)) all-bits
    ∙ ap (λ (x : ℕ). half_to_even x (2 ^ bits)) product
  where
    high_bits : bits - 32 ≡ suc (bits - 33)
    high_bits = omega arith

    word : bits - 33 + (96 - bits) ≡ 63
    word = omega arith

    all-bits : suc (bits - 33) + 32 ≡ bits
    all-bits = omega arith
