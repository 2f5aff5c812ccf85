-- How an event record begins: three bytes and a spare one; and two numbers as one word.
use Rattle.std.specs.Prelude.{◌≡◌, List, [], ◌∷◌, ◌++◌, ℕ, ◌+◌, ◌*◌, ◌/◌, ◌%◌, ◌<◌}
use Rattle.std.proofs.Common.{ap, ◌∙◌, arith}
use Rattle.laws.specs.Bytes.{le, halves}

abbrev pub head_bytes : ℕ → ℕ → ℕ → List ℕ
head_bytes first second third = first ∷ second ∷ third ∷ 0 ∷ []

-- ---- four bytes and a number, or two numbers, as one word
pub head-word : (a b c size : ℕ) → a < 256 → b < 256 → c < 256 → size < 4294967296 → le 8 (a + 256 * b + 65536 * c + 4294967296 * size) ≡ head_bytes a b c ++ le 4 size
head-word a b c size a-fits b-fits c-fits size_fits =
    let v : ℕ = a + 256 * b + 65536 * c + 4294967296 * size in
    let low : v % 4294967296 ≡ a + 256 * b + 65536 * c = omega arith in
    let high : v / 4294967296 ≡ size = omega arith in
    let w : ℕ = a + 256 * b + 65536 * c in
    let first : w % 256 ≡ a = omega arith in
    let but_one : w / 256 ≡ b + 256 * c = omega arith in
    let last : (b + 256 * c) / 256 ≡ c = omega arith in
    let but_two : w / 256 / 256 ≡ c = ap (λ (n : ℕ). n / 256) but_one ∙ last in
    let middle : (b + 256 * c) % 256 ≡ b = omega arith in
    let second : w / 256 % 256 ≡ b = ap (λ (n : ℕ). n % 256) but_one ∙ middle in
    let small : c % 256 ≡ c = omega arith in
    let third : w / 256 / 256 % 256 ≡ c = ap (λ (n : ℕ). n % 256) but_two ∙ small in
    let none : c / 256 % 256 ≡ 0 = omega arith in
    let spare : w / 256 / 256 / 256 % 256 ≡ 0 = ap (λ (n : ℕ). n / 256 % 256) but_two ∙ none in
    halves v ∙ (λ i. le 4 (low i) ++ le 4 (high i)) ∙ (λ i. (first i ∷ second i ∷ third i ∷ spare i ∷ []) ++ le 4 size)

pub two-words : (v w : ℕ) → v < 4294967296 → le 8 (v + 4294967296 * w) ≡ le 4 v ++ le 4 w
two-words v w fits =
    let low : (v + 4294967296 * w) % 4294967296 ≡ v = omega arith in
    let high : (v + 4294967296 * w) / 4294967296 ≡ w = omega arith in
    halves (v + 4294967296 * w) ∙ (λ i. le 4 (low i) ++ le 4 (high i))
