-- The two byte orders: numbers as bytes in either, and back.
use Rattle.std.specs.Prelude.{◌≡◌, List, [], ◌∷◌, reverse, ℕ, ◌+◌, ◌≤◌, length, get_or, take, drop}
use Rattle.std.proofs.Common.{sym, ◌∙◌, arith}
use Rattle.laws.specs.Bytes.{le, unle, part_join, four-at}
use Rattle.wkb.specs.declared.order.Order.{Order}
use Rattle.wkb.specs.declared.order.Order.TheVariants.{Big, Little}

-- a number in so many bytes: the highest first, or the lowest
abbrev pub number_bytes : Order → ℕ → ℕ → List ℕ
number_bytes Big wide v = reverse (le wide v)
number_bytes Little wide v = le wide v

-- the number that bytes are
abbrev pub value_of : Order → List ℕ → ℕ
value_of Big l = unle (reverse l)
value_of Little l = unle l

-- the number that so many bytes from a place on are, the highest first
abbrev pub big_at : ℕ → List ℕ → ℕ → ℕ
big_at wide l at = unle (reverse (take wide (drop at l)))

-- and in either order
abbrev pub value_at : Order → ℕ → List ℕ → ℕ → ℕ
value_at order wide l at = value_of order (take wide (drop at l))

-- eight bytes, one by one
pub eight-bytes : (l : List ℕ) (at : ℕ) → at + 8 ≤ length l
    → take 8 (drop at l) ≡ get_or l at 0 ∷ get_or l (at + 1) 0 ∷ get_or l (at + 2) 0 ∷ get_or l (at + 3) 0 ∷ get_or l (at + 4) 0 ∷ get_or l (at + 5) 0 ∷ get_or l (at + 6) 0 ∷ get_or l (at + 7) 0 ∷ []
eight-bytes l at h =
    let p : at + 4 ≤ length l = omega arith in
    let q : at + 4 + 4 ≤ length l = omega arith in
    let one : at + 4 + 1 ≡ at + 5 = omega arith in
    let two : at + 4 + 2 ≡ at + 6 = omega arith in
    let three : at + 4 + 3 ≡ at + 7 = omega arith in
    sym (part_join 4 4 at l) ∙ rw (four-at l at p, four-at l (at + 4) q, one, two, three)
