-- Laws of UTF-8 that the proofs cite.
use Rattle.std.specs.Prelude.{◌≡◌, refl, Bool, true, false, cond, ◌&&◌, ◌||◌, List, [], ◌∷◌, ℕ, zero, suc, ◌+◌, ◌-◌, ◌≤◌, ◌<◌, leb, ltb, eqb, get_or, drop}
use Rattle.std.proofs.Common.{sym, ◌∙◌, ap, zero-le, suc-le-suc, add-one, length-drop, drop_of_length-le, drop-drop, le-ltb, eq-eqb, ne_eqb, eqb-true, leb-true}
use native.Mathlib.Omega.{arith}
use Rattle.std.proofs.Math.ListN.{length}
use Rattle.std.proofs.Math.Seq.{drop-cons}
use Rattle.std.proofs.lemmas.Bool.{eqb-false}
use Rattle.laws.specs.Every.{never, both, other, every, every-at, each}
use Rattle.utf8.specs.Utf8.{Range, ◌‥◌, Row, rows, has, tail, tails, second, opens, find, row_of, begins, char_length, run, first_bad}

-- Two rows are the same where a test says so.

abbrev same_range : Range → Range → Bool
same_range (a ‥ e) (b ‥ f) = eqb a b && eqb e f

same_range_lem : (p q : Range) → same_range p q ≡ true → p ≡ q
same_range_lem (a ‥ e) (b ‥ f) t =
    let t = both (eqb a b) (eqb e f) t in
    cc (eqb-true a b t.0, eqb-true e f t.1)

abbrev pub same_row : Row → Row → Bool
same_row [] [] = true
same_row [] (q ∷ s) = false
same_row (p ∷ r) [] = false
same_row (p ∷ r) (q ∷ s) = same_range p q && same_row r s

pub same_row_lem : (r s : Row) → same_row r s ≡ true → r ≡ s
same_row_lem [] [] t = refl
same_row_lem [] (q ∷ s) t = absurd (never t)
same_row_lem (p ∷ r) [] t = absurd (never t)
same_row_lem (p ∷ r) (q ∷ s) t =
    let t = both (same_range p q) (same_row r s) t in
    cc (same_range_lem p q t.0, same_row_lem r s t.1)

-- What the code may take for granted of the row of a byte.

pub length_in : (from n len b : ℕ) → every (λ x. eqb len (length (row_of x))) from n ≡ true →
    from ≤ b → b < from + n → len ≡ length (row_of b)
length_in from n len b t h k = eqb-true len (length (row_of b)) (every-at (λ x. eqb len (length (row_of x))) from n b t h k)

abbrev narrow : ℕ → Bool
narrow b = eqb b 0xe0 || eqb b 0xed || eqb b 0xf0 || eqb b 0xf4

pub second-wide : (b : ℕ) → b < 256 → (b ≡ 0xe0 → ⊥) → (b ≡ 0xed → ⊥) → (b ≡ 0xf0 → ⊥) → (b ≡ 0xf4 → ⊥) →
    second (row_of b) ≡ tail
unfolding row_of second
second-wide b h e0 ed f0 f4 =
    same_range_lem (second (row_of b)) tail
    (other (narrow b) (same_range (second (row_of b)) tail) (simp (ne_eqb b 0xe0 e0, ne_eqb b 0xed ed, ne_eqb b 0xf0 f0, ne_eqb b 0xf4 f4))
    (every-at (λ x. narrow x || same_range (second (row_of x)) tail) 0 256 b refl zero-le (omega arith)))

-- what holds of the empty row and of each row of a list holds of the row that is found
find-each : (f : Row → Bool) (listed : List Row) (b : ℕ) → f [] ≡ true → each f listed ≡ true → f (find listed b) ≡ true
unfolding find
find-each f [] b z t = z
find-each f (row ∷ others) b z t = go (opens row b) (find-each f others b z (both (f row) (each f others) t).1)
  where
    go : (v : Bool) → f (find others b) ≡ true → f (cond v row (find others b)) ≡ true
    go true later = (both (f row) (each f others) t).0
    go false later = later

pub length_most : (b : ℕ) → length (row_of b) ≤ 4
unfolding row_of
length_most b = leb-true (length (row_of b)) 4 (find-each (λ row. leb (length row) 4) rows b refl refl)

abbrev after_first : Row → Row
after_first row = second row ∷ tails (length row - 2)

after_first_lem : (b : ℕ) → 2 ≤ length (row_of b) → drop 1 (row_of b) ≡ after_first (row_of b)
unfolding row_of second
after_first_lem b l =
    same_row_lem (drop 1 (row_of b)) (after_first (row_of b))
    (other (ltb (length (row_of b)) 2) (same_row (drop 1 (row_of b)) (after_first (row_of b))) (le-ltb (length (row_of b)) 2 l)
    (find-each (λ row. ltb (length row) 2 || same_row (drop 1 row) (after_first row)) rows b refl refl))

-- A list that begins as a row has it.

begins-at : (range : Range) (row : Row) (s : List ℕ) (at : ℕ) → at < length s →
    begins (range ∷ row) (drop at s) ≡ (has range (get_or s at 0) && begins row (drop (at + 1) s))
unfolding begins
begins-at range row s at h = rw (add-one, drop-cons s at 0)

pub tails-first : (count : ℕ) (s : List ℕ) (at : ℕ) → 0 < count → at < length s →
    begins (tails count) (drop at s) ≡ (has tail (get_or s at 0) && begins (tails (count - 1)) (drop (at + 1) s))
tails-first zero s at n h = absurd (omega arith)
tails-first (suc count) s at n h = let less : suc count - 1 ≡ count = omega arith in rw less (begins-at tail (tails count) s at h)

begins_long : (row : Row) (s : List ℕ) → begins row s ≡ true → length row ≤ length s
unfolding begins
begins_long [] s e = zero-le
begins_long (range ∷ row) [] e = absurd (never e)
begins_long (range ∷ row) (b ∷ s) e = suc-le-suc (begins_long row s (both (has range b) (begins row s) e).1)

-- The character at a place, as the code finds it: `len` is how many bytes the row of its first byte has.

module _ (s : List ℕ) (at len : ℕ) (within : at < length s) (known : len ≡ length (row_of (get_or s at 0))) where
  abbrev row : Row
  row = row_of (get_or s at 0)

  char_row : char_length (drop at s) ≡ cond (begins (drop 1 row) (drop (at + 1) s)) len 0
  unfolding char_length
  char_row = rw (add-one, drop-cons s at 0, known)

  pub char_brief : len < 2 → char_length (drop at s) ≡ len
  unfolding begins
  char_brief h =
      let alone : length row ≤ 1 = omega arith in
      char_row ∙ rw (drop_of_length-le row alone)

  pub char_cut : length s - at < len → char_length (drop at s) ≡ 0
  char_cut h = char_row ∙ go (begins (drop 1 row) (drop (at + 1) s)) refl
    where
      go : (t : Bool) → begins (drop 1 row) (drop (at + 1) s) ≡ t → cond t len 0 ≡ 0
      go true e = absurd (omega (arith, simp length-drop at (begins_long (drop 1 row) (drop (at + 1) s) e)))
      go false e = refl

  pub char_long : 2 ≤ len → at + 1 < length s →
      char_length (drop at s) ≡ cond (has (second row) (get_or s (at + 1) 0) && begins (tails (len - 2)) (drop (at + 2) s)) len 0
  char_long l h =
      let next : at + 1 + 1 ≡ at + 2 = omega arith in
      char_row ∙ rw (after_first_lem (get_or s at 0) (omega arith), begins-at (second row) (tails (length row - 2)) s (at + 1) h, next, known)

pub char_within : (s : List ℕ) → char_length s ≤ length s
unfolding char_length
char_within [] = zero-le
char_within (b ∷ s) = go (begins (drop 1 (row_of b)) s) refl
  where
    go : (t : Bool) → begins (drop 1 (row_of b)) s ≡ t → cond t (length (row_of b)) 0 ≤ suc (length s)
    go true e = omega (arith, simp length-drop at (begins_long (drop 1 (row_of b)) s e))
    go false e = zero-le

-- The first bad place, a character at a time.

run_stop : (most : ℕ) (s : List ℕ) → char_length s ≡ 0 → run most s ≡ 0
unfolding run
run_stop zero s e = refl
run_stop (suc most) s e = simp (eq-eqb (char_length s) 0 e)

run-next : (most : ℕ) (s : List ℕ) → (char_length s ≡ 0 → ⊥) → run (suc most) s ≡ char_length s + run most (drop (char_length s) s)
unfolding run
run-next most s n = simp (ne_eqb (char_length s) 0 n)

run-enough : (most more : ℕ) (s : List ℕ) → length s ≤ most → length s ≤ more → run most s ≡ run more s
unfolding run
run-enough zero more s h k = sym (run_stop more s (omega (arith, char_within s)))
run-enough (suc most) zero s h k = run_stop (suc most) s (omega (arith, char_within s))
run-enough (suc most) (suc more) s h k =
    go (eqb (char_length s) 0) refl
    (λ n. run-enough most more (drop (char_length s) s) (simp length-drop (omega arith)) (simp length-drop (omega arith)))
  where
    go : (t : Bool) → eqb (char_length s) 0 ≡ t →
        ((char_length s ≡ 0 → ⊥) → run most (drop (char_length s) s) ≡ run more (drop (char_length s) s)) →
        run (suc most) s ≡ run (suc more) s
    go true e m = let z = eqb-true (char_length s) 0 e in run_stop (suc most) s z ∙ sym (run_stop (suc more) s z)
    go false e m = let n = eqb-false (char_length s) 0 e in run-next most s n ∙ ap (λ (x : ℕ). char_length s + x) (m n) ∙ sym (run-next more s n)

pub bad_here : (s : List ℕ) → char_length s ≡ 0 → first_bad s ≡ 0
unfolding first_bad
bad_here s e = run_stop (length s) s e

pub bad_later : (s : List ℕ) → (char_length s ≡ 0 → ⊥) → first_bad s ≡ char_length s + first_bad (drop (char_length s) s)
unfolding first_bad
bad_later s n =
    run-enough (length s) (suc (length s)) s (omega arith) (omega arith)
    ∙ run-next (length s) s n
    ∙ ap (λ (x : ℕ). char_length s + x) (run-enough (length s) (length rest) rest (simp length-drop (omega arith)) (omega arith))
  where
    rest : List ℕ
    rest = drop (char_length s) s

-- the laws of a character's length and of the first bad byte, for the bytes of a list from a place on

pub char_at_within : (s : List ℕ) (at : ℕ) → char_length (drop at s) ≤ length s - at
char_at_within s at = simp length-drop at (char_within (drop at s))

pub bad_at_end : (s : List ℕ) (at : ℕ) → length s ≤ at → first_bad (drop at s) ≡ 0
unfolding first_bad run
bad_at_end s at h = rw (drop_of_length-le s h)

pub bad_at_next : (s : List ℕ) (at len : ℕ) → len ≡ char_length (drop at s) → (len ≡ 0 → ⊥) →
    at + first_bad (drop at s) ≡ at + len + first_bad (drop (at + len) s)
bad_at_next s at len e n = rw (e, bad_later (drop at s) (λ z. n (e ∙ z)), drop-drop (char_length (drop at s)) at s) (omega arith)

pub ascii_at : (s : List ℕ) (at : ℕ) → at < length s → get_or s at 0 < 128 → 1 ≡ char_length (drop at s)
unfolding row_of
ascii_at s at within small = sym (char_brief s at 1 within (length_in 0x00 0x80 1 (get_or s at 0) refl (omega arith) (omega (arith, small))) (omega arith))
