-- Digits laid down from the last to the first, and the one text that a number has.
use Rattle.std.specs.Prelude.{◌≡◌, refl, Bool, true, false, List, [], ◌∷◌, ◌++◌, ℕ, zero, suc, ◌+◌, ◌-◌, ◌/◌, ◌%◌, ◌^◌, ◌≤◌, ◌<◌, leb, length, get_or, take, drop, set, decimal, IsAscii}
use Rattle.std.proofs.Common.{sym, ap, subst, ◌∙◌, append_assoc, append-nil, mod-lt, arith, length-set, length-append, length-drop, add-one, take_all, drop-cons, get_or-set_same, drop-set-lt, lt-ltb, leb-true, leb-false}
use Rattle.std.proofs.Math.Nat.{pow-le-pow_right, pow-succ'}
use Rattle.std.proofs.Math.Seq.{drop-length}
use Rattle.std.proofs.lemmas.Fmt.{decimal_by_steps}
use Rattle.std.proofs.lemmas.Str.{IsAscii-append}
use Rattle.std.proofs.lemmas.Str.Ascii.{IsAscii-nil, IsAscii-from_all}
use Rattle.laws.specs.Cond.{if_so}
use Rattle.io.specs.Digits.{last_digits, hex_digit_ascii, IsDigitCount}
use Rattle.decimal.specs.declared.Decimal.{Decimal}
use Rattle.decimal.specs.Text.{Spelt, spelt, signed, pointed}

pub glyph_of : (n : ℕ) → 48 + n % 10 ≡ hex_digit_ascii (n % 10)
glyph_of n = if_so (87 + n % 10) (lt-ltb (n % 10) 10 (mod-lt n (omega arith))) refl

-- What stands from a place on, after a store there.
pub stored : (l : List ℕ) (i v : ℕ) → i < length l → drop i (set l i v) ≡ v ∷ drop (suc i) l
stored l i v h =
    drop-cons (set l i v) i 0 (omega (arith, length-set l i v))
    ∙ ap (λ (x : ℕ). x ∷ drop (suc i) (set l i v)) (get_or-set_same l i v 0 h)
    ∙ ap (λ (x : List ℕ). v ∷ x) (drop-set-lt (suc i) l i v (omega arith))

-- One digit more is laid down before those that stand.
pub digit_more : (k n i : ℕ) (l : List ℕ) → i < length l
    → last_digits 10 k (n / 10) ++ drop i (set l i (hex_digit_ascii (n % 10))) ≡ last_digits 10 (suc k) n ++ drop (suc i) l
digit_more k n i l h =
    ap (λ (x : List ℕ). last_digits 10 k (n / 10) ++ x) (stored l i (hex_digit_ascii (n % 10)) h)
    ∙ sym (append_assoc (last_digits 10 k (n / 10)) (hex_digit_ascii (n % 10) ∷ []) (drop (suc i) l))

-- The turns of a loop that lays down the digits from `from` on: what is left to lay, before what stands, comes to all of it.
module _ (from i rest : ℕ) (l all : List ℕ) (so_far : last_digits 10 (i - from) rest ++ drop i l ≡ all) where
  pub laid_more : (v : ℕ) → from < i → i ≤ length l → v ≡ hex_digit_ascii (rest % 10)
      → last_digits 10 (i - 1 - from) (rest / 10) ++ drop (i - 1) (set l (i - 1) v) ≡ all
  laid_more v more within is =
      ap (λ (x : ℕ). last_digits 10 (i - 1 - from) (rest / 10) ++ drop (i - 1) (set l (i - 1) x)) is
      ∙ digit_more (i - 1 - from) rest (i - 1) l (omega arith)
      ∙ ap (λ (x : ℕ). last_digits 10 x rest ++ drop (suc (i - 1)) l) left
      ∙ ap (λ (x : ℕ). last_digits 10 (i - from) rest ++ drop x l) here
      ∙ so_far
    where
      left : suc (i - 1 - from) ≡ i - from
      left = omega arith

      here : suc (i - 1) ≡ i
      here = omega arith

  pub laid-all : i ≤ from → from ≤ i → drop from l ≡ all
  laid-all done within =
      ap (λ (x : ℕ). drop x l) here ∙ ap (λ (x : ℕ). last_digits 10 x rest ++ drop i l) none ∙ so_far
    where
      here : from ≡ i
      here = omega arith

      none : 0 ≡ i - from
      none = omega arith

-- Seven digits at the end of 29 bytes, the point before them, and the others before that.
pub laid_out : (k w f : ℕ) (first behind before : List ℕ) → k ≤ 20 → length first ≡ 29 → length behind ≡ 29
    → drop 22 behind ≡ last_digits 10 7 f ++ drop 29 first
    → drop (21 - k) before ≡ last_digits 10 (21 - (21 - k)) w ++ drop 21 (set behind 21 46)
    → drop (21 - k) before ≡ last_digits 10 k w ++ 46 ∷ last_digits 10 7 f
laid_out k w f first behind before few sized same fraction laid =
    laid
    ∙ ap (λ (x : ℕ). last_digits 10 x w ++ drop 21 (set behind 21 46)) so_many
    ∙ ap (λ (x : List ℕ). last_digits 10 k w ++ x) (stored behind 21 46 (omega arith))
    ∙ ap (λ (x : List ℕ). last_digits 10 k w ++ 46 ∷ x) (fraction ∙ ap (λ (x : List ℕ). last_digits 10 7 f ++ x) end ∙ append-nil (last_digits 10 7 f))
  where
    so_many : 21 - (21 - k) ≡ k
    so_many = omega arith

    end : drop 29 first ≡ []
    end = ap (λ (x : ℕ). drop x first) (sym sized) ∙ drop-length first

-- A byte before what stands.
pub put-before : (l : List ℕ) (i v : ℕ) → 0 < i → i ≤ length l → drop (i - 1) (set l (i - 1) v) ≡ v ∷ drop i l
put-before l i v h g = stored l (i - 1) v (omega arith) ∙ ap (λ (x : ℕ). v ∷ drop x l) here
  where
    here : suc (i - 1) ≡ i
    here = omega arith

-- A word has twenty digits at most.
pub few_places : (n k : ℕ) → n < 2 ^ 64 → IsDigitCount 10 1 n k → k ≤ 20
few_places n k h fewest = go (leb k 20) refl
  where
    go : (b : Bool) → leb k 20 ≡ b → k ≤ 20
    go true e = leb-true k 20 e
    go false e =
        let more : 20 < k = leb-false k 20 e in
        omega (arith, fewest.2 (omega arith), pow-le-pow_right {n = 10} (omega arith) {i = 20} {j = k - 1} (omega arith))

-- A number's own digits: as many as it has, and these the last of it.
pub record OwnDigits (n : ℕ) (digits : List ℕ) : Type 0 where
  pub fewest : IsDigitCount 10 1 n (length digits)
  pub last : digits ≡ last_digits 10 (length digits) n

-- A digit more needs a number ten times as large.
large : (n k : ℕ) → 10 ≤ n → 1 ≤ k → (1 < k → 10 ^ (k - 1) ≤ n / 10) → 10 ^ k ≤ n
large n zero h least more = elim least [ ]
large n (suc zero) h least more = h
large n (suc (suc k)) h least more =
    let before : suc (suc k) - 1 ≡ suc k = omega arith in
    let front : 10 ^ suc k ≤ n / 10 = rw before at (more (omega arith)) in
    omega (arith, front, pow-succ' 10 (suc k))

one_more : (n : ℕ) (ds all : List ℕ) → 10 ≤ n → OwnDigits (n / 10) ds → all ≡ ds ++ ((48 + n % 10) ∷ []) → OwnDigits n all
one_more n ds all h front is = record {
  fewest = (
    omega (arith, longer),
    rw longer (omega (arith, front.fewest.1, pow-succ' 10 (length ds))),
    λ g. rw (ap (λ (x : ℕ). 10 ^ (x - 1)) longer ∙ ap (λ (x : ℕ). 10 ^ x) before) (large n (length ds) h front.fewest.0 front.fewest.2),
  );
  last =
      is
      ∙ ap (λ (x : List ℕ). x ++ ((48 + n % 10) ∷ [])) front.last
      ∙ ap (λ (x : ℕ). last_digits 10 (length ds) (n / 10) ++ (x ∷ [])) (glyph_of n)
      ∙ ap (λ (x : ℕ). last_digits 10 x n) (sym longer);
}
  where
    longer : length all ≡ suc (length ds)
    longer = ap length is ∙ length-append ds ((48 + n % 10) ∷ []) ∙ add-one (length ds)

    before : suc (length ds) - 1 ≡ length ds
    before = omega arith

pub own_digits : (n : ℕ) → n < 2 ^ 64 → OwnDigits n (decimal n)
own_digits = decimal_by_steps OwnDigits one (λ n ds h front. one_more n ds (ds ++ ((48 + n % 10) ∷ [])) h front refl)
  where
    one : (n : ℕ) → n < 10 → OwnDigits n ((48 + n) ∷ [])
    one n h =
        let same : n % 10 ≡ n = omega arith in
        record {
          fewest = (omega arith, omega arith, λ g. omega arith);
          last = ap (λ (x : ℕ). x ∷ []) (ap (λ (x : ℕ). 48 + x) (sym same) ∙ glyph_of n);
        }

-- A number has one count of digits.
at_most : (n j k : ℕ) → IsDigitCount 10 1 n j → IsDigitCount 10 1 n k → k ≤ j
at_most n j k one other = go (leb k j) refl
  where
    go : (b : Bool) → leb k j ≡ b → k ≤ j
    go true e = leb-true k j e
    go false e =
        let more : j < k = leb-false k j e in
        omega (arith, one.0, one.1, other.2 (omega (arith, one.0)), pow-le-pow_right {n = 10} (omega arith) {i = j} {j = k - 1} (omega arith))

same_count : (n j k : ℕ) → IsDigitCount 10 1 n j → IsDigitCount 10 1 n k → j ≡ k
same_count n j k one other = omega (arith, at_most n j k one other, at_most n k j other one)

-- What is spelt is one text.
pub spelt-one : (negative : Bool) (d : Decimal) (text : List ℕ) → d.whole < 2 ^ 64 → Spelt negative d text → text ≡ spelt negative d
unfolding spelt
spelt-one negative d text h is =
    is.reads
    ∙ ap (λ (k : ℕ). signed negative (pointed k d)) (same_count d.whole is.places (length (decimal d.whole)) is.fewest (own_digits d.whole h).fewest)

pub spelt_is : (negative : Bool) (d : Decimal) → d.whole < 2 ^ 64 → Spelt negative d (spelt negative d)
unfolding spelt
spelt_is negative d h = record { places = length (decimal d.whole); fewest = (own_digits d.whole h).fewest; reads = refl }

-- What is spelt is ASCII.
one-ascii : (b : ℕ) → b < 128 → IsAscii (b ∷ [])
one-ascii b h = IsAscii-from_all (b ∷ []) alone
  where
    alone : (k d : ℕ) → k < 1 → get_or (b ∷ []) k d < 128
    alone zero d within = h
    alone (suc k) d within = omega (arith, within)

digits-ascii : (k n : ℕ) → IsAscii (last_digits 10 k n)
digits-ascii zero n = IsAscii-nil
digits-ascii (suc k) n =
    IsAscii-append
    (last_digits 10 k (n / 10))
    (hex_digit_ascii (n % 10) ∷ [])
    (digits-ascii k (n / 10))
    (one-ascii (hex_digit_ascii (n % 10)) (omega (arith, glyph_of n, mod-lt n {m = 10} (omega arith))))

pointed-ascii : (k : ℕ) (d : Decimal) → IsAscii (pointed k d)
pointed-ascii k d =
    IsAscii-append
    (last_digits 10 k d.whole)
    (46 ∷ last_digits 10 7 d.fraction)
    (digits-ascii k d.whole)
    (IsAscii-append (46 ∷ []) (last_digits 10 7 d.fraction) (one-ascii 46 (omega arith)) (digits-ascii 7 d.fraction))

signed-ascii : (negative : Bool) (text : List ℕ) → IsAscii text → IsAscii (signed negative text)
signed-ascii true text is = IsAscii-append (45 ∷ []) text (one-ascii 45 (omega arith)) is
signed-ascii false text is = is

pub spelt-ascii : (negative : Bool) (d : Decimal) (text : List ℕ) → Spelt negative d text → IsAscii text
spelt-ascii negative d text is =
    subst IsAscii (sym is.reads) (signed-ascii negative (pointed is.places d) (pointed-ascii is.places d))

-- The end of 29 bytes, as it is lent.
pub lent-end : (l : List ℕ) (k : ℕ) → length l ≡ 29 → take (29 - k) (drop k l) ≡ drop k l
lent-end l k h = take_all (29 - k) (drop k l) (omega (arith, length-drop k l))
