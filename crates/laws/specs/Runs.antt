-- Runs of stores, one behind the other.
use Rattle.std.specs.Prelude.{◌≡◌, List, [], ◌∷◌, ◌++◌, ℕ, suc, ◌+◌, ◌-◌, ◌≤◌, length, set, take, drop}
use Rattle.std.proofs.Common.{sym, ap, ◌∙◌, append-nil, append_assoc, add-zero, add-suc, suc-add, arith, length-append, length-drop, drop_of_length-le, take_at, drop_at, drop-drop, length-take-le, take_all}
use Rattle.std.proofs.lemmas.List.Edits.{sets, sets-eq}

pub sets-append : (a b l : List ℕ) (i : ℕ) → sets (sets l i a) (i + length a) b ≡ sets l i (a ++ b)
sets-append [] b l i = ap (λ (k : ℕ). sets l k b) (add-zero i)
sets-append (x ∷ a) b l i =
    ap (λ (k : ℕ). sets (sets (set l i x) (suc i) a) k b) (add-suc i (length a) ∙ sym (suc-add i (length a)))
    ∙ sets-append a b (set l i x) (suc i)

-- a second run starts where the first ends
pub then : {l₁ l₂ : List ℕ} (l₀ a b : List ℕ) (i k : ℕ) → l₁ ≡ sets l₀ i a → length a ≡ k → l₂ ≡ sets l₁ (i + k) b → l₂ ≡ sets l₀ i (a ++ b)
then l₀ a b i k p e q =
    q ∙ ap (λ (l : List ℕ). sets l (i + k) b) p ∙ ap (λ (n : ℕ). sets (sets l₀ i a) (i + n) b) (sym e) ∙ sets-append a b l₀ i

pub two : (l : List ℕ) (i a b : ℕ) → set (set l i a) (i + 1) b ≡ sets l i (a ∷ b ∷ [])
two l i a b = let e : i + 1 ≡ suc i = omega arith in rw e

pub four : (l : List ℕ) (i a b c d : ℕ) → set (set (set (set l i a) (i + 1) b) (i + 2) c) (i + 3) d ≡ sets l i (a ∷ b ∷ c ∷ d ∷ [])
four l i a b c d =
    let e : i + 1 ≡ suc i = omega arith in
    let f : i + 2 ≡ suc (suc i) = omega arith in
    let g : i + 3 ≡ suc (suc (suc i)) = omega arith in
    rw (e, f, g)

-- a run as long as the list leaves nothing of it
pub sets_whole : (l vs : List ℕ) → length l ≡ length vs → sets l 0 vs ≡ vs
sets_whole l vs e =
    let h : 0 + length vs ≤ length l = omega arith in
    let z : 0 + length vs ≡ length vs = omega arith in
    let k : length l ≤ length vs = omega arith in
    sets-eq vs l 0 h ∙ rw (z, drop_of_length-le l k) (append-nil vs)

module _ (l vs : List ℕ) (i : ℕ) (room : i + length vs ≤ length l) where
  pub sets_split : sets l i vs ≡ (take i l ++ vs) ++ drop (i + length vs) l
  sets_split = sets-eq vs l i room

  front : length (take i l ++ vs) ≡ i + length vs
  front = length-append (take i l) vs ∙ ap (λ (n : ℕ). n + length vs) (length-take-le i l (omega arith))

  pub take-sets : take (i + length vs) (sets l i vs) ≡ take i l ++ vs
  take-sets = ap (take (i + length vs)) sets_split ∙ take_at (take i l ++ vs) (drop (i + length vs) l) (i + length vs) front

  pub drop-sets : drop (i + length vs) (sets l i vs) ≡ drop (i + length vs) l
  drop-sets = ap (drop (i + length vs)) sets_split ∙ drop_at (take i l ++ vs) (drop (i + length vs) l) (i + length vs) front

  -- what a part lent from i up to `end` leaves, once the part holds vs
  pub lent_part : (end : ℕ) → end ≡ i + length vs → take i l ++ (vs ++ drop (end - i) (drop i l)) ≡ sets l i vs
  lent_part end e =
      let n : end - i ≡ length vs = omega arith in
      sym (sets_split ∙ append_assoc (take i l) vs (drop (i + length vs) l) ∙ rw (n, ← (drop-drop (length vs) i l)))

-- a tail that was lent, once a run of stores went to its start: what `&mut l[i..]` leaves
pub lent_tail : (l vs written : List ℕ) (i : ℕ) → i + length vs ≤ length l → written ≡ sets (take (length l - i) (drop i l)) 0 vs →
    take i l ++ (written ++ drop (length l - i) (drop i l)) ≡ sets l i vs
lent_tail l vs written i room e =
    let n : length (drop i l) ≡ length l - i = length-drop i l in
    let short : length (drop i l) ≤ length l - i = omega arith in
    let within : 0 + length vs ≤ length (drop i l) = omega arith in
    let start : 0 + length vs ≡ length vs = omega arith in
    rw (e, take_all (length l - i) (drop i l) short, drop_of_length-le (drop i l) short, append-nil, sets_split (drop i l) vs 0 within, start, drop-drop)
    (sym (sets_split l vs i room ∙ append_assoc (take i l) vs (drop (i + length vs) l)))
