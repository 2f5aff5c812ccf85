-- A list as blocks of one size: putting one down leaves every other as it was.
use Rattle.std.specs.Prelude.{◌≡◌, List, ◌++◌, ℕ, ◌+◌, ◌-◌, ◌*◌, ◌<◌, ◌≤◌, length, take, drop}
use Rattle.std.proofs.Common.{sym, ap, ◌∙◌, append_assoc, arith, mul-suc, mul-le-mul_left, le_trans, le_of_eq, length-drop, take-append-drop, length-take-le, drop-drop, take_at, drop_at}
use Rattle.std.proofs.Math.Decide.{dec_lt}
use Rattle.std.proofs.lemmas.List.Edits.{sets}
use Rattle.std.proofs.lemmas.List.{take-append-le, drop-append-le}
use Rattle.laws.specs.Runs.{sets_split, drop-sets}

-- block n of a list, each w long
abbrev pub block : ℕ → List ℕ → ℕ → List ℕ
block w l n = take w (drop (w * n) l)

-- one block put down over another
module _ (w : ℕ) (l v : List ℕ) (n : ℕ) (long : length v ≡ w) (room : w * n + w ≤ length l) where
  fits : w * n + length v ≤ length l
  fits = omega arith

  front : length (take (w * n) l) ≡ w * n
  front = length-take-le (w * n) l (omega arith)

  pub block_same : block w (sets l (w * n) v) n ≡ v
  block_same =
      ap (λ (x : List ℕ). take w (drop (w * n) x)) (sets_split l v (w * n) fits ∙ append_assoc (take (w * n) l) v _)
      ∙ ap (take w) (drop_at (take (w * n) l) _ (w * n) front)
      ∙ take_at v _ w long

  below : (m : ℕ) (ys : List ℕ) → m < n → block w (take (w * n) l ++ ys) m ≡ block w (take (w * n) l) m
  below m ys h =
      let k : w * m + w ≤ w * n = le_trans (le_of_eq (sym (mul-suc w m))) (mul-le-mul_left w h) in
      let a : w * m ≤ length (take (w * n) l) = omega (arith, front) in
      let b : w ≤ length (drop (w * m) (take (w * n) l)) = omega (arith, front, length-drop (w * m) (take (w * n) l)) in
      rw (drop-append-le (w * m) (take (w * n) l) ys a, take-append-le w (drop (w * m) (take (w * n) l)) ys b)

  above : (m : ℕ) → n < m → drop (w * m) (sets l (w * n) v) ≡ drop (w * m) l
  above m h =
      let k : w * n + w ≤ w * m = le_trans (le_of_eq (sym (mul-suc w n))) (mul-le-mul_left w h) in
      let i : ℕ = w * n + length v in
      let d : w * n + length v + (w * m - (w * n + length v)) ≡ w * m = omega arith in
      ap (λ (j : ℕ). drop j (sets l (w * n) v)) (sym d)
      ∙ sym (drop-drop (w * m - (w * n + length v)) (w * n + length v) (sets l (w * n) v))
      ∙ ap (drop (w * m - (w * n + length v))) (drop-sets l v (w * n) fits)
      ∙ drop-drop (w * m - (w * n + length v)) (w * n + length v) l
      ∙ ap (λ (j : ℕ). drop j l) d

  pub block-other : (m : ℕ) → (m ≡ n → ⊥) → block w (sets l (w * n) v) m ≡ block w l m
  block-other m h = go (dec_lt m n)
    where
      go : Dec (m < n) → block w (sets l (w * n) v) m ≡ block w l m
      go (yes a) =
          ap (λ (x : List ℕ). block w x m) (sets_split l v (w * n) fits ∙ append_assoc (take (w * n) l) v _)
          ∙ below m _ a
          ∙ sym (ap (λ (x : List ℕ). block w x m) (sym (take-append-drop (w * n) l)) ∙ below m _ a)
      go (no a) = ap (take w) (above m (omega arith))
