-- Stretches of a list depend on no more of it than they reach.
use Rattle.std.specs.Prelude.{◌≡◌, List, ◌++◌, ℕ, ◌+◌, ◌≤◌, length, take, drop}
use Rattle.std.proofs.Common.{sym, ap, ◌∙◌, append_assoc, arith, length-take, take_at, take-add, take-take, length-take-le}
use Rattle.std.proofs.lemmas.List.Edits.{sets}
use Rattle.std.proofs.Math.Seq.{drop-append_seam}
use Rattle.std.proofs.lemmas.List.{drop-append-le}
use Rattle.laws.specs.Runs.{sets_split, take-sets}

stretch : (a c : ℕ) (l : List ℕ) → take c (drop a l) ≡ drop (length (take a l)) (take (a + c) l)
stretch a c l = sym (ap (drop (length (take a l))) (take-add a c l) ∙ drop-append_seam (take a l) (take c (drop a l)))

-- lists with the same front
module _ (n : ℕ) (l l' : List ℕ) (same : take n l' ≡ take n l) where
  pub front_same : (m : ℕ) → m ≤ n → take m l' ≡ take m l
  front_same m h = sym (take-take m n l' h) ∙ ap (take m) same ∙ take-take m n l h

  pub stretch_same : (a c : ℕ) → a + c ≤ n → take c (drop a l') ≡ take c (drop a l)
  stretch_same a c h =
      let p : a ≤ n = omega arith in
      stretch a c l' ∙ rw (front_same a p, front_same (a + c) h) (sym (stretch a c l))

  pub front_long : n ≤ length l → n ≤ length l'
  front_long h = omega (arith, length-take n l, length-take n l', ap length same)

-- words put down after i words of a list
module _ (l vs : List ℕ) (i : ℕ) (room : i + length vs ≤ length l) where
  pub front_kept : take i (sets l i vs) ≡ take i l
  front_kept =
      ap (take i) (sets_split l vs i room ∙ append_assoc (take i l) vs (drop (i + length vs) l))
      ∙ take_at (take i l) _ i (length-take-le i l (omega arith))

  -- a stretch that ends there is longer by them
  pub stretch_longer : (a c : ℕ) → a + c ≡ i → take (c + length vs) (drop a (sets l i vs)) ≡ take c (drop a l) ++ vs
  stretch_longer a c e =
      let n : a + (c + length vs) ≡ i + length vs = omega arith in
      let b : length (take a l) ≡ a = length-take-le a l (omega arith) in
      let d : a ≤ length (take i l) = omega (arith, length-take-le i l (omega arith)) in
      let f : take a (sets l i vs) ≡ take a l = front_same i l (sets l i vs) front_kept a (omega arith) in
      let g : take c (drop a l) ≡ drop a (take i l) = stretch a c l ∙ rw (b, e) in
      stretch a (c + length vs) (sets l i vs) ∙ rw (f, n, take-sets l vs i room, b, drop-append-le a (take i l) vs d, g)
