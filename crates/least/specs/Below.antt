-- A tree's size from below: the root and its parts.
use Rattle.std.specs.Prelude.{◌≡◌, true}
use Rattle.std.proofs.Math.Option.{Option, none, some}
use Prim.Native.Nat.{ℕ, zero, suc, ◌+◌, ◌≤◌, ◌<◌}
use native.Mathlib.Omega.{arith}
use Rattle.std.proofs.Common.{le-leb, lt-ltb}
use Rattle.store.specs.Lists.{Rec}
use Rattle.least.specs.Size.{weight, is_part, reached, share, size_of, Sound}
use Rattle.least.specs.Reached.{root, part, root-reached, reached_in}
use Rattle.least.specs.Sums.{sum_from, sum_split, sum_to, weights, span_weight}

module _ (get : ℕ → Option Rec) where
  pub root-share : (steps : ℕ) (r : Rec) → get 0 ≡ some r → share get steps 0 ≡ weight (some r)
  unfolding share
  root-share steps r e = rw (root-reached get steps, e)

  parts_share : (steps c n : ℕ) → ((m : ℕ) → n ≤ m → m < n + c → reached get steps m ≡ true) → weights get c n ≤ sum_from (share get steps) c n
  unfolding share
  parts_share steps zero n h = omega arith
  parts_share steps (suc c) n h =
      let later = parts_share steps c (n + 1) (λ m a b. h m (omega arith) (omega arith)) in
      rw (h n (omega arith) (omega arith)) (omega arith)

  is_part_lem : (r : Rec) (p : ℕ × ℕ) (n : ℕ) → get 0 ≡ some r → r.parts ≡ some p → p.0 ≤ n → n < p.0 + p.1 → is_part (get 0) n ≡ true
  is_part_lem r p n e q a b = rw (e, q, le-leb _ _ a, lt-ltb _ _ b)

  pub size_least : (N : ℕ) (r : Rec) (o : Option (ℕ × ℕ)) → Sound (suc N) get → get 0 ≡ some r → r.parts ≡ o → weight (some r) + span_weight get o ≤ size_of (suc N) get
  unfolding size_of Sound
  size_least N r none sound e q = omega (arith, root-share (suc N) r e, sum_to (share get (suc N)) 1 (suc N) (omega arith))
  size_least N r (some p) sound e q =
      let b = sound 0 r p e q in
      let f = share get (suc N) in
      let w = parts_share (suc N) p.1 p.0 (λ m a c. reached_in get (suc N) m (suc N) sound (omega arith) (part root (is_part_lem r p m e q a c))) in
      omega (arith, root-share (suc N) r e, sum_to f 1 p.0 b.0, sum_to f (p.1 + p.0) (suc N) (omega arith), sum_split f p.1 p.0)
