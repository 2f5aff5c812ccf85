-- A tree's size from above: record 0 and the c records after it, where none of them has parts past these.
use Rattle.std.specs.Prelude.{◌≡◌, Bool, ◌&&◌}
use Rattle.std.proofs.Math.Path.{refl}
use Rattle.std.proofs.Math.Bool.{true, false, cond}
use Rattle.std.proofs.Math.Option.{Option, some}
use Prim.Native.Nat.{ℕ, zero, suc, ◌+◌, ◌≤◌, ◌<◌}
use native.Mathlib.Omega.{arith}
use Rattle.std.proofs.Math.Decide.{dec_lt}
use borrow.Author.Tests.{ne_eqb}
use Rattle.store.specs.Lists.{Rec}
use Rattle.least.specs.Size.{weight, is_part, any_below, reached, share, size_of}
use Rattle.least.specs.Below.{root-share}
use Rattle.least.specs.Sums.{sum_from, sum_split, sum_to, weights}

pub and_off : (b : Bool) → (b && false) ≡ false
and_off true = refl
and_off false = refl

any_none : (f : ℕ → Bool) (n : ℕ) → ((m : ℕ) → f m ≡ false) → any_below n f ≡ false
any_none f zero h = refl
any_none f (suc n) h = rw (h n) (any_none f n h)

module _ (get : ℕ → Option Rec) (c : ℕ) (closed : (m n : ℕ) → m ≤ c → c < n → is_part (get m) n ≡ false) where
  not-reached : (steps n : ℕ) → c < n → reached get steps n ≡ false
  unfolding reached
  not-reached zero n h = ne_eqb n 0 (λ e. omega arith)
  not-reached (suc steps) n h = rw (ne_eqb n 0 (λ e. omega arith)) (any_none _ n (λ m. go m (dec_lt c m) (not-reached steps m)))
    where
      go : (m : ℕ) → Dec (c < m) → (c < m → reached get steps m ≡ false) → (is_part (get m) n && reached get steps m) ≡ false
      go m (yes past) later = rw (later past) (and_off (is_part (get m) n))
      go m (no within) later = rw (closed m n (omega arith) h)

  none_share : (steps k n : ℕ) → c < n → sum_from (share get steps) k n ≡ 0
  unfolding share
  none_share steps zero n h = refl
  none_share steps (suc k) n h = rw (not-reached steps n h) (omega (arith, none_share steps k (n + 1) (omega arith)))

  share_most : (steps n : ℕ) → share get steps n ≤ weight (get n)
  unfolding share
  share_most steps n = go (reached get steps n)
    where
      go : (b : Bool) → cond b (weight (get n)) 0 ≤ weight (get n)
      go true = omega arith
      go false = omega arith

  parts_most : (steps k n : ℕ) → sum_from (share get steps) k n ≤ weights get k n
  parts_most steps zero n = omega arith
  parts_most steps (suc k) n = omega (arith, share_most steps n, parts_most steps k (n + 1))

  pub size_most : (N : ℕ) (r : Rec) → get 0 ≡ some r → size_of N get ≤ weight (some r) + weights get c 1
  unfolding size_of
  size_most N r e =
      let f = share get N in
      omega (arith, sum_split f N (c + 1), none_share N N (c + 1) (omega arith), sum_to f N (N + (c + 1)) (omega arith), sum_split f c 1, root-share get N r e, parts_most N c 1)
