-- `reached` tells exactly the records to which parts lead from the root: a table of N records needs no more than N steps.
use Rattle.std.specs.Prelude.{◌≡◌, Bool, ◌&&◌, ◌||◌, leb, ltb}
use Rattle.std.proofs.Math.Path.{refl}
use Rattle.std.proofs.Math.Bool.{true, false}
use Rattle.std.proofs.Math.Option.{Option, none, some}
use Prim.Native.Nat.{ℕ, zero, suc, ◌+◌, ◌≤◌, ◌<◌}
use Rattle.std.proofs.Common.{arith}
use Rattle.std.proofs.Math.Decide.{dec_lt}
use Rattle.std.proofs.Math.Dec.{eqb}
use borrow.Author.Tests.{leb-true, ltb-true, eqb-true}
use Rattle.laws.specs.Every.{never, both}
use Rattle.store.specs.Lists.{Rec}
use Rattle.least.specs.Size.{in_span, is_part, any_below, reached, Sound}

pub data Reached (get : ℕ → Option Rec) : ℕ → Type 0 where
  root : Reached get 0
  part : {m n : ℕ} → Reached get m → is_part (get m) n ≡ true → Reached get n

or_right : (a b : Bool) → b ≡ true → (a || b) ≡ true
or_right true b e = refl
or_right false b e = e

any_at : (f : ℕ → Bool) (n m : ℕ) → m < n → f m ≡ true → any_below n f ≡ true
any_at f zero m h e = absurd (omega arith)
any_at f (suc n) m h e = go (dec_lt m n) (λ k. any_at f n m k e)
  where
    go : Dec (m < n) → (m < n → any_below n f ≡ true) → any_below (suc n) f ≡ true
    go (yes below) later = or_right (f n) (any_below n f) (later below)
    go (no last) later = let z : n ≡ m = omega arith in rw (z, e)

any-is : (f : ℕ → Bool) (n : ℕ) → any_below n f ≡ true → (m : ℕ) × (f m ≡ true)
any-is f zero h = absurd (never h)
any-is f (suc n) h = go (f n) refl h (any-is f n)
  where
    go : (b : Bool) → f n ≡ b → (b || any_below n f) ≡ true → (any_below n f ≡ true → (m : ℕ) × (f m ≡ true)) → (m : ℕ) × (f m ≡ true)
    go true e h later = (n, e)
    go false e h later = later h

module _ (get : ℕ → Option Rec) where
  -- parts stand above their record and within the table
  part_above : (N m n : ℕ) → Sound N get → is_part (get m) n ≡ true → (m < n) × (n < N)
  unfolding Sound
  part_above N m n sound h = of (get m) refl h
    where
      in_span_lem : (r : Rec) (o : Option (ℕ × ℕ)) → get m ≡ some r → r.parts ≡ o → in_span o n ≡ true → (m < n) × (n < N)
      in_span_lem r none e q h = absurd (never h)
      in_span_lem r (some p) e q h =
          let b = sound m r p e q in
          let t = both (leb p.0 n) (ltb n (p.0 + p.1)) h in
          (omega (arith, b.0, leb-true p.0 n t.0), omega (arith, b.1, ltb-true n (p.0 + p.1) t.1))

      of : (o : Option Rec) → get m ≡ o → is_part o n ≡ true → (m < n) × (n < N)
      of none e h = absurd (never h)
      of (some r) e h = in_span_lem r r.parts e refl h

  -- whatever parts lead to is in the table,
  pub reached_within : (N n : ℕ) → Sound (suc N) get → Reached get n → n < suc N
  reached_within N n sound root = omega arith
  reached_within N n sound (part {m = m} r h) = (part_above (suc N) m n sound h).1

  pub root-reached : (steps : ℕ) → reached get steps 0 ≡ true
  unfolding reached
  root-reached zero = refl
  root-reached (suc steps) = refl

  -- is told as reached,
  pub reached_in : (N n steps : ℕ) → Sound N get → n ≤ steps → Reached get n → reached get steps n ≡ true
  unfolding reached
  reached_in N n steps sound h root = root-reached steps
  reached_in N n zero sound h (part {m = m} r p) = absurd (omega (arith, part_above N m n sound p))
  reached_in N n (suc steps) sound h (part {m = m} r p) =
      let b = part_above N m n sound p in
      or_right (eqb n 0) _ (any_at _ n m b.0 (rw (p, reached_in N m steps sound (omega (arith, b.0)) r)))

  -- nothing is found but what is reached
  pub reached-only : (steps n : ℕ) → reached get steps n ≡ true → Reached get n
  unfolding reached
  reached-only zero n h = rw (eqb-true n 0 h) root
  reached-only (suc steps) n h = go (eqb n 0) refl h (λ m. reached-only steps m)
    where
      go : (b : Bool) → eqb n 0 ≡ b → (b || any_below n (λ m. is_part (get m) n && reached get steps m)) ≡ true → ((m : ℕ) → reached get steps m ≡ true → Reached get m) → Reached get n
      go true e h later = rw (eqb-true n 0 e) root
      go false e h later =
          let w = any-is _ n h in
          let t = both (is_part (get w.0) n) (reached get steps w.0) w.1 in
          part (later w.0 t.1) t.0
