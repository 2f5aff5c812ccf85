-- What a reading has to say, records and then a number, and what saying it to a log gives.
use Rattle.std.proofs.Math.Path.{◌≡◌, refl}
use Rattle.std.specs.Prelude.{List, Bool, ◌&&◌, length, ltb}
use Rattle.std.proofs.Math.Bool.{true, false, cond}
use Prim.Native.Nat.{ℕ, zero, suc, ◌+◌, ◌*◌, ◌/◌, ◌<◌}
use Rattle.std.proofs.Common.{arith, ltb-true}
use Rattle.std.proofs.lemmas.List.Edits.{sets}
use Rattle.laws.specs.Every.{both}

-- records to write, and the number at the end, 0 for done
pub data Script (A : Type 0) : Type 0 where
  stop : ℕ → Script A
  say : A → Script A → Script A

-- a number, the count of records then written, and the log
pub data Out : Type 0 where
  out : ℕ → ℕ → List ℕ → Out

abbrev pub one : {A : Type 0} → A → Script A
one a = say a (stop 0)

infixr 25 ◌⨟◌
-- the second after the first, unless the first refuses
unfoldable pub ◌⨟◌ : {A : Type 0} → Script A → Script A → Script A
stop zero ⨟ t = t
stop (suc c) ⨟ t = stop (suc c)
say a s ⨟ t = say a (s ⨟ t)

-- records of one size as bytes
pub record Format (A : Type 0) : Type 0 where
  pub bytes : A → List ℕ
  pub wide : ℕ
  pub long : (a : A) → length (bytes a) ≡ wide
  pub some : 0 < wide

-- a log has 1,048,576 usable records; a remainder under one record is not used
unfoldable pub room_at : ℕ → List ℕ → ℕ → Bool
room_at wide L n = ltb n 1048576 && ltb n (length L / wide)

pub room_in_lem : (wide : ℕ) (L : List ℕ) (n : ℕ) → room_at wide L n ≡ true → (n < 1048576) × (n < length L / wide)
unfolding room_at
room_in_lem wide L n h =
    let t = both (ltb n 1048576) (ltb n (length L / wide)) h in
    (ltb-true n 1048576 t.0, ltb-true n (length L / wide) t.1)

module _ {A : Type 0} (F : Format A) where
  unfoldable pub put : List ℕ → ℕ → A → List ℕ
  put L n a = sets L (F.wide * n) (F.bytes a)

  -- 9 where the log is full at the next record
  unfoldable pub run : Script A → List ℕ → ℕ → Out
  run (stop c) L n = out c n L
  run (say a s) L n = cond (room_at F.wide L n) (run s (put L n a) (n + 1)) (out 9 n L)

  pub run_stop : (c : ℕ) (L : List ℕ) (n : ℕ) → run (stop c) L n ≡ out c n L
  unfolding run
  run_stop c L n = refl

  -- the first is done: what follows is the second's
  pub seq_done : (s t : Script A) (L : List ℕ) (n : ℕ) {n' : ℕ} {L' : List ℕ} → run s L n ≡ out 0 n' L' → run (s ⨟ t) L n ≡ run t L' n'
  unfolding run ◌⨟◌
  seq_done (stop zero) t L n e = cc
  seq_done (stop (suc c)) t L n e = let z : suc c ≡ 0 = cc in absurd (omega arith)
  seq_done (say a s) t L n {n'} {L'} h = go (room_at F.wide L n) (λ k. seq_done s t (put L n a) (n + 1) k) h
    where
      go : (b : Bool) → (run s (put L n a) (n + 1) ≡ out 0 n' L' → run (s ⨟ t) (put L n a) (n + 1) ≡ run t L' n')
          → cond b (run s (put L n a) (n + 1)) (out 9 n L) ≡ out 0 n' L' → cond b (run (s ⨟ t) (put L n a) (n + 1)) (out 9 n L) ≡ run t L' n'
      go true f h = f h
      go false f h = let z : ◌≡◌ {A = ℕ} 9 0 = cc in absurd (omega arith)

  -- the first refuses, and that is all
  pub seq_refused : (s t : Script A) (L : List ℕ) (n : ℕ) {c n' : ℕ} {L' : List ℕ} → run s L n ≡ out c n' L' → (c ≡ 0 → ⊥) → run (s ⨟ t) L n ≡ out c n' L'
  unfolding run ◌⨟◌
  seq_refused (stop zero) t L n {c} e r = let z : c ≡ 0 = cc in absurd (r z)
  seq_refused (stop (suc c)) t L n e r = e
  seq_refused (say a s) t L n {c} {n'} {L'} h r = go (room_at F.wide L n) (λ k. seq_refused s t (put L n a) (n + 1) k r) h
    where
      go : (b : Bool) → (run s (put L n a) (n + 1) ≡ out c n' L' → run (s ⨟ t) (put L n a) (n + 1) ≡ out c n' L')
          → cond b (run s (put L n a) (n + 1)) (out 9 n L) ≡ out c n' L' → cond b (run (s ⨟ t) (put L n a) (n + 1)) (out 9 n L) ≡ out c n' L'
      go true f h = f h
      go false f h = h

  -- one record: the log has no room, or has
  pub one_full : (a : A) (L : List ℕ) (n : ℕ) → room_at F.wide L n ≡ false → run (one a) L n ≡ out 9 n L
  unfolding run
  one_full a L n h = rw h

  pub one-put : (a : A) (L : List ℕ) (n : ℕ) → room_at F.wide L n ≡ true → run (one a) L n ≡ out 0 (n + 1) (put L n a)
  unfolding run
  one-put a L n h = rw h

  -- nothing but a full log refuses one record
  pub one_nine : (a : A) (L : List ℕ) (n : ℕ) {c n' : ℕ} {L' : List ℕ} → run (one a) L n ≡ out c n' L' → (c ≡ 0 → ⊥) → c ≡ 9
  unfolding run
  one_nine a L n {c} {n'} {L'} h r = go (room_at F.wide L n) h
    where
      go : (b : Bool) → cond b (out 0 (n + 1) (put L n a)) (out 9 n L) ≡ out c n' L' → c ≡ 9
      go true h = let z : c ≡ 0 = cc in absurd (r z)
      go false h = cc
