-- What saying a script leaves in a log: its records, cut at the room, with 9 where they were cut, and every later byte untouched.
use Rattle.std.specs.Prelude.{◌≡◌, refl, Bool, true, false, cond, ◌&&◌, ltb, leb}
use Rattle.std.proofs.Math.Path.{sym, ap}
use Rattle.std.proofs.Common.{◌∙◌, add-one, le-div_iff_mul-le, mul_comm, mul-zero, take-append-drop, length-take, take_all, lt-ltb, le-ltb, ltb-true, le-leb}
use mathlib.Core.List.{List, [], ◌∷◌, ◌++◌, append_assoc}
use Prim.Native.Nat.{ℕ, zero, suc, ◌+◌, ◌*◌, ◌/◌, ◌<◌, ◌≤◌, min}
use native.Mathlib.Omega.{arith}
use Rattle.std.proofs.Math.Nat.{mul-suc, mul-add}
use Rattle.std.proofs.Math.ListN.{length, take, drop}
use Rattle.std.proofs.Math.Seq.{take-nil, length-sets, drop-drop}
use Rattle.std.proofs.Math.Dec.{leb-zero, leb-suc-zero, leb-suc-suc}
use Rattle.laws.specs.Runs.{take-sets, drop-sets}
use Rattle.laws.specs.Script.{Script, stop, say, out, Format, room_at, put, run}

module _ {A : Type 0} where
  -- the records that a script says, and its number
  unfoldable pub records_of : Script A → List A
  records_of (stop c) = []
  records_of (say a s) = a ∷ records_of s

  unfoldable pub number_of : Script A → ℕ
  number_of (stop c) = c
  number_of (say a s) = number_of s

-- how many records of a log may be used
unfoldable pub room_of : ℕ → List ℕ → ℕ
room_of wide L = min (length L / wide) 1048576

room-yes : (w : ℕ) (L : List ℕ) (n : ℕ) → n < room_of w L → room_at w L n ≡ true
unfolding room_at room_of
room-yes w L n h = rw (lt-ltb n 1048576 (omega arith), lt-ltb n (length L / w) (omega arith))

room_no : (w : ℕ) (L : List ℕ) (n : ℕ) → room_of w L ≤ n → room_at w L n ≡ false
unfolding room_at room_of
room_no w L n h = go (ltb n 1048576) refl
  where
    go : (b : Bool) → ltb n 1048576 ≡ b → (b && ltb n (length L / w)) ≡ false
    go true e = le-ltb n (length L / w) (omega (arith, ltb-true n 1048576 e))
    go false e = refl

same-room : (w : ℕ) (L M : List ℕ) {n : ℕ} → length M ≡ length L → n ≡ room_of w L → n ≡ room_of w M
unfolding room_of
same-room w L M e h = rw e h

module _ {A : Type 0} (F : Format A) where
  length-put : (L : List ℕ) (n : ℕ) (a : A) → length (put F L n a) ≡ length L
  unfolding put
  length-put L n a = length-sets L (F.wide * n) (F.bytes a)

  -- records written one after the other from number n on
  unfoldable pub written : List ℕ → ℕ → List A → List ℕ
  written L n [] = L
  written L n (a ∷ rest) = written (put F L n a) (n + 1) rest

  -- k records are free from n on
  pub cut : (s : Script A) (L : List ℕ) (n k : ℕ) → n + k ≡ room_of F.wide L
      → run F s L n ≡ out (cond (leb (length (records_of s)) k) (number_of s) 9) (n + length (take k (records_of s))) (written L n (take k (records_of s)))
  unfolding run records_of number_of written
  cut (stop c) L n k h =
      let z : n ≡ n + 0 = omega arith in
      rw (take-nil k, leb-zero) (ap (λ (m : ℕ). out c m L) z)
  cut (say a s) L n zero h =
      let z : n ≡ n + 0 = omega arith in
      rw (room_no F.wide L n (omega arith), leb-suc-zero) (ap (λ (m : ℕ). out 9 m L) z)
  cut (say a s) L n (suc k) h =
      let m : ℕ = length (take k (records_of s)) in
      let z : n + 1 + m ≡ n + suc m = omega arith in
      rw (room-yes F.wide L n (omega arith), leb-suc-suc)
      (cut s (put F L n a) (n + 1) k (same-room F.wide L (put F L n a) (length-put L n a) (omega arith))
      ∙ ap (λ (j : ℕ). out (cond (leb (length (records_of s)) k) (number_of s) 9) j (written (put F L n a) (n + 1) (take k (records_of s)))) z)

  -- the bytes of records, one after the other
  unfoldable pub bytes_of : List A → List ℕ
  bytes_of [] = []
  bytes_of (a ∷ rest) = F.bytes a ++ bytes_of rest

  module _ (L : List ℕ) (n : ℕ) (a : A) (room : F.wide * n + F.wide ≤ length L) where
    fits : F.wide * n + length (F.bytes a) ≤ length L
    fits = rw (F.long a) room

    take_put : take (F.wide * n + F.wide) (put F L n a) ≡ take (F.wide * n) L ++ F.bytes a
    unfolding put
    take_put = ap (λ (k : ℕ). take (F.wide * n + k) (put F L n a)) (sym (F.long a)) ∙ take-sets L (F.bytes a) (F.wide * n) fits

    drop-put : (k : ℕ) → drop (F.wide * n + F.wide + k) (put F L n a) ≡ drop (F.wide * n + F.wide + k) L
    unfolding put
    drop-put k =
        sym (drop-drop k (F.wide * n + F.wide) (put F L n a))
        ∙ ap (drop k) (ap (λ (j : ℕ). drop (F.wide * n + j) (put F L n a)) (sym (F.long a)) ∙ drop-sets L (F.bytes a) (F.wide * n) fits ∙ ap (λ (j : ℕ). drop (F.wide * n + j) L) (F.long a))
        ∙ drop-drop k (F.wide * n + F.wide) L

  -- the bytes before record n, the records' bytes, and every later byte untouched
  pub written_is : (rs : List A) (L : List ℕ) (n : ℕ) → F.wide * (n + length rs) ≤ length L
      → written L n rs ≡ take (F.wide * n) L ++ (bytes_of rs ++ drop (F.wide * (n + length rs)) L)
  unfolding written bytes_of
  written_is [] L n h = let z : n + 0 ≡ n = omega arith in sym (rw z (take-append-drop (F.wide * n) L))
  written_is (a ∷ rest) L n h =
      let k : ℕ = length rest in
      let e : n + suc k ≡ n + 1 + k = omega arith in
      let f : F.wide * (n + 1) ≡ F.wide * n + F.wide = ap (λ (j : ℕ). F.wide * j) (add-one n) ∙ mul-suc F.wide n in
      let g : F.wide * (n + 1 + k) ≡ F.wide * n + F.wide + F.wide * k = mul-add F.wide (n + 1) k ∙ ap (λ (j : ℕ). j + F.wide * k) f in
      let h' : F.wide * (n + 1 + k) ≤ length L = rw e at h in
      let room : F.wide * n + F.wide ≤ length L = omega (arith, rw g at h') in
      let ih = written_is rest (put F L n a) (n + 1) (rw (length-put L n a) h') in
      rw (e, ih, f, take_put L n a room, g, drop-put L n a room (F.wide * k)) (simp append_assoc)

  -- ---- a whole run, from the start of a log: number, count and every byte follow from the script and the log
  pub record Said (s : Script A) (L : List ℕ) (number count : ℕ) (M : List ℕ) : Type 0 where
    pub number_is : number ≡ cond (leb (length (records_of s)) (room_of F.wide L)) (number_of s) 9
    pub count-is : count ≡ length (take (room_of F.wide L) (records_of s))
    pub log_is : M ≡ bytes_of (take (room_of F.wide L) (records_of s)) ++ drop (F.wide * count) L

  room_fits : (L : List ℕ) (k : ℕ) → k ≤ room_of F.wide L → F.wide * k ≤ length L
  unfolding room_of
  room_fits L k h = rw (mul_comm F.wide k) ((le-div_iff_mul-le F.some).0 (omega arith))

  pub said : {s : Script A} {L : List ℕ} {number count : ℕ} {M : List ℕ} → run F s L 0 ≡ out number count M → Said s L number count M
  said {s} {L} {number} {count} {M} h =
      let rs : List A = take (room_of F.wide L) (records_of s) in
      let z : 0 + room_of F.wide L ≡ room_of F.wide L = omega arith in
      let short : length rs ≤ room_of F.wide L = omega (arith, length-take (room_of F.wide L) (records_of s)) in
      let n : 0 + length rs ≡ length rs = omega arith in
      let e = sym h ∙ cut s L 0 (room_of F.wide L) z in
      let k : count ≡ 0 + length rs = cc in
      record {
        number_is = cc;
        count-is = k ∙ n;
        log_is = rw k (let f : M ≡ written L 0 rs = cc in f ∙ written_is rs L 0 (rw n (room_fits L (length rs) short)) ∙ rw (mul-zero F.wide));
      }

  -- from a log with room for all of it: the script's own number, every record, and the rest of the log untouched
  pub record Whole (s : Script A) (L : List ℕ) (number count : ℕ) (M : List ℕ) : Type 0 where
    pub number_is : number ≡ number_of s
    pub count-is : count ≡ length (records_of s)
    pub log_is : M ≡ bytes_of (records_of s) ++ drop (F.wide * length (records_of s)) L

  pub said_whole : (s : Script A) (L : List ℕ) (number count : ℕ) (M : List ℕ) → length (records_of s) ≤ room_of F.wide L → Said s L number count M → Whole s L number count M
  said_whole s L number count M room said =
      let all : take (room_of F.wide L) (records_of s) ≡ records_of s = take_all (room_of F.wide L) (records_of s) room in
      let count-is : count ≡ length (records_of s) = said.count-is ∙ rw all in
      record {
        number_is = said.number_is ∙ rw (le-leb (length (records_of s)) (room_of F.wide L) room);
        count-is = count-is;
        log_is = said.log_is ∙ rw (all, count-is);
      }
