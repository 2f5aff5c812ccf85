-- A script that says a list of records and is done; what a log then has.
use Rattle.std.specs.Prelude.{◌≡◌, ℕ, zero, suc, ◌*◌, ◌≤◌, length, drop}
use Rattle.std.proofs.Math.Path.{refl, ap}
use Rattle.std.proofs.Common.{◌∙◌}
use mathlib.Core.List.{List, [], ◌∷◌, ◌++◌}
use Rattle.laws.specs.Script.{Script, stop, say, ◌⨟◌, Format}
use Rattle.laws.specs.Framed.{framed, seq_seq}
use Rattle.laws.specs.Cut.{records_of, number_of, room_of, bytes_of, Said, said_whole}

module _ {A : Type 0} where
  abbrev pub told : List A → Script A
  told [] = stop 0
  told (a ∷ rest) = say a (told rest)

  pub then-done : (s : Script A) → s ⨟ stop 0 ≡ s
  unfolding ◌⨟◌
  then-done (stop zero) = refl
  then-done (stop (suc c)) = refl
  then-done (say a s) = ap (say a) (then-done s)

  pub framed_then : (b : A) (m : Script A) (e : A) (t : Script A) → framed b m e ⨟ t ≡ say b (m ⨟ say e t)
  unfolding framed ◌⨟◌
  framed_then b m e t = ap (say b) (seq_seq m (say e (stop 0)) t)

  pub told-records : (l : List A) → records_of (told l) ≡ l
  unfolding records_of
  told-records [] = refl
  told-records (a ∷ rest) = ap (λ (k : List A). a ∷ k) (told-records rest)

  pub told-number : (l : List A) → number_of (told l) ≡ 0
  unfolding number_of
  told-number [] = refl
  told-number (a ∷ rest) = told-number rest

  -- a log with room: 0, every record, and the rest of the log untouched
  pub record Complete (F : Format A) (l : List A) (L : List ℕ) (number count : ℕ) (M : List ℕ) : Type 0 where
    pub number_is : number ≡ 0
    pub count-is : count ≡ length l
    pub log_is : M ≡ bytes_of F l ++ drop (F.wide * length l) L

  pub said_complete : (F : Format A) (s : Script A) (l : List A) (L : List ℕ) (number count : ℕ) (M : List ℕ) → s ≡ told l → length l ≤ room_of F.wide L → Said F s L number count M → Complete F l L number count M
  said_complete F s l L number count M e room said =
      let records : records_of s ≡ l = rw e (told-records l) in
      let whole = said_whole F s L number count M (rw records room) said in
      record {
        number_is = whole.number_is ∙ ap number_of e ∙ told-number l;
        count-is = whole.count-is ∙ ap length records;
        log_is = whole.log_is ∙ ap (λ (k : List A). bytes_of F k ++ drop (F.wide * length k) L) records;
      }
