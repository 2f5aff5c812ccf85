-- Laws of a pair and the values beside it.
use Rattle.std.specs.Prelude.{◌≡◌, refl, Bool, Some, None, Option as OptionR, List, [], ◌∷◌, ℕ, zero, suc, ◌+◌, drop}
use Rattle.std.proofs.Common.{Ok, Err, sym, ap, ◌∙◌, add-one, arith}
use Rattle.std.proofs.Math.Bool.{true, false}
use Rattle.std.specs.Option.{unwrap_or}
use Rattle.std.proofs.Math.Option.{Option, none, some}
use Rattle.laws.specs.Script.{Script, stop, say}
use Rattle.kinds.specs.Event.{xy_e}
use Rattle.kinds.specs.declared.event.Event.{Event}
use Rattle.kinds.specs.declared.refusal.Refusal.{Refusal}
use Rattle.kinds.specs.Refusal.{number_of}
use Rattle.geometries.specs.Coordinate.{is, or0, coord_e}
use Rattle.coords.specs.Coords.{Value, Absent, Past, Present, Lanes, head_of, tail_of, drop_o, dropped, tails, taken, coordinate_s, pair_s}
use Rattle.coords.specs.Views.{value_in, read_of, told}

-- the values beside the next pair
next : (l : List ℕ) (n : ℕ) → tail_of (some (drop n l)) ≡ some (drop (suc n) l)
next [] zero = refl
next [] (suc n) = refl
next (x ∷ l) zero = refl
next (x ∷ l) (suc n) = next l n

tail-drop : (n : ℕ) (o : Option (List ℕ)) → tail_of (drop_o n o) ≡ drop_o (n + 1) o
tail-drop n none = refl
tail-drop n (some l) = next l n ∙ ap (λ (k : ℕ). some (drop k l)) (sym (add-one n))

pub tails-dropped : (n : ℕ) (L : Lanes) → tails (dropped n L) ≡ dropped (n + 1) L
tails-dropped n L = λ i. record { z = tail-drop n L.z i; m = tail-drop n L.m i; t = tail-drop n L.t i; tm = tail-drop n L.tm i }

-- ---- a value as it is read: a refusal, or what is beside the pair
taken_err : (v : Value) (f : Option ℕ → Script Event) {e : Refusal} → Err e ≡ read_of v → taken v f ≡ stop (number_of e)
unfolding taken
taken_err Absent f h = let z : ◌≡◌ {A = ℕ} 0 1 = cc in absurd (omega arith)
taken_err Past f h = cc
taken_err (Present v) f h = let z : ◌≡◌ {A = ℕ} 0 1 = cc in absurd (omega arith)

taken_ok : (v : Value) (f : Option ℕ → Script Event) {o : OptionR ℕ} → Ok o ≡ read_of v → taken v f ≡ f (value_in o)
unfolding taken
taken_ok Absent f {o} h = cc
taken_ok Past f h = let z : ◌≡◌ {A = ℕ} 0 1 = cc in absurd (omega arith)
taken_ok (Present v) f h = cc

pub value-or : (v : OptionR ℕ) → unwrap_or v 0 ≡ or0 (value_in v)
value-or None = refl
value-or (Some v) = refl

-- ---- a pair, without flags and with
module _ (L : Lanes) (x y idx : ℕ) where
  pub pair_plain : {many : Bool} {e : Event} → many ≡ false → e ≡ xy_e x y idx → (k : Script Event) → pair_s many L x y idx k ≡ say e k
  unfolding pair_s
  pair_plain h q k = rw (h, q)

  pair_many : {many : Bool} → many ≡ true → (k : Script Event) → pair_s many L x y idx k ≡ coordinate_s (head_of L.z) (head_of L.m) (head_of L.t) (head_of L.tm) x y idx k
  unfolding pair_s
  pair_many h k = rw h

  -- with what was read of z, then of m, of t and of tm
  module _ {many : Bool} (flags : many ≡ true) where
    pub past_z : {e : Refusal} → Err e ≡ read_of (head_of L.z) → (k : Script Event) → pair_s many L x y idx k ≡ told (Err e) k
    unfolding coordinate_s
    past_z z k = pair_many flags k ∙ taken_err (head_of L.z) _ z

    module _ {a : OptionR ℕ} (z : Ok a ≡ read_of (head_of L.z)) where
      pub past_m : {e : Refusal} → Err e ≡ read_of (head_of L.m) → (k : Script Event) → pair_s many L x y idx k ≡ told (Err e) k
      unfolding coordinate_s
      past_m m k = pair_many flags k ∙ taken_ok (head_of L.z) _ z ∙ taken_err (head_of L.m) _ m

      module _ {b : OptionR ℕ} (m : Ok b ≡ read_of (head_of L.m)) where
        pub past_t : {e : Refusal} → Err e ≡ read_of (head_of L.t) → (k : Script Event) → pair_s many L x y idx k ≡ told (Err e) k
        unfolding coordinate_s
        past_t t k = pair_many flags k ∙ taken_ok (head_of L.z) _ z ∙ taken_ok (head_of L.m) _ m ∙ taken_err (head_of L.t) _ t

        module _ {c : OptionR ℕ} (t : Ok c ≡ read_of (head_of L.t)) where
          pub past_tm : {e : Refusal} → Err e ≡ read_of (head_of L.tm) → (k : Script Event) → pair_s many L x y idx k ≡ told (Err e) k
          unfolding coordinate_s
          past_tm tm k = pair_many flags k ∙ taken_ok (head_of L.z) _ z ∙ taken_ok (head_of L.m) _ m ∙ taken_ok (head_of L.t) _ t ∙ taken_err (head_of L.tm) _ tm

          pub whole : {d : OptionR ℕ} {e : Event} → Ok d ≡ read_of (head_of L.tm) → e ≡ coord_e x y (value_in a) (value_in b) (value_in c) (value_in d) idx
              → (k : Script Event) → pair_s many L x y idx k ≡ told (Ok e) k
          unfolding coordinate_s
          whole tm is k =
              pair_many flags k ∙ taken_ok (head_of L.z) _ z ∙ taken_ok (head_of L.m) _ m ∙ taken_ok (head_of L.t) _ t ∙ taken_ok (head_of L.tm) _ tm
              ∙ ap (λ (a : Event). say a k) (sym is)
