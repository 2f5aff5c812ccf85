-- Properties read with the column list that a caller hands in beside whether there is one.
use Rattle.std.specs.Prelude.{◌≡◌, refl, Bool, true, false, List, ℕ, Option, Result, is_some}
use Rattle.std.proofs.Common.{ap, ◌∙◌}
use Rattle.std.specs.Bool.{then_some}
use Rattle.std.specs.Borrow.{Bor}
use Rattle.laws.specs.Script.{out, run}
use Rattle.laws.specs.Cut.{Said, said}
use Rattle.event_log.specs.Values.{values}
use Rattle.property_value.specs.declared.refused.PropertyRefusal.{PropertyRefusal}
use Rattle.property_value.specs.Refused.{answer_of, answer_place}
use Rattle.property_value.specs.Value.{placed}
use Rattle.property_reader.specs.Reading.{on_bytes, reading, bad_in, stopped, has_stopped, listed}

-- what the call answers, of a reading with this column list or none
pub record PropertiesAre (bytes : List ℕ) (there : Bool) (columns : List ℕ) (last : ℕ) (L : List ℕ) (count : ℕ) (M : List ℕ) (answer : Result Bool PropertyRefusal) : Type 0 where
  pub says : Said values (reading bytes there columns last) L (answer_of answer) count M
  pub stops : has_stopped answer ≡ stopped last (reading bytes there columns last) (answer_of answer)
  pub place : answer_place answer ≡ placed (answer_of answer) (bad_in bytes there columns last)

module _ (bytes : List ℕ) (there : Bool) (columns : Bor (List ℕ)) (last : ℕ) where
  asked : Option (Bor (List ℕ))
  asked = then_some there columns

  same_reading : reading bytes (is_some asked) (listed asked) last ≡ reading bytes there columns.now last
  unfolding on_bytes asked
  same_reading = go there
    where
      go : (b : Bool) → reading bytes (is_some (then_some b columns)) (listed (then_some b columns)) last ≡ reading bytes b columns.now last
      go true = refl
      go false = refl

  same_bad : bad_in bytes (is_some asked) (listed asked) last ≡ bad_in bytes there columns.now last
  unfolding on_bytes asked
  same_bad = go there
    where
      go : (b : Bool) → bad_in bytes (is_some (then_some b columns)) (listed (then_some b columns)) last ≡ bad_in bytes b columns.now last
      go true = refl
      go false = refl

  pub properties_are : {list : Option (Bor (List ℕ))} {L M : List ℕ} {count : ℕ} {answer : Result Bool PropertyRefusal} → list ≡ then_some there columns
      → run values (reading bytes (is_some list) (listed list) last) L 0 ≡ out (answer_of answer) count M
      → has_stopped answer ≡ stopped last (reading bytes (is_some list) (listed list) last) (answer_of answer)
      → answer_place answer ≡ placed (answer_of answer) (bad_in bytes (is_some list) (listed list) last)
      → PropertiesAre bytes there columns.now last L count M answer
  unfolding asked
  properties_are {list} is logged stops place =
      let read = (ap (λ (o : Option (Bor (List ℕ))). reading bytes (is_some o) (listed o) last) is ∙ same_reading) in
      let bad = (ap (λ (o : Option (Bor (List ℕ))). bad_in bytes (is_some o) (listed o) last) is ∙ same_bad) in
      record { says = said values (rw read at logged); stops = rw read at stops; place = rw bad at place }
