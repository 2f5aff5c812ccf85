-- What a call has done that answers by what was judged of the list.
use Rattle.std.specs.Prelude.{Result, Ok, Err, ◌≡◌, Bool, true, false, List, map, ℕ, ◌<◌, ◌≤◌, length}
use Rattle.std.proofs.Common.{sym, ◌∙◌, subst}
use Rattle.std.proofs.Math.Path.{ap}
use Rattle.std.proofs.Math.Option.{Option, some}
use Rattle.std.proofs.lemmas.List.Edits.{sets}
use Rattle.kinds.specs.declared.event.Event.{Event as Flat}
use Rattle.nesting.specs.Flat.{read}
use Rattle.wkb_written.specs.Spelling.{outermost, spelled}
use Rattle.wkb_written.specs.Writing.{events_in, Written, refused_with, writing, Did}
use Rattle.kinds.specs.declared.refusal.Refusal.{Refusal}
use Rattle.kinds.specs.Refusal.{number_of}
use Rattle.wkb_judge.specs.Passing.{RefusedAs, malformed, faulty, Whole}
use Rattle.wkb_put.specs.Put.{or_none, heard_events, spelled_of}
use Rattle.wkb_writer.specs.Answers.{malformed-written, not_nested_written, deep-written, no_room_written, all-written}

-- how many bytes an answer says were written: none where it refuses
abbrev pub length_of : Result ℕ Refusal → ℕ
length_of (Ok n) = n
length_of (Err e) = 0

-- ---- the list as laying it down has it
pub heard_as : (bytes : List ℕ) {es : List Flat} → events_in bytes ≡ some es → events_in bytes ≡ some (heard_events bytes)
unfolding heard_events
heard_as bytes h = h ∙ ap (λ (o : Option (List Flat)). some (or_none o)) (sym h)

spelled_as : (bytes : List ℕ) {es : List Flat} → events_in bytes ≡ some es → spelled_of bytes ≡ spelled outermost (map read es)
unfolding spelled_of heard_events
spelled_as bytes h = ap (λ (o : Option (List Flat)). spelled outermost (map read (or_none o))) h

module _ (bytes L : List ℕ) where
  -- ---- a refusal writes nothing
  does_nothing : {number : ℕ} → writing bytes (length L) ≡ refused_with number → Did (writing bytes (length L)) L number 0 L
  does_nothing h = record {
    number_is = ap (λ (w : Written). w.number) (sym h);
    long_is = ap (λ (w : Written). length w.bytes) (sym h);
    laid = ap (λ (w : Written). sets L 0 w.bytes) (sym h);
  }

  pub refused_does : {e : Refusal} → RefusedAs bytes e → Did (writing bytes (length L)) L (number_of e) 0 L
  refused_does (malformed h) = does_nothing (malformed-written bytes (length L) h)
  refused_does (faulty f) = does_nothing (not_nested_written bytes (length L) f)

  module _ {deep : Bool} {long : ℕ} (w : Whole bytes deep long) where
    pub deep_does : deep ≡ true → Did (writing bytes (length L)) L 13 0 L
    deep_does h = does_nothing (deep-written bytes (length L) w h)

    pub no_room_does : deep ≡ false → length L < long → Did (writing bytes (length L)) L 12 0 L
    no_room_does h less = does_nothing (no_room_written bytes (length L) w h less)

    pub room_for : long ≤ length L → length (spelled_of bytes) ≤ length L
    room_for enough = subst (λ (n : ℕ). n ≤ length L) (w.long_is ∙ ap length (sym (spelled_as bytes w.listing))) enough

    pub all_does : {L' : List ℕ} → deep ≡ false → long ≤ length L → L' ≡ sets L 0 (spelled_of bytes) → Did (writing bytes (length L)) L 0 long L'
    all_does h enough laid =
        let all : writing bytes (length L) ≡ record { number = 0; bytes = spelled outermost (map read w.events) } = all-written bytes (length L) w h enough in
        record {
          number_is = ap (λ (w : Written). w.number) (sym all);
          long_is = w.long_is ∙ ap (λ (w : Written). length w.bytes) (sym all);
          laid = laid ∙ ap (sets L 0) (spelled_as bytes w.listing) ∙ ap (λ (w : Written). sets L 0 w.bytes) (sym all);
        }
