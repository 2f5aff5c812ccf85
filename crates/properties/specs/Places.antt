-- SPEC 9.13: the place that goes with an answer, written and read. With 6 it is that of the refused text's first bad byte, and with any other answer 0.
use Rattle.std.proofs.Math.Path.{◌≡◌, refl}
use Rattle.std.proofs.Common.{sym, ◌∙◌, arith, leb-true, le-ltb, ne_eqb}
use Rattle.std.specs.Prelude.{Some, Bool, cond, not, List, ℕ, ◌+◌, ◌-◌, ◌≤◌, ◌<◌, min, leb, ltb, take}
use Rattle.std.proofs.Math.Bool.{true, false}
use Rattle.std.proofs.Math.ListN.{length}
use Rattle.std.proofs.lemmas.Bool.{lt-leb}
use Rattle.laws.specs.Every.{never, both}
use Rattle.laws.specs.Bytes.{word_at}
use Rattle.laws.specs.Cut.{number_of, records_of, room_of, Said}
use Rattle.event_log.specs.Values.{values}
use Rattle.utf8.specs.Utf8.{first_bad, BadIs}
use Rattle.property_value.specs.Column.{is_text}
use Rattle.property_value.specs.Value.{malformed, text_ok, placed}
use Rattle.property_value.specs.ValueLaws.{text_fails, checked, not-placed}
use Rattle.property_writer.specs.Writing.{PropertyPut, property_bytes, refusal_of, put_of}
use Rattle.property_reader.specs.Reading.{Refused, NotUtf8, bytes_at, text_at, value_at, item_at, on_item, end_place, keep_place, bad_from, reading, bad_in}
use Rattle.property_reader.specs.ReadingLaws.{text_start, text_in, type_at, every_item, on_unrolled}
use Rattle.properties.specs.Readings.{Reached, Reached.first, Reached.skipped, Reached.found, every-reading}

-- ---- a property that is written

module _ (waiting : Bool) (used column kind bits : ℕ) (text buffer : List ℕ) where
  abbrev answer : PropertyPut
  answer = put_of waiting used column kind bits text buffer

  text_refused : answer.number ≡ 6 → text_ok kind text ≡ false
  unfolding put_of refusal_of
  text_refused = go waiting (ltb 65535 column) (malformed kind bits) (text_ok kind text) (ltb (min (length buffer) 65536) (used + length (property_bytes column kind bits text)))
    where
      go : (turn index formed spelt full : Bool) → ◌≡◌ {A = ℕ} (cond turn 15 (cond index 16 (cond formed 11 (cond (not spelt) 6 (cond full 12 0))))) 6 → spelt ≡ false
      go true index formed spelt full e = absurd (omega arith)
      go false true formed spelt full e = absurd (omega arith)
      go false false true spelt full e = absurd (omega arith)
      go false false false true true e = absurd (omega arith)
      go false false false true false e = absurd (omega arith)
      go false false false false full e = refl

  -- the type is held to be UTF-8, and the text's first bad byte is at the place
  pub put_bad : answer.number ≡ 6 → (is_text kind ≡ true) × BadIs text (Some answer.place)
  unfolding put_of placed
  put_bad six = rw six (text_fails kind text (text_refused six))

  pub put_not_bad : (answer.number ≡ 6 → ⊥) → answer.place ≡ 0
  unfolding put_of
  put_not_bad n = not-placed answer.number (first_bad text) n

-- ---- property bytes that are read

-- the reading comes to a property of a listed column, whose type is held to be UTF-8; its text is there whole, with its first bad byte at a place
pub record RefusedText (bytes columns : List ℕ) (last place : ℕ) : Type 0 where
  pub at : ℕ
  pub reached : Reached bytes columns last at
  pub listed : word_at 2 bytes at < length columns
  pub type : is_text (type_at bytes columns at) ≡ true
  pub whole : text_start at + word_at 4 bytes (at + 2) ≤ length bytes
  pub bad : BadIs (text_in bytes at) (Some place)

-- an item that is refused with 6 is such a text
item_bad : (bytes columns : List ℕ) (last at place : ℕ) → Reached bytes columns last at → item_at bytes columns at ≡ NotUtf8 place → RefusedText bytes columns last place
item_bad bytes columns last at place r =
    every_item (λ i. i ≡ NotUtf8 place → RefusedText bytes columns last place) bytes columns at (λ e. absurd (never (cc))) (λ e. absurd (never (cc))) (λ e. absurd (never (cc)))
    (λ listed whole fails e.
    let same : first_bad (text_in bytes at) ≡ place = cc in
    let text = text_fails (type_at bytes columns at) (text_in bytes at) fails in
    record { at = at; reached = r; listed = listed; type = text.0; whole = whole; bad = rw same at text.1 })
    (λ next h l e. absurd (never (cc))) (λ kind len word next h l e. absurd (never (cc)))

-- and such a text is refused with 6
bad_item : (bytes columns : List ℕ) (last place : ℕ) (t : RefusedText bytes columns last place) → item_at bytes columns t.at ≡ NotUtf8 place
unfolding item_at value_at text_at bytes_at is_text
bad_item bytes columns last place t =
    let at = t.at in
    let kind = type_at bytes columns at in
    let types = both (leb 11 kind) (leb kind 13) t.type in
    let least = leb-true 11 kind types.0 in
    let most = leb-true kind 13 types.1 in
    let found = checked kind (text_in bytes at) (Some place) t.type t.bad in
    rw (
      le-ltb (length bytes - at) 2 (omega (arith, t.whole)),
      lt-leb (length columns) (word_at 2 bytes at) t.listed,
      le-ltb 14 kind (omega arith),
      le-ltb kind 11 least,
      le-ltb (length bytes - (at + 2)) 4 (omega (arith, t.whole)),
      le-ltb (length bytes - text_start at) (word_at 4 bytes (at + 2)) (omega (arith, t.whole)),
      found.0,
      found.1,
    )

-- no other refusal of an item is 6
item_other : (bytes columns : List ℕ) (at number : ℕ) → item_at bytes columns at ≡ Refused number → number ≡ 6 → ⊥
item_other bytes columns at number =
    every_item (λ i. i ≡ Refused number → number ≡ 6 → ⊥) bytes columns at (λ e six. absurd (never (cc)))
    (λ e six. let same : 2 ≡ number = cc in omega arith)
    (λ e six. let same : 14 ≡ number = cc in omega arith)
    (λ listed whole fails e six. absurd (never (cc))) (λ next h l e six. absurd (never (cc))) (λ kind len word next h l e six. absurd (never (cc)))

-- from every place that it comes to, what is left of a reading has the bad byte's place that all of it has
same_bad : (bytes columns : List ℕ) (last at : ℕ) → Reached bytes columns last at → bad_from bytes columns last 0 ≡ bad_from bytes columns last at
unfolding on_item
same_bad bytes columns last at first = refl
same_bad bytes columns last next (skipped {at} r e) = same_bad bytes columns last at r ∙ on_unrolled end_place keep_place bytes columns last at ∙ rw e
same_bad bytes columns last next (found {at} {value = value} r e other) =
    same_bad bytes columns last at r ∙ on_unrolled end_place keep_place bytes columns last at ∙ rw (e, ne_eqb value.column last other)

-- so there is one place with which it may be refused
pub bad_is : (bytes columns : List ℕ) (last place : ℕ) → RefusedText bytes columns last place → bad_from bytes columns last 0 ≡ place
unfolding on_item
bad_is bytes columns last place t =
    same_bad bytes columns last t.at t.reached ∙ on_unrolled end_place keep_place bytes columns last t.at ∙ rw (bad_item bytes columns last place t)

module _ (bytes : List ℕ) (has_columns : Bool) (columns : List ℕ) (last : ℕ) where
  script_bad : number_of (reading bytes has_columns columns last) ≡ 6 → RefusedText (take 65536 bytes) columns last (bad_in bytes has_columns columns last)
  unfolding number_of
  script_bad =
      every-reading bytes has_columns columns last (λ s place. number_of s ≡ 6 → RefusedText (take 65536 bytes) columns last place) (λ e. absurd (omega arith))
      (λ at number r e. absurd (item_other (take 65536 bytes) columns at number r e))
      (λ at place reached r e. item_bad (take 65536 bytes) columns last at place reached r)
      (λ at next value s place r f later. later)

  -- a reading that answers 6, which a log that is full before it does not
  pub read_bad : (log after : List ℕ) (count : ℕ) → Said values (reading bytes has_columns columns last) log 6 count after
      → RefusedText (take 65536 bytes) columns last (bad_in bytes has_columns columns last)
  read_bad log after count h = go (leb (length (records_of (reading bytes has_columns columns last))) (room_of values.wide log)) h.number_is
    where
      go : (t : Bool) → 6 ≡ cond t (number_of (reading bytes has_columns columns last)) 9 → RefusedText (take 65536 bytes) columns last (bad_in bytes has_columns columns last)
      go true e = script_bad (sym e)
      go false e = absurd (omega arith)
