-- Writing a property: its bytes, what is refused, and what a write answers and leaves: SPEC 9.1 to 9.5, in its order.
use Rattle.std.specs.Prelude.{◌≡◌, Result, Bool, cond, not, List, ◌++◌, ℕ, ◌+◌, ◌^◌, ◌≤◌, ◌<◌, min, leb, ltb, eqb, length}
use Rattle.std.proofs.Common.{Ok, Err}
use Rattle.std.proofs.lemmas.List.Edits.{sets}
use Rattle.laws.specs.Bytes.{le}
use Rattle.kinds.specs.declared.column_type.ColumnType.{ColumnType}
use Rattle.kinds.specs.ColumnType.{type_number}
use Rattle.kinds.specs.Refusal.{number_of}
use Rattle.utf8.specs.Utf8.{first_bad}
use Rattle.property_value.specs.Column.{width_of}
use Rattle.property_value.specs.Value.{malformed, text_ok, placed}
use Rattle.property_value.specs.declared.refused.PropertyRefusal.{PropertyRefusal}
use Rattle.property_value.specs.Refused.{refusal_of as refused_as, place_of, answer_of, answer_place, Proper}

-- a text as bytes: a u32 length first
unfoldable pub text_bytes : List ℕ → List ℕ
text_bytes text = le 4 (length text) ++ text

-- types 11 to 14 have their length first; the text of a number and the bits of a text are passed over (SPEC 9.2)
unfoldable pub laid_down : ℕ → ℕ → List ℕ → List ℕ
laid_down kind bits text = cond (leb 11 kind) (text_bytes text) (le (width_of kind) bits)

-- the column's two bytes, and then the value (SPEC 9.1)
unfoldable pub property_bytes : ℕ → ℕ → ℕ → List ℕ → List ℕ
property_bytes column kind bits text = le 2 column ++ laid_down kind bits text

-- 15 while a finished feature waits, 16 for a column above 65,535, 11, 6, and 12 for no room: counted from what is used already, within the
-- lesser of what is lent and the usable 65,536 bytes. A buffer shorter than what is used has no room.
unfoldable pub refusal_of : Bool → ℕ → ℕ → ℕ → ℕ → List ℕ → ℕ → ℕ
refusal_of waiting used column kind bits text lent =
    cond waiting 15
    (cond (ltb 65535 column) 16
    (cond (malformed kind bits) 11
    (cond (not (text_ok kind text)) 6
    (cond (ltb (min lent 65536) (used + length (property_bytes column kind bits text))) 12 0))))

-- a refused write changes nothing
abbrev pub settled : {A : Type 0} → ℕ → A → A → A
settled number written kept = cond (eqb number 0) written kept

-- the answer's number, how many bytes of the buffer are used then, and the place of a bad byte
pub record PropertyPut : Type 0 where
  pub number : ℕ
  pub used : ℕ
  pub place : ℕ

-- what the code answers: how many bytes are used then, or a refusal, which leaves what was used
abbrev pub used_then : ℕ → Result ℕ PropertyRefusal → ℕ
used_then used (Ok then) = then
used_then used (Err refusal) = used

abbrev pub put_as : ℕ → Result ℕ PropertyRefusal → PropertyPut
put_as used answer = record { number = answer_of answer; used = used_then used answer; place = answer_place answer }

-- what a write answers; the place is counted from the text's first byte
unfoldable pub put_of : Bool → ℕ → ℕ → ℕ → ℕ → List ℕ → List ℕ → PropertyPut
put_of waiting used column kind bits text buffer =
    let number = refusal_of waiting used column kind bits text (length buffer) in
    record {
      number = number;
      used = settled number (used + length (property_bytes column kind bits text)) used;
      place = placed number (first_bad text);
    }

unfoldable pub bytes_after : Bool → ℕ → ℕ → ℕ → ℕ → List ℕ → List ℕ → List ℕ
bytes_after waiting used column kind bits text buffer =
    settled (refusal_of waiting used column kind bits text (length buffer)) (sets buffer used (property_bytes column kind bits text)) buffer

-- What the parts of the code speak of.

-- how many bytes a property has
unfoldable pub property_length : ℕ → List ℕ → ℕ
property_length kind text = 2 + cond (leb 11 kind) (4 + length text) (width_of kind)

-- the bytes say all of a number, and all of a text's length
pub record Exact (kind bits : ℕ) (text : List ℕ) : Type 0 where
  pub number : kind ≤ 10 → bits < 256 ^ width_of kind
  pub count : 11 ≤ kind → length text < 256 ^ 4

-- a property that is judged: the type that its kind is where it may be written, or the refusal, with its place, told as it is to be
abbrev pub Judged : Bool → ℕ → ℕ → ℕ → ℕ → List ℕ → ℕ → Result ColumnType PropertyRefusal → Type 0
Judged waiting used column kind bits text lent (Ok type) = (refusal_of waiting used column kind bits text lent ≡ 0) × (type_number type ≡ kind)
Judged waiting used column kind bits text lent (Err refusal) =
    (number_of (refused_as refusal) ≡ refusal_of waiting used column kind bits text lent)
    × (place_of refusal ≡ placed (refusal_of waiting used column kind bits text lent) (first_bad text))
    × Proper refusal
