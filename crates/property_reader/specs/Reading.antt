-- Property bytes read: SPEC 9.6 to 9.11, 9.13. What a reading has to say is a script of values, and `run values` of it says what the log then holds.
use Rattle.std.specs.Prelude.{◌≡◌, Option, Some, None, Result, Bool, false, [], cond, not, ◌&&◌, ◌||◌, List, ℕ, zero, suc, ◌+◌, ◌-◌, leb, ltb, eqb, length, get_or, take, drop}
use Rattle.std.proofs.Common.{Ok, Err, Bor}
use Rattle.laws.specs.Bytes.{word_at}
use Rattle.laws.specs.Script.{Script, stop, say, out, run}
use Rattle.event_log.specs.declared.log.Log.{Log}
use Rattle.event_log.specs.declared.layouts.Values.{Values}
use Rattle.event_log.specs.Values.{values}
use Rattle.kinds.specs.declared.value.Value.{Value}
use Rattle.utf8.specs.Utf8.{first_bad}
use Rattle.property_value.specs.Column.{width_of}
use Rattle.property_value.specs.Value.{text_ok, word_of, placed}
use Rattle.kinds.specs.Refusal.{number_of}
use Rattle.property_value.specs.Refused.{answer_of, answer_place, Told}
use Rattle.property_value.specs.declared.refused.PropertyRefusal.{PropertyRefusal}
use Rattle.property_value.specs.declared.refused.PropertyRefusal.TheVariants.{NotUtf8 as BadText, Other}
use Rattle.property_reader.specs.declared.item.Property.{Property}

-- what stands at a place: nothing more, a refusal's number, a text whose first bad byte is at a place of its own, a property with no value, or one
-- with a value, and the place behind it
pub data Item : Type 0 where
  End : Item
  Refused : ℕ → Item
  NotUtf8 : ℕ → Item
  Skipped : ℕ → Item
  Found : Value → ℕ → Item

-- what the code answers there
abbrev pub property_as : Option Value → ℕ → Item
property_as None next = Skipped next
property_as (Some value) next = Found value next

abbrev pub refused_as : PropertyRefusal → Item
refused_as (BadText place) = NotUtf8 place
refused_as (Other refusal) = Refused (number_of refusal)

abbrev pub item_as : Result Property PropertyRefusal → Item
item_as (Ok property) = property_as property.value property.next
item_as (Err refusal) = refused_as refusal

abbrev pub end_or : Option Property → Item
end_or None = End
end_or (Some property) = property_as property.value property.next

abbrev pub place_as : Result (Option Property) PropertyRefusal → Item
place_as (Ok property) = end_or property
place_as (Err refusal) = refused_as refusal

abbrev pub value_of : ℕ → ℕ → ℕ → ℕ → Value
value_of column kind len word = record { column = column; kind = kind; len = len; word = word }

-- ---- what stands at a place

-- a number: its byte length is its width, its word its bytes, padded with zeros
unfoldable pub number_at : List ℕ → ℕ → ℕ → ℕ → Item
number_at bytes column kind at =
    cond (ltb (length bytes - at) (width_of kind)) (Refused 14)
    (Found (value_of column kind (width_of kind) (word_of kind (word_at (width_of kind) bytes at))) (at + width_of kind))

-- `len` bytes of types 11 to 14: the word is their start within the property bytes, and a bad byte's place is counted from that start
unfoldable pub bytes_at : List ℕ → ℕ → ℕ → ℕ → ℕ → Item
bytes_at bytes column kind start len =
    let text = take len (drop start bytes) in
    cond (ltb (length bytes - start) len) (Refused 14)
    (cond (not (text_ok kind text)) (NotUtf8 (first_bad text))
    (Found (value_of column kind len start) (start + len)))

-- a length in four bytes comes first (SPEC 9.9)
unfoldable pub text_at : List ℕ → ℕ → ℕ → ℕ → Item
text_at bytes column kind at =
    cond (ltb (length bytes - at) 4) (Refused 14)
    (bytes_at bytes column kind (at + 4) (word_at 4 bytes at))

-- a type above 14 takes nothing and gives nothing (SPEC 9.7)
unfoldable pub value_at : List ℕ → ℕ → ℕ → ℕ → Item
value_at bytes column kind at =
    cond (ltb 14 kind) (Skipped at)
    (cond (ltb kind 11) (number_at bytes column kind at)
    (text_at bytes column kind at))

-- done where fewer than two bytes are left (SPEC 9.6); then the refusals in order: 2, 14, 6
unfoldable pub item_at : List ℕ → List ℕ → ℕ → Item
item_at bytes columns at =
    cond (ltb (length bytes - at) 2) End
    (cond (leb (length columns) (word_at 2 bytes at)) (Refused 2)
    (value_at bytes (word_at 2 bytes at) (get_or columns (word_at 2 bytes at) 0) (at + 2)))

-- ---- a reading. It comes to an R: `ended` says to which, of the number that it ends with and the place of a bad byte; `said`, of a value and of what the rest comes to.

module _ {R : Type 0} (ended : ℕ → ℕ → R) (said : Value → R → R) where
  -- the reading ends after a value of the named column (SPEC 9.11)
  unfoldable pub on_item : ℕ → (ℕ → R) → Item → R
  on_item last later End = ended 0 0
  on_item last later (Refused number) = ended number 0
  on_item last later (NotUtf8 place) = ended 6 place
  on_item last later (Skipped next) = later next
  on_item last later (Found value next) = said value (cond (eqb value.column last) (ended 0 0) (later next))

  -- from a place on, by at most `most` items
  unfoldable pub on_up_to : ℕ → List ℕ → List ℕ → ℕ → ℕ → R
  on_up_to zero bytes columns last at = ended 0 0
  on_up_to (suc most) bytes columns last at = on_item last (on_up_to most bytes columns last) (item_at bytes columns at)

  -- by all items from a place on: there are no more than bytes
  unfoldable pub on_from : List ℕ → List ℕ → ℕ → ℕ → R
  on_from bytes columns last at = on_up_to (length bytes - at) bytes columns last at

  -- with no column list, nothing (SPEC 9.6); 65,536 property bytes are usable (SPEC 4.2)
  unfoldable pub on_bytes : List ℕ → Bool → List ℕ → ℕ → R
  on_bytes bytes has_columns columns last = cond has_columns (on_from (take 65536 bytes) columns last 0) (ended 0 0)

-- the columns' types that are listed, if there is a list
abbrev pub listed : Option (Bor (List ℕ)) → List ℕ
listed None = []
listed (Some columns) = columns.now

-- ---- what it has to say

abbrev pub end_script : ℕ → ℕ → Script Value
end_script number place = stop number

abbrev pub properties_from : List ℕ → List ℕ → ℕ → ℕ → Script Value
properties_from = on_from end_script say

abbrev pub reading : List ℕ → Bool → List ℕ → ℕ → Script Value
reading = on_bytes end_script say

-- ---- the place of the bad byte for which it ends, and 0 where it ends otherwise (SPEC 9.13). It is `placed` by the answer: a log that is full before gives 9.

abbrev pub end_place : ℕ → ℕ → ℕ
end_place number place = place

abbrev pub keep_place : Value → ℕ → ℕ
keep_place value place = place

abbrev pub bad_from : List ℕ → List ℕ → ℕ → ℕ → ℕ
bad_from = on_from end_place keep_place

abbrev pub bad_in : List ℕ → Bool → List ℕ → ℕ → ℕ
bad_in = on_bytes end_place keep_place

-- ---- whether it stopped

-- a value of this column is said
unfoldable pub says : ℕ → Script Value → Bool
says column (stop number) = false
says column (say value s) = eqb value.column column || says column s

-- whether it stopped (SPEC 9.11): all was said, and the named column's value with it
unfoldable pub stopped : ℕ → Script Value → ℕ → Bool
stopped last s number = eqb number 0 && says last s

-- what the code answers of it: a refused reading did not stop there
abbrev pub has_stopped : Result Bool PropertyRefusal → Bool
has_stopped (Ok stopped) = stopped
has_stopped (Err refusal) = false

-- what a reading from the first byte on leaves of a log, and answers
pub record Read (bytes columns : List ℕ) (last : ℕ) (a b : Log Values) (answer : Result Bool PropertyRefusal) : Type 0 where
  pub memory : b.bytes.ghost_name ≡ a.bytes.ghost_name
  pub log_value : run values (properties_from bytes columns last 0) a.bytes.now a.count ≡ out (answer_of answer) b.count b.bytes.now
  pub stopped_value : has_stopped answer ≡ stopped last (properties_from bytes columns last 0) (answer_of answer)
  pub place_value : answer_place answer ≡ placed (answer_of answer) (bad_from bytes columns last 0)
  pub told : Told answer
