-- B12 to B14 of SPEC 12.3, and more property bytes, read to a log of one record and four bytes that stay as they are; the places of texts that are not UTF-8.
use Rattle.std.specs.Prelude.{Some, ◌≡◌, refl, true, false, List, [], ◌∷◌, ◌++◌, ℕ, take, replicate}
use Rattle.laws.specs.Script.{out, run, put, room_at}
use Rattle.laws.specs.Cut.{said}
use Rattle.event_layout.specs.Value.{value_bytes}
use Rattle.event_log.specs.Values.{values}
use Rattle.utf8.specs.Utf8.{BadIs, has, row_of, begins, char_length, first_bad, is_utf8}
use Rattle.property_value.specs.Column.{width_of, is_text}
use Rattle.property_value.specs.Value.{malformed, word_of, text_ok, placed}
use Rattle.property_reader.specs.Reading.{number_at, bytes_at, text_at, value_at, item_at, on_item, on_up_to, on_from, on_bytes, reading, bad_in, says, stopped}
use Rattle.property_writer.specs.Writing.{text_bytes, laid_down, property_bytes, refusal_of, put_of}
use Rattle.properties.specs.Places.{RefusedText, put_bad, read_bad}
use Rattle.utf8.specs.Utf8 as Utf8

abbrev log : List ℕ
log = replicate 20 0xee

abbrev rest : List ℕ
rest = replicate 4 0xee

-- a Byte of -1, by its bits
pub b12 : run values (reading (0x00 ∷ 0x00 ∷ 0xff ∷ []) true (0 ∷ []) 65536) log 0
    ≡ out 0 1 ((0 ∷ 0 ∷ 0 ∷ 0 ∷ 1 ∷ 0 ∷ 0 ∷ 0 ∷ 0xff ∷ 0 ∷ 0 ∷ 0 ∷ 0 ∷ 0 ∷ 0 ∷ 0 ∷ []) ++ rest)
unfolding run put room_at values value_bytes on_bytes on_from on_up_to on_item item_at value_at number_at word_of width_of
b12 = refl

-- a UByte of 5, and a trailing byte
pub b13 : run values (reading (0x00 ∷ 0x00 ∷ 0x05 ∷ 0x07 ∷ []) true (1 ∷ []) 65536) log 0
    ≡ out 0 1 ((0 ∷ 0 ∷ 1 ∷ 0 ∷ 1 ∷ 0 ∷ 0 ∷ 0 ∷ 5 ∷ 0 ∷ 0 ∷ 0 ∷ 0 ∷ 0 ∷ 0 ∷ 0 ∷ []) ++ rest)
unfolding run put room_at values value_bytes on_bytes on_from on_up_to on_item item_at value_at number_at word_of width_of
b13 = refl

pub b14 : run values (reading (0x01 ∷ 0x00 ∷ []) true (0 ∷ []) 65536) log 0
    ≡ out 2 0 log
unfolding run put room_at values value_bytes on_bytes on_from on_up_to on_item item_at value_at number_at word_of width_of
b14 = refl

pub string_cut : run values (reading (0x00 ∷ 0x00 ∷ 0x03 ∷ 0x00 ∷ 0x00 ∷ 0x00 ∷ 0x61 ∷ 0x62 ∷ []) true (11 ∷ []) 65536) log 0
    ≡ out 14 0 log
unfolding run put room_at values value_bytes on_bytes on_from on_up_to on_item item_at value_at text_at bytes_at text_ok is_text is_utf8 first_bad Utf8.run char_length row_of begins has
string_cut = refl

-- a text's value record has the place where the text starts as its word, and not the length
string_found : run values (reading (0x00 ∷ 0x00 ∷ 0x02 ∷ 0x00 ∷ 0x00 ∷ 0x00 ∷ 0x61 ∷ 0x62 ∷ []) true (11 ∷ []) 65536) log 0
    ≡ out 0 1 ((0 ∷ 0 ∷ 11 ∷ 0 ∷ 2 ∷ 0 ∷ 0 ∷ 0 ∷ 6 ∷ 0 ∷ 0 ∷ 0 ∷ 0 ∷ 0 ∷ 0 ∷ 0 ∷ []) ++ rest)
unfolding run put room_at values value_bytes on_bytes on_from on_up_to on_item item_at value_at text_at bytes_at text_ok is_text is_utf8 first_bad Utf8.run char_length row_of begins has
string_found = refl

string_not_utf8 : run values (reading (0x00 ∷ 0x00 ∷ 0x01 ∷ 0x00 ∷ 0x00 ∷ 0x00 ∷ 0x80 ∷ []) true (11 ∷ []) 65536) log 0
    ≡ out 6 0 log
unfolding run put room_at values value_bytes on_bytes on_from on_up_to on_item item_at value_at text_at bytes_at text_ok is_text is_utf8 first_bad Utf8.run char_length row_of begins has
string_not_utf8 = refl

-- 6 may be at place 0
string_bad_at_first : bad_in (0x00 ∷ 0x00 ∷ 0x01 ∷ 0x00 ∷ 0x00 ∷ 0x00 ∷ 0x80 ∷ []) true (11 ∷ []) 65536 ≡ 0
unfolding on_bytes on_from on_up_to on_item item_at value_at text_at bytes_at text_ok is_text is_utf8 first_bad Utf8.run char_length row_of begins has
string_bad_at_first = refl

binary_unchecked : run values (reading (0x00 ∷ 0x00 ∷ 0x01 ∷ 0x00 ∷ 0x00 ∷ 0x00 ∷ 0x80 ∷ []) true (14 ∷ []) 65536) log 0
    ≡ out 0 1 ((0 ∷ 0 ∷ 14 ∷ 0 ∷ 1 ∷ 0 ∷ 0 ∷ 0 ∷ 6 ∷ 0 ∷ 0 ∷ 0 ∷ 0 ∷ 0 ∷ 0 ∷ 0 ∷ []) ++ rest)
unfolding run put room_at values value_bytes on_bytes on_from on_up_to on_item item_at value_at text_at bytes_at text_ok is_text is_utf8 first_bad Utf8.run char_length row_of begins has
binary_unchecked = refl

bool_seven : run values (reading (0x00 ∷ 0x00 ∷ 0x07 ∷ []) true (2 ∷ []) 65536) log 0
    ≡ out 0 1 ((0 ∷ 0 ∷ 2 ∷ 0 ∷ 1 ∷ 0 ∷ 0 ∷ 0 ∷ 1 ∷ 0 ∷ 0 ∷ 0 ∷ 0 ∷ 0 ∷ 0 ∷ 0 ∷ []) ++ rest)
unfolding run put room_at values value_bytes on_bytes on_from on_up_to on_item item_at value_at number_at word_of width_of
bool_seven = refl

type_above_14 : run values (reading (0x01 ∷ 0x00 ∷ 0x00 ∷ 0x00 ∷ 0x05 ∷ []) true (1 ∷ 15 ∷ []) 65536) log 0
    ≡ out 0 1 ((0 ∷ 0 ∷ 1 ∷ 0 ∷ 1 ∷ 0 ∷ 0 ∷ 0 ∷ 5 ∷ 0 ∷ 0 ∷ 0 ∷ 0 ∷ 0 ∷ 0 ∷ 0 ∷ []) ++ rest)
unfolding run put room_at values value_bytes on_bytes on_from on_up_to on_item item_at value_at number_at word_of width_of
type_above_14 = refl

log_full : run values (reading (0x00 ∷ 0x00 ∷ 0x05 ∷ 0x00 ∷ 0x00 ∷ 0x06 ∷ []) true (1 ∷ []) 65536) log 0
    ≡ out 9 1 ((0 ∷ 0 ∷ 1 ∷ 0 ∷ 1 ∷ 0 ∷ 0 ∷ 0 ∷ 5 ∷ 0 ∷ 0 ∷ 0 ∷ 0 ∷ 0 ∷ 0 ∷ 0 ∷ []) ++ rest)
unfolding run put room_at values value_bytes on_bytes on_from on_up_to on_item item_at value_at number_at word_of width_of
log_full = refl

-- after the named column's value the rest is not read, though column 9 is not there
stop_after : run values (reading (0x00 ∷ 0x00 ∷ 0x05 ∷ 0x09 ∷ 0x00 ∷ []) true (1 ∷ []) 0) log 0
    ≡ out 0 1 ((0 ∷ 0 ∷ 1 ∷ 0 ∷ 1 ∷ 0 ∷ 0 ∷ 0 ∷ 5 ∷ 0 ∷ 0 ∷ 0 ∷ 0 ∷ 0 ∷ 0 ∷ 0 ∷ []) ++ rest)
unfolding run put room_at values value_bytes on_bytes on_from on_up_to on_item item_at value_at number_at word_of width_of
stop_after = refl

stop_said : stopped 0 (reading (0x00 ∷ 0x00 ∷ 0x05 ∷ 0x09 ∷ 0x00 ∷ []) true (1 ∷ []) 0) 0 ≡ true
unfolding stopped says on_bytes on_from on_up_to on_item item_at value_at number_at word_of width_of
stop_said = refl

-- where the log has no room for the named column's value the reading did not stop
stop_unsaid : stopped 0 (reading (0x00 ∷ 0x00 ∷ 0x05 ∷ 0x09 ∷ 0x00 ∷ []) true (1 ∷ []) 0) 9 ≡ false
unfolding stopped says on_bytes on_from on_up_to on_item item_at value_at number_at word_of width_of
stop_unsaid = refl

-- ---- H. Schräder, typed on a keypad of before UTF-8: the byte after seven others begins no character

abbrev crew : List ℕ
crew = 0x48 ∷ 0x2e ∷ 0x20 ∷ 0x53 ∷ 0x63 ∷ 0x68 ∷ 0x72 ∷ 0xe4 ∷ 0x64 ∷ 0x65 ∷ 0x72 ∷ []

-- there is no room either, but 6 stands before 12
crew-written : put_of false 0 3 11 0 crew [] ≡ record { number = 6; used = 0; place = 7 }
unfolding put_of refusal_of malformed text_ok is_text placed is_utf8 first_bad Utf8.run char_length row_of begins has
crew-written = refl

-- a Binary of the same bytes is refused for the room alone, and has no place
crew_binary : put_of false 0 3 14 0 crew [] ≡ record { number = 12; used = 0; place = 0 }
unfolding put_of refusal_of property_bytes laid_down text_bytes malformed text_ok is_text placed
crew_binary = refl

-- behind a UByte of another column, counted from the text's own first byte
abbrev crew-bytes : List ℕ
crew-bytes = 0x01 ∷ 0x00 ∷ 0x05 ∷ 0x00 ∷ 0x00 ∷ 0x0b ∷ 0x00 ∷ 0x00 ∷ 0x00 ∷ crew

crew-read : run values (reading crew-bytes true (11 ∷ 1 ∷ []) 65536) log 0
    ≡ out 6 1 ((1 ∷ 0 ∷ 1 ∷ 0 ∷ 1 ∷ 0 ∷ 0 ∷ 0 ∷ 5 ∷ 0 ∷ 0 ∷ 0 ∷ 0 ∷ 0 ∷ 0 ∷ 0 ∷ []) ++ rest)
unfolding run put room_at values value_bytes on_bytes on_from on_up_to on_item item_at value_at number_at word_of width_of text_at bytes_at text_ok is_text is_utf8 first_bad Utf8.run char_length row_of begins has
crew-read = refl

crew-place : bad_in crew-bytes true (11 ∷ 1 ∷ []) 65536 ≡ 7
unfolding on_bytes on_from on_up_to on_item item_at value_at number_at word_of width_of text_at bytes_at text_ok is_text is_utf8 first_bad Utf8.run char_length row_of begins has
crew-place = refl

-- so there are answers of 6 with a place, both ways
crew_bad : BadIs crew (Some 7)
unfolding put_of refusal_of malformed text_ok is_text placed is_utf8 first_bad Utf8.run char_length row_of begins has
crew_bad = (put_bad false 0 3 11 0 crew [] refl).1

crew_refused : RefusedText (take 65536 crew-bytes) (11 ∷ 1 ∷ []) 65536 7
crew_refused = rw crew-place at (read_bad crew-bytes true (11 ∷ 1 ∷ []) 65536 log _ 1 (said values crew-read))

-- the same bytes to a log with no room for the UByte: 9, and so no place
crew_log_full : run values (reading crew-bytes true (11 ∷ 1 ∷ []) 65536) rest 0 ≡ out 9 0 rest
unfolding run put room_at values value_bytes on_bytes on_from on_up_to on_item item_at value_at number_at word_of width_of text_at bytes_at text_ok is_text is_utf8 first_bad Utf8.run char_length row_of begins has
crew_log_full = refl

crew_unplaced : placed 9 (bad_in crew-bytes true (11 ∷ 1 ∷ []) 65536) ≡ 0
unfolding placed
crew_unplaced = refl
