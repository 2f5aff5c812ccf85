-- Examples at the edges of the rows, and one of the RFC's own, in section 7.
use Rattle.std.specs.Prelude.{◌≡◌, refl, true, [], ◌∷◌, ◌++◌, ℕ, zero, suc, replicate}
use Rattle.std.proofs.Common.{◌∙◌, arith}
use mathlib.Core.List.Memᴰ
use Rattle.std.proofs.lemmas.List.{length-replicate}
use Rattle.utf8.specs.Utf8.{has, row_of, begins, char_length, run, first_bad, is_utf8, ◌‥◌, Fits.end, Fits.byte, Character, Text, Text.empty, Text.more}
use Rattle.utf8.specs.Meaning.{bad_after}

last_of_one_byte : is_utf8 (0x7f ∷ []) ≡ true
unfolding is_utf8 first_bad run char_length row_of begins has
last_of_one_byte = refl

lone_tail : first_bad (0x80 ∷ []) ≡ 0
unfolding first_bad run char_length row_of begins has
lone_tail = refl

overlong_in_two : first_bad (0xc0 ∷ 0x80 ∷ []) ≡ 0
unfolding first_bad run char_length row_of begins has
overlong_in_two = refl

first_of_two_bytes : is_utf8 (0xc2 ∷ 0x80 ∷ []) ≡ true
unfolding is_utf8 first_bad run char_length row_of begins has
first_of_two_bytes = refl

overlong_in_three : first_bad (0xe0 ∷ 0x9f ∷ 0x80 ∷ []) ≡ 0
unfolding first_bad run char_length row_of begins has
overlong_in_three = refl

last_before_surrogates : is_utf8 (0xed ∷ 0x9f ∷ 0xbf ∷ []) ≡ true
unfolding is_utf8 first_bad run char_length row_of begins has
last_before_surrogates = refl

first_surrogate : first_bad (0xed ∷ 0xa0 ∷ 0x80 ∷ []) ≡ 0
unfolding first_bad run char_length row_of begins has
first_surrogate = refl

overlong_in_four : first_bad (0xf0 ∷ 0x8f ∷ 0xbf ∷ 0xbf ∷ []) ≡ 0
unfolding first_bad run char_length row_of begins has
overlong_in_four = refl

last_of_all : is_utf8 (0xf4 ∷ 0x8f ∷ 0xbf ∷ 0xbf ∷ []) ≡ true
unfolding is_utf8 first_bad run char_length row_of begins has
last_of_all = refl

above_the_last : first_bad (0xf4 ∷ 0x90 ∷ 0x80 ∷ 0x80 ∷ []) ≡ 0
unfolding first_bad run char_length row_of begins has
above_the_last = refl

cut_short : first_bad (0x61 ∷ 0xc3 ∷ []) ≡ 1
unfolding first_bad run char_length row_of begins has
cut_short = refl

section_7 : is_utf8 (0x41 ∷ 0xe2 ∷ 0x89 ∷ 0xa2 ∷ 0xce ∷ 0x91 ∷ 0x2e ∷ []) ≡ true
unfolding is_utf8 first_bad run char_length row_of begins has
section_7 = refl

-- a broken character is bad at its first byte, not at the byte that breaks it
broken_at_third : first_bad (0x61 ∷ 0xe2 ∷ 0x89 ∷ 0x41 ∷ 0x62 ∷ []) ≡ 1
unfolding first_bad run char_length row_of begins has
broken_at_third = refl

first_of_two : first_bad (0xc3 ∷ 0xa4 ∷ 0xff ∷ 0x61 ∷ 0x80 ∷ []) ≡ 2
unfolding first_bad run char_length row_of begins has
first_of_two = refl

empty_text : is_utf8 [] ≡ true
unfolding is_utf8 first_bad run
empty_text = refl

-- a place may be past 65,535
far_on : first_bad (replicate 70000 0x61 ++ 0xff ∷ []) ≡ 70000
unfolding first_bad run char_length row_of begins has
far_on = bad_after (letters 70000) (0xff ∷ []) ∙ omega (arith, length-replicate {A = ℕ} 70000 0x61)
  where
    letter : Character (0x61 ∷ [])
    letter = record { row = 0x00 ‥ 0x7f ∷ []; listed = Memᴰ.head refl; fits = byte {low = 0x00} {high = 0x7f} {b = 0x61} (omega arith) (omega arith) end }

    letters : (n : ℕ) → Text (replicate n 0x61)
    letters zero = empty
    letters (suc n) = more letter (letters n)
