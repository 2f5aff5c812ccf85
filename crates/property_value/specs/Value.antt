-- Which bits and bytes are a value of a column type, and the word that a number is read to.
use Rattle.std.specs.Prelude.{Option, Some, None, ◌≡◌, Bool, true, false, cond, ◌&&◌, ◌||◌, List, ℕ, ◌^◌, leb, ltb, eqb}
use Rattle.utf8.specs.Utf8.{first_bad, is_utf8}
use Rattle.property_value.specs.Column.{width_of, is_text}

-- SPEC 9.3: no such type, a Bool that is neither 0 nor 1, or a number that its width does not hold
unfoldable pub malformed : ℕ → ℕ → Bool
malformed kind bits = ltb 14 kind || (eqb kind 2 && ltb 1 bits) || (leb kind 10 && leb (256 ^ width_of kind) bits)

-- String, Json and DateTime are held to be UTF-8, Binary is not (SPEC 9.4, 9.9)
unfoldable pub text_ok : ℕ → List ℕ → Bool
text_ok kind text = cond (is_text kind) (is_utf8 text) true

-- what the check of a text finds: its type allows it, or it does not, and the first bad byte stands at a place
abbrev pub Checked : ℕ → List ℕ → Option ℕ → Type 0
Checked kind text None = text_ok kind text ≡ true
Checked kind text (Some place) = (text_ok kind text ≡ false) × (place ≡ first_bad text)

-- the place that goes with an answer (SPEC 9.13): that of the text's first bad byte with 6, and 0 with any other
unfoldable pub placed : ℕ → ℕ → ℕ
placed number bad = cond (eqb number 6) bad 0

-- a Bool is 0 for a zero byte and 1 for any other (SPEC 9.8)
unfoldable pub word_of : ℕ → ℕ → ℕ
word_of kind bits = cond (eqb kind 2) (cond (eqb bits 0) 0 1) bits
