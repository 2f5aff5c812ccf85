-- SPEC 9.12: UTF-8 by the grammar of RFC 3629, section 4.
use Rattle.std.specs.Prelude.{Option, Some, None, ◌≡◌, Bool, true, false, cond, ◌&&◌, ℕ, zero, suc, ◌+◌, ◌≤◌, ◌<◌, leb, eqb, length, take, drop, replicate}
use mathlib.Core.List.{List, [], ◌∷◌, ◌++◌, Memᴰ}

infix 68 ◌‥◌
-- the bytes from the first to the last
pub data Range : Type 0 where
  ◌‥◌ : ℕ → ℕ → Range

-- a row of the grammar: a range for each byte of a character
abbrev pub Row : Type 0
Row = List Range

-- UTF8-tail
abbrev pub tail : Range
tail = 0x80 ‥ 0xbf

-- UTF8-1, UTF8-2, UTF8-3 (four rows) and UTF8-4 (three rows)
unfoldable pub rows : List Row
rows =
    (0x00 ‥ 0x7f ∷ [])
    ∷ (0xc2 ‥ 0xdf ∷ tail ∷ [])
    ∷ (0xe0 ‥ 0xe0 ∷ 0xa0 ‥ 0xbf ∷ tail ∷ [])
    ∷ (0xe1 ‥ 0xec ∷ tail ∷ tail ∷ [])
    ∷ (0xed ‥ 0xed ∷ 0x80 ‥ 0x9f ∷ tail ∷ [])
    ∷ (0xee ‥ 0xef ∷ tail ∷ tail ∷ [])
    ∷ (0xf0 ‥ 0xf0 ∷ 0x90 ‥ 0xbf ∷ tail ∷ tail ∷ [])
    ∷ (0xf1 ‥ 0xf3 ∷ tail ∷ tail ∷ tail ∷ [])
    ∷ (0xf4 ‥ 0xf4 ∷ 0x80 ‥ 0x8f ∷ tail ∷ tail ∷ [])
    ∷ []

-- What is meant.

-- a byte in each range of a row
pub data Fits : Row → List ℕ → Type 0 where
  end : Fits [] []
  byte : {low high b : ℕ} {row : Row} {bytes : List ℕ} → low ≤ b → b ≤ high → Fits row bytes → Fits (low ‥ high ∷ row) (b ∷ bytes)

-- bytes that fit one of the rows
pub record Character (bytes : List ℕ) : Type 0 where
  pub row : Row
  pub listed : Memᴰ row rows
  pub fits : Fits row bytes

-- characters one after the other
pub data Text : List ℕ → Type 0 where
  empty : Text []
  more : {first rest : List ℕ} → Character first → Text rest → Text (first ++ rest)

-- no character stands at the start of a list
abbrev pub NoCharacter : List ℕ → Type 0
NoCharacter bytes = (first rest : List ℕ) → bytes ≡ first ++ rest → Character first → ⊥

-- the place where the characters at the start of a list end: the length, or the place of a byte that begins none
pub record TextEnds (bytes : List ℕ) (at : ℕ) : Type 0 where
  pub within : at ≤ length bytes
  pub before : Text (take at bytes)
  pub after : NoCharacter (drop at bytes)

-- the first bad byte of a list: there is none, and all is text; or it stands at a place, all before it is text, and no character begins there
abbrev pub BadIs : List ℕ → Option ℕ → Type 0
BadIs bytes None = Text bytes
BadIs bytes (Some place) = (place < length bytes) × Text (take place bytes) × NoCharacter (drop place bytes)

-- ---- the place where the characters end, by computing: `Meaning` proves that it is that of `TextEnds`

unfoldable pub has : Range → ℕ → Bool
has (low ‥ high) b = leb low b && leb b high

unfoldable pub opens : Row → ℕ → Bool
unfolding has
opens [] b = false
opens (range ∷ row) b = has range b

-- the row that a byte opens, the empty one where it opens none
unfoldable pub find : List Row → ℕ → Row
unfolding opens
find [] b = []
find (row ∷ others) b = cond (opens row b) row (find others b)

unfoldable pub row_of : ℕ → Row
unfolding find rows
row_of b = find rows b

-- whether a list begins with a byte in each range of a row
unfoldable pub begins : Row → List ℕ → Bool
begins [] bytes = true
begins (range ∷ row) [] = false
begins (range ∷ row) (b ∷ bytes) = has range b && begins row bytes

-- how many bytes the character at the start of a list has, 0 where none stands there
unfoldable pub char_length : List ℕ → ℕ
char_length [] = 0
char_length (b ∷ bytes) = cond (begins (drop 1 (row_of b)) bytes) (length (row_of b)) 0

-- how many bytes are counted, if there are any
abbrev pub Counts : ℕ → Option ℕ → Type 0
Counts n None = n ≡ 0
Counts n (Some len) = (len ≡ n) × (0 < len)

-- how many bytes the characters at the start of a list have, of which at most `most` are taken
unfoldable pub run : ℕ → List ℕ → ℕ
run zero bytes = 0
run (suc most) bytes = cond (eqb (char_length bytes) 0) 0 (char_length bytes + run most (drop (char_length bytes) bytes))

-- the place of the first byte that begins no character, or the length where there is none: a list has no more characters than bytes
unfoldable pub first_bad : List ℕ → ℕ
first_bad bytes = run (length bytes) bytes

unfoldable pub is_utf8 : List ℕ → Bool
is_utf8 bytes = eqb (first_bad bytes) (length bytes)

-- How the code goes through a row: its second range, and then tails. A row with no second range is never asked for one.

unfoldable pub second : Row → Range
second [] = tail
second (range ∷ []) = tail
second (range ∷ next ∷ row) = next

abbrev pub tails : ℕ → Row
tails count = replicate count tail
