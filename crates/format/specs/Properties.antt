-- The property bytes of the published format: header.fbs for the types of columns, feature.fbs for the buffer. Its words stand before each definition.
use Rattle.std.specs.Prelude.{◌≡◌, true, List, [], ◌∷◌, ◌++◌, ℕ, ◌<◌, length, get_or}
use Rattle.laws.specs.Bytes.{le}
use Rattle.utf8.specs.Utf8.{is_utf8}

-- ColumnType
pub data Number : Type 0 where
  byte ubyte bool short ushort int uint long ulong float double : Number

pub data Sized : Type 0 where
  string json date_time binary : Sized

-- a number by its bits, a signed one's in two's complement; or bytes
pub data Value : Type 0 where
  number : Number → ℕ → Value
  sized : Sized → List ℕ → Value

-- a number's type in header.fbs, how many bytes it has, and what its bits are below
pub record Form : Type 0 where
  pub type : ℕ
  pub wide : ℕ
  pub below : ℕ

abbrev form : ℕ → ℕ → ℕ → Form
form type wide below = record { type = type; wide = wide; below = below }

-- signed and unsigned 8-bit, boolean, 16-bit, 32-bit and 64-bit integers; single and double precision floating point numbers
abbrev pub form_of : Number → Form
form_of byte = form 0 1 256
form_of ubyte = form 1 1 256
form_of bool = form 2 1 2
form_of short = form 3 2 65536
form_of ushort = form 4 2 65536
form_of int = form 5 4 4294967296
form_of uint = form 6 4 4294967296
form_of long = form 7 8 18446744073709551616
form_of ulong = form 8 8 18446744073709551616
form_of float = form 9 4 4294967296
form_of double = form 10 8 18446744073709551616

abbrev pub sized_type : Sized → ℕ
sized_type string = 11
sized_type json = 12
sized_type date_time = 13
sized_type binary = 14

abbrev pub type_of : Value → ℕ
type_of (number k n) = (form_of k).type
type_of (sized k bytes) = sized_type k

-- UTF8 string; Json and DateTime are text too
abbrev pub Spelt : Sized → List ℕ → Type 0
Spelt string bytes = is_utf8 bytes ≡ true
Spelt json bytes = is_utf8 bytes ≡ true
Spelt date_time bytes = is_utf8 bytes ≡ true
Spelt binary bytes = Unit {0}

abbrev pub Fits : Value → Type 0
Fits (number k n) = n < (form_of k).below
Fits (sized k bytes) = (length bytes < 4294967296) × Spelt k bytes

-- little-endian; bytes have their length as uint first
abbrev pub value_bytes : Value → List ℕ
value_bytes (number k n) = le (form_of k).wide n
value_bytes (sized k bytes) = le 4 (length bytes) ++ bytes

-- properties: variable length collection of key/value pairs (key=ushort)
pub record Property : Type 0 where
  pub column : ℕ
  pub value : Value

abbrev pub property_bytes : Property → List ℕ
property_bytes p = le 2 p.column ++ value_bytes p.value

abbrev pub buffer_of : List Property → List ℕ
buffer_of [] = []
buffer_of (p ∷ ps) = property_bytes p ++ buffer_of ps

-- a key is the number of a column, and the column has the value's type
pub record Keyed (columns : List ℕ) (p : Property) : Type 0 where
  pub index : p.column < 65536
  pub listed : p.column < length columns
  pub typed : get_or columns p.column 0 ≡ type_of p.value
  pub fits : Fits p.value

abbrev pub AllKeyed : List ℕ → List Property → Type 0
AllKeyed columns [] = Unit {0}
AllKeyed columns (p ∷ ps) = Keyed columns p × AllKeyed columns ps
