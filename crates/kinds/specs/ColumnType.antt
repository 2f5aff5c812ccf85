-- The numbers of column types (SPEC 2.6).
use Rattle.std.specs.Prelude.{◌≡◌, ℕ, ◌<◌, ◌≤◌, Result}
use Rattle.std.proofs.Common.{Ok, Err, arith}
use Rattle.kinds.specs.declared.column_type.ColumnType.{ColumnType}
use Rattle.kinds.specs.declared.column_type.NoColumnType.{NoColumnType}
use Rattle.kinds.specs.declared.column_type.ColumnType.TheVariants.{Byte, UByte, Bool, Short, UShort, Int, UInt, Long, ULong, Float, Double, String, Json, DateTime, Binary}

abbrev pub type_number : ColumnType → ℕ
type_number Byte = 0
type_number UByte = 1
type_number Bool = 2
type_number Short = 3
type_number UShort = 4
type_number Int = 5
type_number UInt = 6
type_number Long = 7
type_number ULong = 8
type_number Float = 9
type_number Double = 10
type_number String = 11
type_number Json = 12
type_number DateTime = 13
type_number Binary = 14

-- the type that a number is, or that there is none
abbrev pub TypeOf : ℕ → Result ColumnType NoColumnType → Type 0
TypeOf number (Ok t) = type_number t ≡ number
TypeOf number (Err _) = 14 < number

-- 14 is the last
pub type_known : (t : ColumnType) → type_number t ≤ 14
type_known t = grind arith
