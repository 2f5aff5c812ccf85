use Rattle.std.specs.Prelude.{◌≡◌, refl, ℕ, ◌<◌, [], ◌∷◌, get_or, ltb}
use Rattle.std.proofs.Common.{arith, le-ltb, lt-ltb, sym}
use Rattle.kinds.specs.declared.column_type.ColumnType.{ColumnType}
use Rattle.kinds.specs.declared.column_type.ColumnType.TheVariants.{Byte, UByte, Bool, Short, UShort, Int, UInt, Long, ULong, Float, Double, String, Json, DateTime, Binary}
use Rattle.kinds.specs.ColumnType.{type_number}
use Rattle.property_value.specs.Column.{width_of}
use Rattle.property_value.specs.Value.{malformed}
use Rattle.property_value.specs.ValueLaws.{bool_above}
use Rattle.property_value.proofs.value.is_malformed.Goals as goal

most_of : (t : ColumnType) (bits : ℕ) → bits < 18446744073709551616
    → ltb (get_or (255 ∷ 255 ∷ 1 ∷ 65535 ∷ 65535 ∷ 4294967295 ∷ 4294967295 ∷ 18446744073709551615 ∷ 18446744073709551615 ∷ 4294967295 ∷ 18446744073709551615 ∷ 18446744073709551615 ∷ 18446744073709551615 ∷ 18446744073709551615 ∷ 18446744073709551615 ∷ []) (type_number t) 0) bits ≡ malformed (type_number t) bits
unfolding malformed width_of
most_of Byte bits h = refl
most_of UByte bits h = refl
most_of Bool bits h = sym (bool_above bits)
most_of Short bits h = refl
most_of UShort bits h = refl
most_of Int bits h = refl
most_of UInt bits h = refl
most_of Long bits h = refl
most_of ULong bits h = refl
most_of Float bits h = refl
most_of Double bits h = refl
most_of String bits h = le-ltb _ _ (omega arith)
most_of Json bits h = le-ltb _ _ (omega arith)
most_of DateTime bits h = le-ltb _ _ (omega arith)
most_of Binary bits h = le-ltb _ _ (omega arith)

pub returns-in-Ok : goal.returns-in-Ok
returns-in-Ok c = rw (c.number.ensures, ← c.in-Ok.ensures) (most_of c.in-Ok.kind c.args.bits (omega arith))

pub returns-in-Err : goal.returns-in-Err
returns-in-Err c = unfold malformed in rw (lt-ltb 14 c.args.kind c.in-Err.ensures)
