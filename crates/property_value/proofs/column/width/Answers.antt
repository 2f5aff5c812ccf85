use Rattle.std.specs.Prelude.{◌≡◌, refl, ℕ, ◌<◌, [], ◌∷◌, get_or}
use Rattle.std.proofs.Common.{arith}
use Rattle.kinds.specs.declared.column_type.ColumnType.{ColumnType}
use Rattle.kinds.specs.declared.column_type.ColumnType.TheVariants.{Byte, UByte, Bool, Short, UShort, Int, UInt, Long, ULong, Float, Double, String, Json, DateTime, Binary}
use Rattle.kinds.specs.ColumnType.{type_number}
use Rattle.property_value.specs.Column.{width_of}
use Rattle.property_value.proofs.column.width.Goals as goal

-- what is looked up and is not 0 is a number's width
looked_up : (t : ColumnType) → (let width = get_or {A = ℕ} (1 ∷ 1 ∷ 1 ∷ 2 ∷ 2 ∷ 4 ∷ 4 ∷ 8 ∷ 8 ∷ 4 ∷ 8 ∷ 0 ∷ 0 ∷ 0 ∷ 0 ∷ []) (type_number t) 0 in
    (width ≡ 0 → ⊥) → (type_number t < 11) × (width ≡ width_of (type_number t)))
unfolding width_of
looked_up Byte h = (omega arith, refl)
looked_up UByte h = (omega arith, refl)
looked_up Bool h = (omega arith, refl)
looked_up Short h = (omega arith, refl)
looked_up UShort h = (omega arith, refl)
looked_up Int h = (omega arith, refl)
looked_up UInt h = (omega arith, refl)
looked_up Long h = (omega arith, refl)
looked_up ULong h = (omega arith, refl)
looked_up Float h = (omega arith, refl)
looked_up Double h = (omega arith, refl)
looked_up String h = absurd (h refl)
looked_up Json h = absurd (h refl)
looked_up DateTime h = absurd (h refl)
looked_up Binary h = absurd (h refl)

pub returns-else-width-eq0 : goal.returns-else-width-eq0
returns-else-width-eq0 c = rw c.number.ensures (looked_up c.args.kind (rw c.number.ensures at c.if-width-eq0.false))
