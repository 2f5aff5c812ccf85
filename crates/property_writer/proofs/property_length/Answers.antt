use native.Mathlib.Omega.{arith}
use borrow.Author.Tests.{le-leb, lt-leb}
use Rattle.kinds.specs.ColumnType.{type_number}
use Rattle.property_value.specs.ColumnLaws.{width_most}
use Rattle.property_writer.specs.Writing.{property_length}
use Rattle.property_writer.proofs.property_length.Goals as goal

pub overflow_add-result : goal.overflow_add-result
overflow_add-result c =
    let kind = type_number c.args.kind in
    omega (arith, c.in-Some.ensures.1, width_most kind (omega (arith, c.in-Some.ensures.0)))

pub returns-in-Some : goal.returns-in-Some
returns-in-Some c = unfold property_length in rw (lt-leb 11 (type_number c.args.kind) c.in-Some.ensures.0, ← c.in-Some.ensures.1)

pub returns-in-None : goal.returns-in-None
returns-in-None c = unfold property_length in rw (le-leb 11 (type_number c.args.kind) c.in-None.ensures) (omega arith)
