use borrow.Author.Tests.{lt-ltb, le-ltb}
use Rattle.kinds.specs.ColumnType.{type_number, type_known}
use Rattle.property_reader.specs.Reading.{value_at}
use Rattle.property_reader.proofs.item.value_at.Goals as goal

pub returns-in_default : goal.returns-in_default
returns-in_default c = unfold value_at in rw (lt-ltb 14 c.args.kind c.in_default.ensures)

pub returns-in-Some : goal.returns-in-Some
returns-in-Some c =
    unfold value_at in
    let kind = type_number c.in-Ok.kind in
    rw (← c.in-Ok.ensures, le-ltb 14 kind (type_known c.in-Ok.kind), lt-ltb kind 11 c.in-Some.ensures.0) c.number_at.ensures

pub returns-in-None : goal.returns-in-None
returns-in-None c =
    unfold value_at in
    let kind = type_number c.in-Ok.kind in
    rw (← c.in-Ok.ensures, le-ltb 14 kind (type_known c.in-Ok.kind), le-ltb kind 11 c.in-None.ensures) c.text_at.ensures
