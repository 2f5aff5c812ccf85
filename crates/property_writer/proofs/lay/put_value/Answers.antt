use mathlib.Core.Path.{ap}
use native.Mathlib.Omega.{arith}
use lib.ListN.{length}
use Rattle.laws.specs.Bytes.{length-le}
use Rattle.property_value.specs.ColumnLaws.{number_width}
use Rattle.property_value.specs.Column.{width_of}
use Rattle.property_writer.specs.WritingLaws.{value_text, value_number, length_text}
use Rattle.property_writer.proofs.lay.put_value.Goals as goal

pub put_text-requires : goal.put_text-requires
put_text-requires c =
    let a = c.args in
    let text = c.in-None.ensures in
    (omega (arith, ap length (value_text a.kind a.bits a.text.now text), length_text a.text.now), c.requires.exact.count text)

pub returns-in-None : goal.returns-in-None
returns-in-None c =
    let a = c.args in
    rw (value_text a.kind a.bits a.text.now c.in-None.ensures) c.put_text.ensures

pub put_number-requires : goal.put_number-requires
put_number-requires c =
    let a = c.args in
    let number = c.in-Some.ensures.0 in
    rw c.in-Some.ensures.1 (
      number_width a.kind number,
      c.requires.exact.number (omega (arith, number)),
      omega (arith, ap length (value_number a.kind a.bits a.text.now number), length-le (width_of a.kind) a.bits),
    )

pub returns-in-Some : goal.returns-in-Some
returns-in-Some c =
    let a = c.args in
    rw (value_number a.kind a.bits a.text.now c.in-Some.ensures.0, ← c.in-Some.ensures.1) c.put_number.ensures
