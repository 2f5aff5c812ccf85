use native.Mathlib.Omega.{arith}
use borrow.Author.Tests.{lt-ltb, le-ltb}
use Rattle.kinds.specs.ColumnType.{type_number}
use Rattle.property_value.specs.ColumnLaws.{width_most, number_width}
use Rattle.property_reader.specs.Reading.{number_at}
use Rattle.property_reader.proofs.item.number_at.Goals as goal

pub returns-then-bytes-at : goal.returns-then-bytes-at
returns-then-bytes-at c = unfold number_at in rw (← c.requires.2, lt-ltb _ _ c.if-bytes-at.true)

pub bits_at-requires : goal.bits_at-requires
bits_at-requires c = (rw c.requires.2 (number_width (type_number c.args.kind) (omega arith)), omega arith)

pub overflow_cast-value : goal.overflow_cast-value
overflow_cast-value c = omega (arith, width_most (type_number c.args.kind) (omega arith))

pub returns : goal.returns
returns c = unfold number_at in rw (← c.requires.2, le-ltb _ _ c.if-bytes-at.false, c.number.ensures, c.word_of-word.ensures, c.bits_at.ensures)
