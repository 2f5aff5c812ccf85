use borrow.Author.Tests.{lt-leb}
use Rattle.property_value.specs.Column.{is_text}
use Rattle.property_value.specs.Value.{text_ok}
use Rattle.property_writer.proofs.bad_if_text.Goals as goal

pub returns-then-kind-number : goal.returns-then-kind-number
returns-then-kind-number c = unfold text_ok is_text in rw (lt-leb 11 _ (rw c.number.ensures at c.if-kind-number.true))
