use borrow.Author.Tests.{lt-ltb, le-ltb}
use Rattle.property_reader.specs.Reading.{text_at}
use Rattle.property_reader.proofs.item.text_at.Goals as goal

pub returns-then-bytes-at-lt4 : goal.returns-then-bytes-at-lt4
returns-then-bytes-at-lt4 c = unfold text_at in rw (lt-ltb _ _ c.if-bytes-at-lt4.true)

pub returns : goal.returns
returns c = unfold text_at in rw (le-ltb _ _ c.if-bytes-at-lt4.false, ← c.u32_at.ensures) c.bytes_at.ensures
