use borrow.Author.Tests.{lt-ltb, le-ltb, le-leb, lt-leb}
use Rattle.std.proofs.lemmas.Result.{err_from_is_err_and}
use Rattle.property_reader.specs.Reading.{item_at}
use Rattle.property_reader.proofs.item.property_at.Goals as goal

pub returns-then-bytes-at-lt2 : goal.returns-then-bytes-at-lt2
returns-then-bytes-at-lt2 c = unfold item_at in rw (lt-ltb _ _ c.if-bytes-at-lt2.true)

pub returns-then-index-columns : goal.returns-then-index-columns
returns-then-index-columns c = unfold item_at in rw (le-ltb _ _ c.if-bytes-at-lt2.false, ← c.u16_at-column.ensures, le-leb _ _ c.if-index-columns.true)

pub returns-in_err-property : goal.returns-in_err-property
returns-in_err-property c =
    unfold item_at in
    let gone = err_from_is_err_and c.from_residual.result c.from_residual.ensures.1 in
    rw (gone.1, gone.2, le-ltb _ _ c.if-bytes-at-lt2.false, ← c.u16_at-column.ensures, lt-leb _ _ c.if-index-columns.false) c.in_err-property.ensures

pub returns : goal.returns
returns c = unfold item_at in rw (le-ltb _ _ c.if-bytes-at-lt2.false, ← c.u16_at-column.ensures, lt-leb _ _ c.if-index-columns.false) c.in_ok-property.ensures
