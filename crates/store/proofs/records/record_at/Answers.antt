use mathlib.Core.Bool.{not}
use mathlib.Core.Path.{refl, sym, ap, ◌∙◌}
use Rattle.geometry_layout.specs.Geometry.{read_geometry}
use Rattle.laws.specs.Branch.{is_true, is_false}
use Rattle.laws.specs.Cond.{if_so, if_not}
use Rattle.store.specs.Records.{record_in}
use Rattle.store.specs.RecordLaws.{record_room, record_none, record_unread, record_read}
use Rattle.store.proofs.records.record_at.Goals as goal

pub returns-then-not-has_record : goal.returns-then-not-has_record
returns-then-not-has_record c = sym (record_none _ _ _ (is_false c.has_record.ensures (ap not c.if-not-has_record.true)))

pub bytes_of-requires : goal.bytes_of-requires
bytes_of-requires c = (record_room _ _ (is_true c.has_record.ensures (ap not c.if-not-has_record.false))).0

pub returns-in_err-g : goal.returns-in_err-g
unfolding record_in
returns-in_err-g c =
    let has = is_true c.has_record.ensures (ap not c.if-not-has_record.false) in
    rw c.from_residual.ensures
    (sym (record_unread _ _ _ has (sym (ap read_geometry c.bytes_of.ensures.bytes) ∙ sym c.read_geometry.ensures ∙ c.in_err-g.was)))

pub returns-then-lists_in : goal.returns-then-lists_in
unfolding record_in
returns-then-lists_in c =
    let has = is_true c.has_record.ensures (ap not c.if-not-has_record.false) in
    let within = rw c.records_lent.ensures at c.lists_in.ensures in
    if_so _ (sym within ∙ c.if-lists_in.true) refl
    ∙ sym (record_read _ _ _ _ has (sym (ap read_geometry c.bytes_of.ensures.bytes) ∙ sym c.read_geometry.ensures ∙ c.in_ok-g.was))

pub returns-else-lists_in : goal.returns-else-lists_in
unfolding record_in
returns-else-lists_in c =
    let has = is_true c.has_record.ensures (ap not c.if-not-has_record.false) in
    let within = rw c.records_lent.ensures at c.lists_in.ensures in
    if_not _ (sym within ∙ c.if-lists_in.false) refl
    ∙ sym (record_read _ _ _ _ has (sym (ap read_geometry c.bytes_of.ensures.bytes) ∙ sym c.read_geometry.ensures ∙ c.in_ok-g.was))
