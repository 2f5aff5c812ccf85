use mathlib.Core.Bool.{not}
use mathlib.Core.Path.{sym, ap, subst, ◌∙◌}
use Rattle.geometry_layout.specs.Lone.{lone_in}
use Rattle.kinds.specs.Geometry.{Span}
use Rattle.laws.specs.Branch.{is_true}
use Rattle.store.specs.Lone.{LoneAt, in_xy_pool, lone_at}
use Rattle.store.specs.RecordLaws.{record_room}
use Rattle.store.proofs.records.lone_list_at.Goals as goal

pub bytes_of-requires : goal.bytes_of-requires
bytes_of-requires c = (record_room _ _ (is_true c.has_record.ensures (ap not c.if-not-has_record.false))).0

pub returns : goal.returns
returns c =
    let a = c.args in
    subst (LoneAt a.table.now a.lent a.n)
    (sym (c.in_xy_pool.ensures ∙ ap (λ (read : Span). in_xy_pool read a.lent) (c.lone_list.ensures ∙ ap lone_in c.bytes_of.ensures.bytes)))
    (lone_at a.table.now a.lent a.n (is_true c.has_record.ensures (ap not c.if-not-has_record.false)))
