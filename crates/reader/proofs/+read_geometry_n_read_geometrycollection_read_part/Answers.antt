use Rattle.std.proofs.Common.{Ok, Err, arith}
use Rattle.std.proofs.lemmas.Result.{err_from_is_err_and}
use native.Mathlib.Nat.{pos_of_ne-zero}
use Rattle.kinds.specs.GeometryType.{number}
use Rattle.store.specs.Lists.{pools_in, lists_of, record_with}
use Rattle.event_log.specs.Says.{of_events}
use Rattle.event_log.specs.SaysLaws.{refuses, goes-on, ends, breaks-off, no_begin}
use Rattle.reader.specs.Roles.{part_s, walk_s}
use Rattle.reader.proofs.Lone.{part_lone}
use Rattle.reader.proofs.RoleLaws.{part_deep, part_bad, part_good, good_record, good_lists, bad_record, span_absent, span_there, parts-step, parts-over, framed_by}
use Rattle.reader.proofs.+read_geometry_n_read_geometrycollection_read_part.Goals as goal

-- ---- a record by its walk
pub read_geometry_n-returns-in-Own : goal.read_geometry_n-returns-in-Own
unfolding walk_s
read_geometry_n-returns-in-Own t c = rw c.in-Own.is c.read_own.ensures

pub read_geometry_n-returns-in-Parts : goal.read_geometry_n-returns-in-Parts
unfolding walk_s
read_geometry_n-returns-in-Parts t c = rw c.in-Parts.is c.read_geometrycollection.ensures

-- ---- a record's parts
pub read_geometrycollection-returns-in_default : goal.read_geometrycollection-returns-in_default
read_geometrycollection-returns-in_default t c =
    let a = c.args in
    rw (span_absent (part_s a.flags a.role a.levels (record_with a.store.now.table.now (pools_in a.store.now.pools))) (number a.kind) a.idx c.in_default.is) (refuses of_events _ _)

pub read_geometrycollection-returns-in_err-say : goal.read_geometrycollection-returns-in_err-say
read_geometrycollection-returns-in_err-say t c =
    let a = c.args in
    let p = err_from_is_err_and c.from_residual.result c.from_residual.ensures.1 in
    rw (p.1, p.2, ← c.number.ensures.is, span_there (part_s a.flags a.role a.levels (record_with a.store.now.table.now (pools_in a.store.now.pools))) c.number.result a.idx c.in-Some.is) (no_begin of_events _ _ c.begin.ensures c.in_err-say.ensures)

pub read_geometrycollection-returns-in_err-read_part : goal.read_geometrycollection-returns-in_err-read_part
read_geometrycollection-returns-in_err-read_part t c =
    let a = c.args in
    let p = err_from_is_err_and c.from_residual-in_err-read_part.result c.from_residual-in_err-read_part.ensures.1 in
    rw (p.1, p.2, ← c.number.ensures.is, span_there (part_s a.flags a.role a.levels (record_with a.store.now.table.now (pools_in a.store.now.pools))) c.number.result a.idx c.in-Some.is)
    (framed_by of_events _ _ c.begin.ensures c.in_ok-say.ensures (breaks-off of_events _ _ c.loop-i.invariant (parts-step _ _ _ c.loop-i-test.true) c.in_err-read_part.ensures))

pub read_geometrycollection-loop-i-preserved : goal.read_geometrycollection-loop-i-preserved
read_geometrycollection-loop-i-preserved t c = goes-on of_events _ _ c.loop-i.invariant (parts-step _ _ _ c.loop-i-test.true) c.in_ok-read_part.ensures

pub read_geometrycollection-returns : goal.read_geometrycollection-returns
read_geometrycollection-returns t c =
    let a = c.args in
    rw (← c.number.ensures.is, span_there (part_s a.flags a.role a.levels (record_with a.store.now.table.now (pools_in a.store.now.pools))) c.number.result a.idx c.in-Some.is)
    (framed_by of_events _ _ c.begin.ensures c.in_ok-say.ensures (ends of_events c.loop-i.invariant (parts-over _ _ _ c.loop-i-test.false) (rw c.end.ensures at c.say-2.ensures)))

-- ---- a part
pub read_part-returns-then-levels-eq0 : goal.read_part-returns-then-levels-eq0
read_part-returns-then-levels-eq0 t c =
    let a = c.args in
    rw (part_deep a.flags a.role a.levels (record_with a.store.now.table.now (pools_in a.store.now.pools)) a.n a.idx c.if-levels-eq0.true) (refuses of_events _ _)

pub read_part-returns-in-Some : goal.read_part-returns-in-Some
read_part-returns-in-Some t c =
    let a = c.args in
    rw (part_lone a.flags a.role a.store.now.table.now (pools_in a.store.now.pools) a.n c.lone_part.ensures c.in-Some.is a.levels a.idx c.if-levels-eq0.false) c.read_lone_ring.ensures

pub read_part-returns-in_default-record : goal.read_part-returns-in_default-record
read_part-returns-in_default-record t c =
    let a = c.args in
    let P = pools_in a.store.now.pools in
    rw (part_bad a.flags a.role a.levels (record_with a.store.now.table.now P) a.n a.idx c.if-levels-eq0.false (bad_record a.store.now.table.now P a.n c.record.ensures c.in_default-record.is)) (refuses of_events _ _)

pub read_part-returns-in_err-walk : goal.read_part-returns-in_err-walk
read_part-returns-in_err-walk t c =
    let a = c.args in
    let P = pools_in a.store.now.pools in
    let p = err_from_is_err_and c.from_residual.result c.from_residual.ensures.1 in
    rw (p.1, p.2, part_good a.flags a.role a.levels (record_with a.store.now.table.now P) a.n a.idx c.if-levels-eq0.false (lists_of P c.in-Some-record.g) (good_record a.store.now.table.now P a.n c.record.ensures c.in-Some-record.is) (Err c.in_err-walk.field-0.0) c.in_err-walk.ensures.typed)
    (refuses of_events _ _)

pub read_part-read_geometry_n-requires : goal.read_part-read_geometry_n-requires
read_part-read_geometry_n-requires t c =
    let a = c.args in
    (omega (arith, pos_of_ne-zero c.if-levels-eq0.false, c.decreases), good_lists a.store.now.table.now (pools_in a.store.now.pools) a.n c.record.ensures c.in-Some-record.is)

pub read_part-returns : goal.read_part-returns
read_part-returns t c =
    let a = c.args in
    let P = pools_in a.store.now.pools in
    rw (part_good a.flags a.role a.levels (record_with a.store.now.table.now P) a.n a.idx c.if-levels-eq0.false (lists_of P c.in-Some-record.g) (good_record a.store.now.table.now P a.n c.record.ensures c.in-Some-record.is) (Ok c.in_ok-walk.walk) c.in_ok-walk.ensures.typed)
    c.read_geometry_n.ensures
