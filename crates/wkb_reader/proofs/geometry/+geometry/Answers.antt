use Rattle.std.proofs.Common.{false}
use Rattle.std.proofs.Math.Nat.{sub-zero}
use Rattle.std.proofs.lemmas.Result.{err_from_is_err_and}
use Rattle.kinds.specs.Event.{end_e}
use Rattle.wkb_reader.specs.Reading.{saying, geometry_r}
use Rattle.wkb_reader.specs.Onward.{said_leads, went_on, broke_off, ended}
use Rattle.wkb_reader.specs.GroupLaws.{no_count, no_begin, begun}
use Rattle.wkb_reader.specs.KindLaws.{geometry_refused, geometry_deep, geometry_collection, geometry_simple}
use Rattle.wkb_reader.proofs.geometry.+geometry.Goals as goal

pub read_collection-returns-in_err-size : goal.read_collection-returns-in_err-size
read_collection-returns-in_err-size t c =
    let a = c.args in
    let p = err_from_is_err_and c.from_residual.result c.from_residual.ensures.1 in
    rw (p.1, p.2) (no_count a.order 7 false (geometry_r a.left) a.idx a.input.now c.u32.new.self a.log.now c.in_err-size.ensures)

pub read_collection-returns-in_err-say : goal.read_collection-returns-in_err-say
read_collection-returns-in_err-say t c =
    let a = c.args in
    let p = err_from_is_err_and c.from_residual-in_err-say.result c.from_residual-in_err-say.ensures.1 in
    rw (p.1, p.2) (no_begin a.order 7 false (geometry_r a.left) a.idx a.input.now c.u32.new.self c.in_ok-size.ensures c.begin.ensures c.in_err-say.ensures)

pub read_collection-loop-member-init : goal.read_collection-loop-member-init
read_collection-loop-member-init t c =
    let a = c.args in
    rw sub-zero (begun a.order 7 false (geometry_r a.left) a.idx a.input.now c.u32.new.self c.in_ok-size.ensures c.begin.ensures c.in_ok-say.ensures)

pub read_collection-returns-in_err-read_geometry : goal.read_collection-returns-in_err-read_geometry
read_collection-returns-in_err-read_geometry t c =
    let a = c.args in
    let p = err_from_is_err_and c.from_residual-in_err-read_geometry.result c.from_residual-in_err-read_geometry.ensures.1 in
    rw (p.1, p.2) (broke_off (geometry_r a.left) (saying (end_e 7 false a.idx)) c.loop-member.invariant c.loop-member-test.true c.in_err-read_geometry.ensures)

pub read_collection-loop-member-preserved : goal.read_collection-loop-member-preserved
read_collection-loop-member-preserved t c =
    let a = c.args in
    went_on (geometry_r a.left) (saying (end_e 7 false a.idx)) c.loop-member.invariant c.loop-member-test.true c.in_ok-read_geometry.ensures

pub read_collection-returns : goal.read_collection-returns
read_collection-returns t c =
    let a = c.args in
    ended (geometry_r a.left) (saying (end_e 7 false a.idx)) c.loop-member.invariant c.loop-member-test.false
    (said_leads (end_e 7 false a.idx) _ _ _ c.say-2.result (rw c.end.ensures at c.say-2.ensures))

pub read_geometry-returns-in_err-head : goal.read_geometry-returns-in_err-head
read_geometry-returns-in_err-head t c =
    let a = c.args in
    let p = err_from_is_err_and c.from_residual.result c.from_residual.ensures.1 in
    rw (p.1, p.2) (geometry_refused a.idx a.input.now c.read_head.new.input a.left a.log.now c.in_err-head.ensures)

pub read_geometry-returns-then-left-eq0 : goal.read_geometry-returns-then-left-eq0
read_geometry-returns-then-left-eq0 t c =
    let a = c.args in
    geometry_deep a.idx a.input.now c.read_head.new.input c.in_ok-head.ensures a.log.now c.if-left-eq0.true

pub read_geometry-returns-then-head-eq-MOST : goal.read_geometry-returns-then-head-eq-MOST
read_geometry-returns-then-head-eq-MOST t c =
    let a = c.args in
    geometry_collection a.idx a.input.now c.read_head.new.input c.in_ok-head.ensures c.if-left-eq0.false c.if-head-eq-MOST.true c.read_collection.ensures

pub read_geometry-returns-else-head-eq-MOST : goal.read_geometry-returns-else-head-eq-MOST
read_geometry-returns-else-head-eq-MOST t c =
    let a = c.args in
    geometry_simple a.idx a.input.now c.read_head.new.input c.in_ok-head.ensures c.if-left-eq0.false c.if-head-eq-MOST.false c.read_simple.ensures
