use Rattle.std.proofs.Math.Nat.{sub-zero}
use Rattle.std.proofs.lemmas.Result.{err_from_is_err_and}
use Rattle.kinds.specs.Event.{end_e}
use Rattle.wkb_reader.specs.Reading.{saying}
use Rattle.wkb_reader.specs.Onward.{said_leads, refused_anywhere, went_on, broke_off, ended}
use Rattle.wkb_reader.specs.GroupLaws.{no_count, no_begin, begun}
use Rattle.wkb_reader.proofs.group.read_group.Goals as goal

pub returns-in_err-size : goal.returns-in_err-size
returns-in_err-size g c =
    let a = c.args in
    let p = err_from_is_err_and c.from_residual.result c.from_residual.ensures.1 in
    rw (p.1, p.2) (no_count a.group.order a.group.kind a.group.tagged (g.T.Things.thing a.things.now) a.group.idx a.input.now _ a.log.now c.in_err-size.ensures)

pub returns-in_err-say : goal.returns-in_err-say
returns-in_err-say g c =
    let a = c.args in
    let p = err_from_is_err_and c.from_residual-in_err-say.result c.from_residual-in_err-say.ensures.1 in
    rw (p.1, p.2) (no_begin a.group.order a.group.kind a.group.tagged (g.T.Things.thing a.things.now) a.group.idx a.input.now _ c.in_ok-size.ensures c.begin.ensures c.in_err-say.ensures)

pub loop-idx-init : goal.loop-idx-init
loop-idx-init g c =
    let a = c.args in
    rw sub-zero (begun a.group.order a.group.kind a.group.tagged (g.T.Things.thing a.things.now) a.group.idx a.input.now _ c.in_ok-size.ensures c.begin.ensures c.in_ok-say.ensures)

pub returns-in_err-read : goal.returns-in_err-read
returns-in_err-read g c =
    let a = c.args in
    let p = err_from_is_err_and c.from_residual-in_err-read.result c.from_residual-in_err-read.ensures.1 in
    rw (p.1, p.2) (refused_anywhere _ (broke_off (g.T.Things.thing a.things.now) (saying (end_e a.group.kind a.group.tagged a.group.idx)) c.loop-idx.invariant c.loop-idx-test.true c.in_err-read.ensures))

pub loop-idx-preserved : goal.loop-idx-preserved
loop-idx-preserved g c =
    let a = c.args in
    went_on (g.T.Things.thing a.things.now) (saying (end_e a.group.kind a.group.tagged a.group.idx)) c.loop-idx.invariant c.loop-idx-test.true c.in_ok-read.ensures

pub returns : goal.returns
returns g c =
    let a = c.args in
    ended (g.T.Things.thing a.things.now) (saying (end_e a.group.kind a.group.tagged a.group.idx)) c.loop-idx.invariant c.loop-idx-test.false (said_leads (end_e a.group.kind a.group.tagged a.group.idx) _ _ _ c.say-2.result (rw c.end.ensures at c.say-2.ensures))
