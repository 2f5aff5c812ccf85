use Rattle.std.proofs.Common.{false}
use Rattle.std.proofs.lemmas.Result.{err_from_is_err_and}
use Rattle.kinds.specs.Event.{begin_e, end_e}
use Rattle.wkb_reader.specs.Reading.{saying, ◌⊳◌, pair_r, point_r}
use Rattle.wkb_reader.specs.Onward.{said_leads, then_leads, stops_leads}
use Rattle.wkb_reader.proofs.lines.read_point.Goals as goal

pub returns-in_err-say : goal.returns-in_err-say
returns-in_err-say c =
    let a = c.args in
    let p = err_from_is_err_and c.from_residual.result c.from_residual.ensures.1 in
    unfold point_r in rw (p.1, p.2) (stops_leads (pair_r a.order 0 ⊳ saying (end_e 1 false a.idx)) (said_leads (begin_e 1 false 0 a.idx) a.log.now c.say.new.self a.input.now _ (rw c.begin.ensures at c.in_err-say.ensures)))

pub returns-in_err-read : goal.returns-in_err-read
returns-in_err-read c =
    let a = c.args in
    let p = err_from_is_err_and c.from_residual-in_err-read.result c.from_residual-in_err-read.ensures.1 in
    unfold point_r in rw (p.1, p.2) (
    then_leads (said_leads (begin_e 1 false 0 a.idx) a.log.now c.say.new.self a.input.now _ (rw c.begin.ensures at c.in_ok-say.ensures))
    (stops_leads (saying (end_e 1 false a.idx)) c.in_err-read.ensures)
    )

pub returns : goal.returns
returns c =
    let a = c.args in
    unfold point_r in
    then_leads (said_leads (begin_e 1 false 0 a.idx) a.log.now c.say.new.self a.input.now _ (rw c.begin.ensures at c.in_ok-say.ensures))
    (then_leads c.in_ok-read.ensures (said_leads (end_e 1 false a.idx) _ _ _ c.say-2.result (rw c.end.ensures at c.say-2.ensures)))
