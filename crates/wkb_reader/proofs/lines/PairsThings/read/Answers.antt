use Rattle.std.proofs.lemmas.Result.{err_from_is_err_and}
use Rattle.kinds.specs.Event.{xy_e}
use Rattle.wkb_reader.specs.Onward.{said_leads, pair_leads, pair_cut_leads}
use Rattle.wkb_reader.proofs.lines.PairsThings.read.Goals as goal

pub returns-in_err-pair : goal.returns-in_err-pair
returns-in_err-pair c =
    let a = c.args in
    let p = err_from_is_err_and c.from_residual.result c.from_residual.ensures.1 in
    rw (p.1, p.2) (pair_cut_leads a.self.now.order a.idx a.input.now c.pair.new.self a.log.now c.pair.new.self c.in_err-pair.ensures)

pub returns : goal.returns
returns c =
    let a = c.args in
    pair_leads a.self.now.order a.idx a.input.now c.pair.new.self c.in_ok-pair.ensures
    (said_leads (xy_e c.in_ok-pair.pair.x c.in_ok-pair.pair.y a.idx) a.log.now _ c.pair.new.self _ (rw c.xy.ensures at c.say.ensures))
