use Rattle.wkb_events.specs.Walk.{begin-moved}
use Rattle.wkb_events.proofs.walk.Walk.begin.Goals as goal

pub returns : goal.returns
returns c =
    λ idx.
    let a = c.args in
    begin-moved a.self a.kind a.tagged a.size idx c.max.result c.opens.result c.behind_begin.result c.begin_length.result c.max.ensures c.opens.ensures (c.behind_begin.ensures a.tagged a.size idx) c.begin_length.ensures
