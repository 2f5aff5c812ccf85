use Rattle.event_log.specs.Says.{of_events}
use Rattle.event_log.specs.SaysLaws.{nothing}
use Rattle.lines.specs.LineLaws.{multi_nothing, multi_some}
use Rattle.lines.proofs.lines.read_multilinestring.Goals as goal

pub returns-then-nothing_there : goal.returns-then-nothing_there
returns-then-nothing_there c = let a = c.args in rw (multi_nothing a.lists.now c.nothing_there.ensures a.idx c.if-nothing_there.true) (nothing of_events _)

pub returns : goal.returns
returns c = let a = c.args in rw (multi_some a.lists.now c.nothing_there.ensures a.idx c.if-nothing_there.false) (rw c.number.ensures.is at c.read_stretches.ensures)
