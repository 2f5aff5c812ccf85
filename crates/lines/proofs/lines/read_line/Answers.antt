use Rattle.event_log.specs.Says.{of_events}
use Rattle.event_log.specs.SaysLaws.{refuses}
use Rattle.coords.specs.CoordLaws.{answered}
use Rattle.lines.specs.LineLaws.{flat_absent, flat_whole}
use Rattle.lines.proofs.lines.read_line.Goals as goal

pub returns-in_default : goal.returns-in_default
returns-in_default c = let a = c.args in rw (flat_absent a.lists.now (a.head.kind) a.head.tagged a.head.idx c.in_default.is) (refuses of_events _ _)

pub returns : goal.returns
returns c = let a = c.args in rw (flat_whole a.lists.now (a.head.kind) a.head.tagged a.head.idx c.in-Some.is) (answered c.read_window.ensures)
