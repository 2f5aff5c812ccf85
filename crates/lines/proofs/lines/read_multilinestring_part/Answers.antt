use Rattle.std.proofs.Common.{refl}
use Rattle.event_log.specs.Says.{of_events}
use Rattle.event_log.specs.SaysLaws.{refuses}
use Rattle.coords.specs.Views.{coords_in}
use Rattle.coords.specs.CoordLaws.{answered, between_is}
use Rattle.lines.specs.LineLaws.{stretch_bad, stretch_good}
use Rattle.lines.proofs.lines.read_multilinestring_part.Goals as goal

pub returns-then-bad_end : goal.returns-then-bad_end
returns-then-bad_end c = let a = c.args in rw (stretch_bad (coords_in a.lists.now) a.before a.end a.idx c.bad_end.ensures c.if-bad_end.true) (refuses of_events _ _)

pub read_window-requires : goal.read_window-requires
read_window-requires c = c.between.ensures.within 131072 c.args.lists.now.few_words

pub returns : goal.returns
returns c = let a = c.args in rw (stretch_good (coords_in a.lists.now) a.before a.end a.idx c.bad_end.ensures c.if-bad_end.false (between_is (coords_in a.lists.now) refl c.between.ensures)) (answered (rw c.number.ensures.is at c.read_window.ensures))
