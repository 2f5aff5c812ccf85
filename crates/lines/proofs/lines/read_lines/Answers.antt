use Rattle.std.proofs.lemmas.Result.{err_from_is_err_and}
use Rattle.event_log.specs.Says.{of_events}
use Rattle.event_log.specs.SaysLaws.{nothing, goes-on, ends, breaks-off}
use Rattle.coords.specs.Views.{coords_in}
use Rattle.lines.specs.LineLaws.{lines_next, lines_end}
use Rattle.lines.proofs.lines.read_lines.Goals as goal

pub returns-in_err-read_multilinestring_part : goal.returns-in_err-read_multilinestring_part
returns-in_err-read_multilinestring_part c =
    let a = c.args in
    let p = err_from_is_err_and c.from_residual.result c.from_residual.ensures.1 in
    rw (p.1, p.2) (breaks-off of_events _ _ c.loop-i.invariant (lines_next (coords_in a.lists.now) a.lists.now.ends.now c.loop-i.before c.loop-i.i c.loop-i.i c.loop-i-test.true) c.in_err-read_multilinestring_part.ensures)

pub loop-i-preserved : goal.loop-i-preserved
loop-i-preserved c =
    let a = c.args in
    goes-on of_events _ _ c.loop-i.invariant (lines_next (coords_in a.lists.now) a.lists.now.ends.now c.loop-i.before c.loop-i.i c.loop-i.i c.loop-i-test.true) c.in_ok-read_multilinestring_part.ensures

pub returns : goal.returns
returns c =
    let a = c.args in
    ends of_events c.loop-i.invariant (lines_end (coords_in a.lists.now) a.lists.now.ends.now c.loop-i.before c.loop-i.i c.loop-i.i c.loop-i-test.false) (nothing of_events _)
