use Rattle.std.proofs.lemmas.Result.{err_from_is_err_and}
use Rattle.event_log.specs.Says.{of_events}
use Rattle.event_log.specs.SaysLaws.{nothing, goes-on, ends, breaks-off}
use Rattle.coords.specs.Views.{coords_in}
use Rattle.triangles.specs.Laws.{triangles_next, triangles_end}
use Rattle.triangles.proofs.read_triangles.Goals as goal

pub returns-in_err-read_triangle_at : goal.returns-in_err-read_triangle_at
returns-in_err-read_triangle_at c =
    let a = c.args in
    let l = c.loop-i in
    let p = err_from_is_err_and c.from_residual.result c.from_residual.ensures.1 in
    rw (p.1, p.2) (breaks-off of_events _ _ l.invariant (triangles_next (coords_in a.lists.now) a.lists.now.ends.now a.tagged l.before l.i l.i c.loop-i-test.true) c.in_err-read_triangle_at.ensures)

pub loop-i-preserved : goal.loop-i-preserved
loop-i-preserved c =
    let a = c.args in
    let l = c.loop-i in
    goes-on of_events _ _ l.invariant (triangles_next (coords_in a.lists.now) a.lists.now.ends.now a.tagged l.before l.i l.i c.loop-i-test.true) c.in_ok-read_triangle_at.ensures

pub returns : goal.returns
returns c =
    let a = c.args in
    let l = c.loop-i in
    ends of_events l.invariant (triangles_end (coords_in a.lists.now) a.lists.now.ends.now a.tagged l.before l.i l.i c.loop-i-test.false) (nothing of_events _)
