use Rattle.event_log.specs.Says.{of_events}
use Rattle.event_log.specs.SaysLaws.{nothing}
use Rattle.triangles.specs.Laws.{triangle_nothing, triangle_single, triangle_many}
use Rattle.triangles.proofs.read_triangle.Goals as goal

pub returns-then-nothing_there : goal.returns-then-nothing_there
returns-then-nothing_there c = let a = c.args in rw (triangle_nothing a.lists.now a.tagged a.idx c.nothing_there.ensures c.if-nothing_there.true) (nothing of_events _)

pub returns-then-lists-le1 : goal.returns-then-lists-le1
returns-then-lists-le1 c = let a = c.args in rw (triangle_single a.lists.now a.tagged a.idx c.nothing_there.ensures c.if-nothing_there.false c.if-lists-le1.true) (rw c.number.ensures.is at c.read_stretches.ensures)

pub returns-else-lists-le1 : goal.returns-else-lists-le1
returns-else-lists-le1 c = let a = c.args in rw (triangle_many a.lists.now a.tagged a.idx c.if-lists-le1.false) c.read_triangles.ensures
