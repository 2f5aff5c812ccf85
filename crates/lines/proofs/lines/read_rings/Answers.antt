use Rattle.coords.specs.Views.{coords_in}
use Rattle.lines.specs.LineLaws.{rings_single, rings_many}
use Rattle.lines.proofs.lines.read_rings.Goals as goal

pub returns-then-lists-le1 : goal.returns-then-lists-le1
returns-then-lists-le1 c = let l = c.args.lists.now in rw (rings_single (coords_in l) l.ends.now c.if-lists-le1.true) (rw c.number.ensures.is at c.read_line.ensures)

pub returns-else-lists-le1 : goal.returns-else-lists-le1
returns-else-lists-le1 c = let l = c.args.lists.now in rw (rings_many (coords_in l) l.ends.now c.if-lists-le1.false) c.read_lines.ensures
