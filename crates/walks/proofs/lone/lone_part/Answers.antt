use mathlib.Core.Path.{sym, ◌∙◌}
use Rattle.walks.specs.Lone.{plain_part}
use Rattle.walks.proofs.lone.lone_part.Goals as goal

pub returns-else-multi : goal.returns-else-multi
returns-else-multi c = let a = c.args in plain_part a.flags a.role a.table.now a.lent a.n c.lone_list_at.result c.in-Polygon.is (sym c.multi.ensures ∙ c.if-multi.false) c.lone_list_at.ensures
