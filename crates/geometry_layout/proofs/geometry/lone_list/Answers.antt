use Rattle.geometry_layout.specs.Lone.{lone_in}
use Rattle.geometry_layout.proofs.geometry.lone_list.Goals as goal

pub returns-then-is_lone : goal.returns-then-is_lone
returns-then-is_lone c = unfold lone_in in rw (← c.is_lone.ensures, c.if-is_lone.true, c.u32_at-then-is_lone.ensures, c.u32_at.ensures)

pub returns-else-is_lone : goal.returns-else-is_lone
returns-else-is_lone c = unfold lone_in in rw (← c.is_lone.ensures, c.if-is_lone.false)
