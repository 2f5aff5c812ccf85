use mathlib.Core.Bool.{◌&&◌, ◌||◌}
use lib.Dec.{eqb}
use Rattle.geometry_layout.proofs.geometry.absent_zero.Goals as goal

pub returns : goal.returns
returns c = λ i. c.bit_set.ensures i || (eqb (c.u32_at.ensures i) 0 && eqb (c.u32_at-2.ensures i) 0)
