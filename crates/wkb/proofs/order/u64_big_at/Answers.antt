use native.Mathlib.Omega.{arith}
use Rattle.wkb.specs.Order.{eight-bytes}
use Rattle.wkb.proofs.order.u64_big_at.Goals as goal

pub returns : goal.returns
returns c = let a = c.args in rw (eight-bytes a.s.now a.at (omega arith)) (omega arith)
