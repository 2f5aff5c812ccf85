use native.Mathlib.Omega.{arith}
use Rattle.laws.specs.Bytes.{four-at}
use Rattle.wkb.proofs.order.u32_big_at.Goals as goal

pub returns : goal.returns
returns c = let a = c.args in rw (four-at a.s.now a.at (omega arith)) (omega arith)
