use native.Mathlib.Omega.{arith}
use lib.ListN.{length-set}
use Rattle.geometry_layout.proofs.geometry.put_head.Goals as goal

pub bounds-s-1 : goal.bounds-s-1
bounds-s-1 c = simp length-set (omega arith)

pub bounds-s-2 : goal.bounds-s-2
bounds-s-2 c = simp length-set (omega arith)
