use Prim.Native.Nat.{◌*◌}
use Rattle.wkb_judge.specs.Rising.{Rising}
use Rattle.wkb_judge.proofs.judge.judge_all.Given as goal

abbrev pub invariant-loop-window : goal.invariant-loop-window
invariant-loop-window l = Rising l.events (256 * l.window) l.first.highest l.first.deep l.first.length
