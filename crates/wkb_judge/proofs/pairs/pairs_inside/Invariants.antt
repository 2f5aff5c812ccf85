use Rattle.wkb_judge.specs.Inside.{PairsFrom}
use Rattle.wkb_judge.proofs.pairs.pairs_inside.Given as goal

abbrev pub invariant-loop-idx : goal.invariant-loop-idx
invariant-loop-idx g l = PairsFrom l.events l.from l.feature l.idx
