use native.Mathlib.Omega.{arith}
use Rattle.decimal.specs.FiniteLaws.{cut_below, cut_full}
use Rattle.decimal.proofs.finite.carried.Goals as goal

pub returns-then-fraction-lt-ONE : goal.returns-then-fraction-lt-ONE
returns-then-fraction-lt-ONE c = cut_below c.args.whole c.args.fraction c.if-fraction-lt-ONE.true

pub returns : goal.returns
returns c = cut_full c.args.whole c.args.fraction (omega arith)
