use native.Mathlib.Omega.{arith}
use Rattle.decimal.specs.FiniteLaws.{told_below, told_vast, told_whole}
use Rattle.decimal.proofs.finite.finite.Goals as goal

pub returns-then-exponent-point : goal.returns-then-exponent-point
returns-then-exponent-point c = told_below c.args.point c.args.mantissa c.args.exponent c.with_point.result c.if-exponent-point.true c.requires.short c.with_point.ensures

pub returns-then-up-most : goal.returns-then-up-most
returns-then-up-most c = told_vast c.args.point c.args.mantissa c.args.exponent c.args.most c.requires c.if-exponent-point.false c.if-up-most.true

pub overflow_shl-result : goal.overflow_shl-result
overflow_shl-result c = omega (arith, c.requires.few)

pub returns : goal.returns
returns c = told_whole c.args.point c.args.mantissa c.args.exponent c.args.most c.requires c.if-exponent-point.false c.if-up-most.false
