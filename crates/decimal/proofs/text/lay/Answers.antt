use mathlib.Core.Path.{refl}
use Prim.Native.Nat.{◌-◌}
use native.Mathlib.Omega.{arith}
use lib.ListN.{length-set}
use Rattle.decimal.specs.TextLaws.{laid_more, laid-all}
use Rattle.decimal.proofs.text.lay.Goals as goal

pub loop-i-init : goal.loop-i-init
loop-i-init c = (omega arith, omega arith, refl, refl)

pub overflow_sub-i : goal.overflow_sub-i
overflow_sub-i c = omega arith

pub bounds-text-i : goal.bounds-text-i
bounds-text-i c = omega arith

pub loop-i-smaller : goal.loop-i-smaller
loop-i-smaller c = omega arith

pub loop-i-preserved : goal.loop-i-preserved
loop-i-preserved c =
    let from = c.args.from in
    let at = c.loop-i in (
      omega arith,
      omega arith,
      omega (arith, length-set at.text (at.i - 1) c.digit.result),
      laid_more from at.i at.rest at.text _ at.invariant.3 c.digit.result (omega arith) (omega arith) c.digit.ensures,
    )

pub shape_of-text : goal.shape_of-text
shape_of-text c = omega arith

pub returns : goal.returns
returns c = laid-all c.args.from c.loop-i.i c.loop-i.rest c.loop-i.text _ c.loop-i.invariant.3 (omega arith) (omega arith)
