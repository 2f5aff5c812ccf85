use mathlib.Core.Path.{sym, ◌∙◌}
use mathlib.Core.Bool.{true, false}
use Prim.Native.Nat.{◌-◌}
use native.Mathlib.Omega.{arith}
use lib.Pow.{shr_le}
use Rattle.decimal.specs.FractionLaws.{tiny, rounded}
use Rattle.decimal.proofs.fraction.ten_millionths.Goals as goal

pub returns-then-bits-gt95 : goal.returns-then-bits-gt95
returns-then-bits-gt95 c = sym (tiny c.args.n c.args.bits (omega arith) c.if-bits-gt95.true)

pub overflow_add-result : goal.overflow_add-result
overflow_add-result c =
    let product = c.times_one-p in
    omega (arith, product.ensures.2, shr_le product.result.high (c.args.bits - 32))

pub returns-then-goes_up : goal.returns-then-goes_up
returns-then-goes_up c =
    let product = c.times_one-p in
    rounded
    c.args.n
    c.args.bits
    product.result.high
    product.result.low
    true
    c.requires
    c.if-bits-gt95.false
    product.ensures.0
    product.ensures.1
    (sym c.if-goes_up.true ∙ c.goes_up.ensures)

pub returns-else-goes_up : goal.returns-else-goes_up
returns-else-goes_up c =
    let product = c.times_one-p in
    let stays =
    rounded
    c.args.n
    c.args.bits
    product.result.high
    product.result.low
    false
    c.requires
    c.if-bits-gt95.false
    product.ensures.0
    product.ensures.1
    (sym c.if-goes_up.false ∙ c.goes_up.ensures) in
    omega (arith, stays)
