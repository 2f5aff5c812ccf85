use mathlib.Core.Path.{◌≡◌, ap, ◌∙◌}
use Prim.Native.Nat.{ℕ, ◌+◌, ◌*◌, ◌-◌, ◌/◌, ◌%◌, ◌^◌}
use native.Mathlib.Nat.{mod-lt}
use native.Mathlib.Omega.{arith}
use lib.Pow.{shr_le}
use Rattle.decimal.specs.Magnitude.{cut}
use Rattle.decimal.specs.FiniteLaws.{parted, at_most_one}
use Rattle.decimal.proofs.finite.with_point.Goals as goal

pub carried-requires : goal.carried-requires
carried-requires c =
    let args = c.args in
    let part = args.mantissa * 2 ^ (64 - args.bits) % 2 ^ 64 in
    let in-word = mod-lt (args.mantissa * 2 ^ (64 - args.bits)) {m = 2 ^ 64} (omega arith) in
    (omega (arith, shr_le args.mantissa args.bits), omega (arith, c.ten_millionths.ensures, at_most_one part 64 in-word (omega arith)))

pub returns-then-bits-lt64 : goal.returns-then-bits-lt64
returns-then-bits-lt64 c =
    let args = c.args in
    c.carried.ensures
    ∙ ap (λ (x : ℕ). cut (args.mantissa / 2 ^ args.bits * 10000000 + x)) c.ten_millionths.ensures
    ∙ ap cut (parted args.mantissa args.bits c.if-bits-lt64.true)

pub carried-requires-2 : goal.carried-requires-2
carried-requires-2 c =
    let args = c.args in
    (omega arith, omega (arith, c.ten_millionths-2.ensures, at_most_one args.mantissa args.bits (omega arith) c.if-bits-lt64.false))

pub returns : goal.returns
returns c =
    let all : 0 * 10000000 + c.ten_millionths-2.result ≡ c.ten_millionths-2.result = omega arith in
    c.carried-2.ensures ∙ ap cut (all ∙ c.ten_millionths-2.ensures)
