use mathlib.Core.Path.{◌≡◌}
use native.Mathlib.Omega.{arith}
use Rattle.compared.specs.ComparedLaws.{one_more_lem}
use Rattle.compared.proofs.common.Goals as goal

pub returns-then-a-i : goal.returns-then-a-i
returns-then-a-i c = record {
  in_first = omega arith;
  in_second = omega arith;
  agree = c.loop-i.invariant;
  part = λ h g e. c.if-a-i.true e;
}

pub loop-i-preserved : goal.loop-i-preserved
loop-i-preserved c =
    let args = c.args in
    let at = c.loop-i in
    one_more_lem args.a.now args.b.now at.i (omega arith) (omega arith) at.invariant c.if-a-i.false

pub returns : goal.returns
returns c =
    let all : c.min-end.result ≡ c.loop-i.i = omega arith in
    record { in_first = omega arith; in_second = omega arith; agree = rw all c.loop-i.invariant; part = λ h g e. omega arith }
