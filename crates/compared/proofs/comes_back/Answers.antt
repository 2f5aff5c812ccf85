use Prim.Native.Nat.{◌*◌}
use native.Mathlib.Omega.{arith}
use Rattle.compared.specs.ComparedLaws.{never, as_given}
use Rattle.compared.proofs.comes_back.Goals as goal

pub returns-then-count-events : goal.returns-then-count-events
returns-then-count-events c = never (λ g. omega (arith, c.if-count-events.true, g.as_many))

pub returns-then-events-sent : goal.returns-then-events-sent
returns-then-events-sent c = never (λ g. omega (arith, g.given))

pub returns-then-events-log : goal.returns-then-events-log
returns-then-events-log c = never (λ g. omega (arith, g.heard))

pub returns : goal.returns
returns c =
    let args = c.args in
    as_given
    c.same.result
    args.events
    args.count
    (64 * args.events)
    args.sent.now
    args.log.now
    c.if-count-events.false
    (omega arith)
    (omega arith)
    (omega arith)
    c.same.ensures
