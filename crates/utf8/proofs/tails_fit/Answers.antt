use mathlib.Core.Bool.{not}
use mathlib.Core.Path.{ap}
use mathlib.Core.Path.{◌≡◌}
use mathlib.Core.Bool.{and-true}
use Prim.Native.Nat.{◌+◌}
use native.Mathlib.Omega.{arith}
use borrow.Author.Tests.{not-true, not-false}
use Rattle.utf8.specs.Utf8.{begins}
use Rattle.utf8.specs.Laws.{tails-first}
use Rattle.utf8.proofs.tails_fit.Goals as goal

pub returns-then-count-eq0 : goal.returns-then-count-eq0
returns-then-count-eq0 c = unfold begins in rw c.if-count-eq0.true

pub returns-then-not-is_tail : goal.returns-then-not-is_tail
returns-then-not-is_tail c =
    let start = c.args in
    let is = c.is_tail in
    rw (
      tails-first start.count start.bytes.now start.from (omega arith) (omega arith),
      ← is.ensures,
      not-true is.result (ap not c.if-not-is_tail.true),
    )

pub returns-then-count-eq1 : goal.returns-then-count-eq1
returns-then-count-eq1 c =
    unfold begins in
    let start = c.args in
    let is = c.is_tail in
    rw (
      tails-first start.count start.bytes.now start.from (omega arith) (omega arith),
      ← is.ensures,
      not-false is.result (ap not c.if-not-is_tail.false),
      c.if-count-eq1.true,
    )

pub returns : goal.returns
returns c =
    unfold begins in
    let start = c.args in
    let is = c.is_tail in
    let two : start.count ≡ 2 = omega arith in
    rw (
      tails-first start.count start.bytes.now start.from (omega arith) (omega arith),
      ← is.ensures,
      not-false is.result (ap not c.if-not-is_tail.false),
      two,
      tails-first 1 start.bytes.now (start.from + 1) (omega arith) (omega arith),
      ← c.is_tail-2.ensures,
      and-true,
    )
