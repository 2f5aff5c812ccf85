use mathlib.Core.Path.{◌≡◌, sym, subst, ◌∙◌}
use Prim.Native.Nat.{ℕ, ◌+◌, ◌*◌}
use borrow.Author.Tests.{eqb-true}
use native.Mathlib.Omega.{arith}
use Rattle.wkb_judge.specs.Passing.{malformed, faulty}
use Rattle.wkb_judge.specs.Rows.{tail_none}
use Rattle.wkb_judge.specs.Rising.{Rising, first-passed, one-passed, none_nested}
use Rattle.wkb_judge.proofs.judge.judge_all.Goals as goal

pub returns-then-events-ne0 : goal.returns-then-events-ne0
returns-then-events-ne0 c = malformed (tail_none c.args.events.now c.if-events-ne0.true)

pub returns-then-is_empty : goal.returns-then-is_empty
returns-then-is_empty c = faulty (none_nested c.args.events.now (eqb-true _ 0 (sym c.is_empty.ensures ∙ c.if-is_empty.true)))

pub loop-window-init : goal.loop-window-init
loop-window-init c = first-passed c.in_ok-first.ensures

pub loop-window-preserved : goal.loop-window-preserved
loop-window-preserved c =
    let f = c.in_ok-first.first in
    let next : 256 * c.loop-window.window + 256 ≡ 256 * (c.loop-window.window + 1) = omega arith in
    subst (λ (low : ℕ). Rising c.args.events.now low f.highest f.deep f.length) next (one-passed c.loop-window.invariant c.in_ok-judge.ensures)
