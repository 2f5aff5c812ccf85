use Prim.Native.Nat.{◌+◌}
use mathlib.Core.Bool.{not}
use mathlib.Core.Path.{sym, ap, ◌∙◌}
use borrow.Author.Tests.{not-false}
use native.Mathlib.Omega.{arith}
use Rattle.wkb_judge.specs.Inside.{one_more_pair, pair_behind}
use Rattle.wkb_judge.proofs.pairs.pairs_inside.Goals as goal

pub loop-idx-preserved : goal.loop-idx-preserved
loop-idx-preserved g c =
    let a = c.args in
    let l = c.loop-idx in
    one_more_pair a.events.now a.from a.feature l.idx l.invariant (pair_behind a.events.now a.feature (a.from + l.idx) l.idx (c.is_pair.ensures (not-false c.is_pair.result (ap not c.if-not-is_pair.false))))

pub returns-then-not-is_pair : goal.returns-then-not-is_pair
returns-then-not-is_pair g c = record {
  each = c.loop-idx.invariant;
  takes = λ some o is x y h k. sym (c.takes_pair.ensures o is x y h k) ∙ not-false c.takes_pair.result (ap not c.if-not-takes_pair.false);
  fits = omega (arith, c.loop-idx-test.true, c.min-last.ensures);
  last = omega (arith, c.loop-idx-test.true, c.min-last.ensures, c.requires);
}

pub returns : goal.returns
returns g c = record {
  each = λ j h. c.loop-idx.invariant j (omega (arith, h, c.loop-idx-test.false));
  takes = λ some o is x y h k. sym (c.takes_pair.ensures o is x y h k) ∙ not-false c.takes_pair.result (ap not c.if-not-takes_pair.false);
  fits = omega (arith, c.min-last.ensures);
  last = omega (arith, c.min-last.ensures, c.requires);
}
