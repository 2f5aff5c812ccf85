use mathlib.Core.Path.{refl, sym, subst}
use Rattle.nesting.specs.Machine.{number}
use Prim.Native.Nat.{◌+◌}
use native.Mathlib.Omega.{arith}
use lib.ListN.{set, length-set}
use Rattle.std.proofs.lemmas.Result.{err_from_is_err_and}
use Rattle.wkb_judge.specs.Along.{Along}
use Rattle.wkb_judge.specs.Inside.{filled, pairs-count}
use Rattle.wkb_judge.specs.Steps.{told_here, begun, pair_stops, pair_counts, begin_stops, begin_counts, end_stops, end_counts, strange_stops, malformed_stops, ends_open, ends_sound}
use Rattle.wkb_events.specs.declared.walk.Walk.{Walk}
use Rattle.wkb_judge.proofs.judge.judge.Goals as goal

pub loop-i-init : goal.loop-i-init
loop-i-init c = (begun c.start-walk.ensures c.outside-outside.ensures, refl, omega arith, c.feature_in-feature.ensures)

pub returns-in_err-told : goal.returns-in_err-told
returns-in_err-told c =
    let p = err_from_is_err_and c.from_residual.result c.from_residual.ensures.1 in
    rw (p.1, p.2, c.in_err-told.ensures.0) (malformed_stops c.requires.1 c.loop-i.invariant.3 c.loop-i-test.true c.loop-i.invariant.0 c.in_err-told.ensures.1)

pub returns-then-k-takes_pair : goal.returns-then-k-takes_pair
returns-then-k-takes_pair c = pair_stops c.requires.1 c.loop-i.invariant.3 c.loop-i-test.true c.loop-i.invariant.0 c.slot-k.ensures c.takes_pair.result (told_here c.args.events.now c.feature_in-feature.result c.loop-i.i _ _ c.in_ok-told.ensures c.in-Pair.is) c.takes_pair.ensures c.if-k-takes_pair.true c.fault.ensures

pub loop-i-preserved-in-Pair : goal.loop-i-preserved-in-Pair
loop-i-preserved-in-Pair c = (pair_counts c.requires.1 c.loop-i.invariant.3 c.loop-i-test.true c.loop-i.invariant.0 c.slot-k.ensures c.takes_pair.result (told_here c.args.events.now c.feature_in-feature.result c.loop-i.i _ _ c.in_ok-told.ensures c.in-Pair.is) c.takes_pair.ensures c.if-k-takes_pair.false c.pair-walk.ensures c.one_more-top.ensures, c.loop-i.invariant.1, omega (arith, c.loop-i-test.true), c.loop-i.invariant.3)

pub returns-then-k-takes_begin : goal.returns-then-k-takes_begin
returns-then-k-takes_begin c = begin_stops c.requires.1 c.loop-i.invariant.3 c.loop-i-test.true c.loop-i.invariant.0 c.slot-k.ensures c.takes_begin.result (told_here c.args.events.now c.feature_in-feature.result c.loop-i.i _ _ c.in_ok-told.ensures c.in-Begin.is) (λ g is. c.takes_begin.ensures g is _ refl) c.if-k-takes_begin.true c.fault-then-k-takes_begin.ensures

pub pairs-walk-requires : goal.pairs-walk-requires
pairs-walk-requires c =
    let o : Along number c.args.events.now c.args.low c.feature_in-feature.result (c.loop-i.i + 1) c.begin-walk.result c.begun-top.result (set c.loop-i.stored c.slot-k.result c.loop-i.top) = begin_counts c.requires.1 c.loop-i.invariant.3 c.loop-i-test.true c.loop-i.invariant.0 c.slot-k.ensures c.takes_begin.result (told_here c.args.events.now c.feature_in-feature.result c.loop-i.i _ _ c.in_ok-told.ensures c.in-Begin.is) (λ g is. c.takes_begin.ensures g is _ refl) c.if-k-takes_begin.false (omega (arith, c.loop-i.invariant.1, c.slot-k.ensures.most)) c.begin-walk.ensures (c.begun-top.ensures _ refl) in
    omega (arith, o.short, c.loop-i-test.true)

pub loop-i-preserved-in-Begin : goal.loop-i-preserved-in-Begin
loop-i-preserved-in-Begin c =
    let a = c.args in
    let l = c.loop-i in
    let n = c.pairs_inside-pairs.result in
    let o : Along number a.events.now a.low c.feature_in-feature.result (l.i + 1) c.begin-walk.result c.begun-top.result (set l.stored c.slot-k.result l.top) = begin_counts c.requires.1 c.loop-i.invariant.3 c.loop-i-test.true c.loop-i.invariant.0 c.slot-k.ensures c.takes_begin.result (told_here c.args.events.now c.feature_in-feature.result c.loop-i.i _ _ c.in_ok-told.ensures c.in-Begin.is) (λ g is. c.takes_begin.ensures g is _ refl) c.if-k-takes_begin.false (omega (arith, c.loop-i.invariant.1, c.slot-k.ensures.most)) c.begin-walk.ensures (c.begun-top.ensures _ refl) in (
      subst (λ (w : Walk). Along number a.events.now a.low c.feature_in-feature.result (l.i + 1 + n) w (filled c.begun-top.result n) (set l.stored c.slot-k.result l.top))
          (sym c.pairs-walk.ensures) (pairs-count c.requires.1 l.invariant.3 (c.begun-top.ensures _ refl).done o n c.pairs_inside-pairs.ensures),
      simp length-set l.invariant.1,
      c.pairs_inside-pairs.ensures.last,
      l.invariant.3,
    )

pub returns-then-height-k : goal.returns-then-height-k
returns-then-height-k c = end_stops c.requires.1 c.loop-i.invariant.3 c.loop-i-test.true c.loop-i.invariant.0 c.slot-k.ensures c.takes_end.result (told_here c.args.events.now c.feature_in-feature.result c.loop-i.i _ _ c.in_ok-told.ensures c.in-End.is) (λ g is. c.takes_end.ensures g is _ refl) c.if-height-k.true c.fault-then-height-k.ensures

pub loop-i-preserved : goal.loop-i-preserved
loop-i-preserved c = (end_counts c.requires.1 c.loop-i.invariant.3 c.loop-i-test.true c.loop-i.invariant.0 c.slot-k.ensures c.takes_end.result (told_here c.args.events.now c.feature_in-feature.result c.loop-i.i _ _ c.in_ok-told.ensures c.in-End.is) (λ g is. c.takes_end.ensures g is _ refl) c.if-height-k.false c.slot.ensures c.end-walk.ensures _ c.one_more-top-in-End.ensures, c.loop-i.invariant.1, omega (arith, c.loop-i-test.true), c.loop-i.invariant.3)

pub returns-in-Strange : goal.returns-in-Strange
returns-in-Strange c = strange_stops c.requires.1 c.loop-i.invariant.3 c.loop-i-test.true c.loop-i.invariant.0 (told_here c.args.events.now c.feature_in-feature.result c.loop-i.i _ _ c.in_ok-told.ensures c.in-Strange.is) c.fault-in-Strange.ensures

pub returns-then-low-walk : goal.returns-then-low-walk
returns-then-low-walk c = ends_open c.requires.1 c.loop-i.invariant.3 c.loop-i.invariant.2 c.loop-i-test.false c.loop-i.invariant.0 c.if-low-walk.true

pub returns : goal.returns
returns c = ends_sound c.requires.1 c.loop-i.invariant.3 c.loop-i.invariant.2 c.loop-i-test.false c.loop-i.invariant.0 c.if-low-walk.false
