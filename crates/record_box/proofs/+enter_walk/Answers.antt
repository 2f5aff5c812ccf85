use Rattle.std.specs.Prelude.{◌≡◌, ◌+◌, ◌-◌}
use Rattle.std.proofs.Common.{arith, sym, subst, refl, ◌∙◌}
use Rattle.std.proofs.lemmas.Result.{err_from_is_err_and}
use Rattle.kinds.specs.Lanes.{xyL}
use Rattle.kinds.specs.Refusal.{refused}
use Rattle.store.specs.Lists.{lent_of, pools_in}
use Rattle.store.specs.RecordLaws.{within}
use Rattle.tree_walk.specs.Records.{Placed, good_placed}
use Rattle.tree_walk.specs.Steps.{at-depth, at_skip, at_record, went_on, broke_off, came-through}
use Rattle.record_box.specs.Lent.{bad_walked, good_walked, lone_walked, leaves_same}
use Rattle.record_box.proofs.+enter_walk.Goals as goal

pub enter-returns-then-levels-eq0 : goal.enter-returns-then-levels-eq0
enter-returns-then-levels-eq0 t c = (c.args.around, at-depth _ _ _ _ _ _ _ _ c.if-levels-eq0.true)

pub enter-returns-then-is_clear : goal.enter-returns-then-is_clear
enter-returns-then-is_clear t c = at_skip _ _ _ _ _ _ _ _ c.if-levels-eq0.false (sym c.is_clear.ensures ∙ c.if-is_clear.true)

pub enter-returns-in-Some : goal.enter-returns-in-Some
enter-returns-in-Some t c =
    let a = c.args in
    let s = a.store.now in
    at_record _ _ _ _ _ _ _ _ c.if-levels-eq0.false (sym c.is_clear.ensures ∙ c.if-is_clear.false)
    ∙ lone_walked s.table.now (lent_of (pools_in s.pools)) s.pools.xy.now a.n c.in-Some.is c.lone_list.ensures _ a.levels a.around a.marks.now c.own_once-bbox.ensures

pub enter-returns : goal.enter-returns
enter-returns t c =
    leaves_same c.walk.result c.walk.new.marks
    (at_record _ _ _ _ _ _ _ _ c.if-levels-eq0.false (sym c.is_clear.ensures ∙ c.if-is_clear.false))
    c.walk.ensures

pub walk-returns-in_default : goal.walk-returns-in_default
walk-returns-in_default t c =
    let a = c.args in
    let s = a.store.now in
    (a.around, bad_walked s.table.now (lent_of (pools_in s.pools)) s.pools.xy.now _ a.levels a.n a.around a.marks.now c.«record».ensures c.in_default.is)

pub walk-own_once-so_far-requires : goal.walk-own_once-so_far-requires
walk-own_once-so_far-requires t c = (within _ _ _ _ (sym c.«record».ensures ∙ c.in-Some.is)).lists xyL

pub walk-loop-part-init : goal.walk-loop-part-init
walk-loop-part-init t c =
    let a = c.args in
    let s = a.store.now in
    let first = c.parts_of-parts.result.first in
    let count = c.parts_of-parts.result.count in
    let all : first + count - first ≡ count = omega arith in
    rw all (good_walked s.table.now (lent_of (pools_in s.pools)) s.pools.xy.now _ a.levels a.n a.around a.marks.now c.«record».ensures c.in-Some.is c.parts_of-parts.ensures c.own_once-so_far.ensures)

pub walk-enter-requires : goal.walk-enter-requires
walk-enter-requires t c =
    let placed = (subst (Placed _ _ _) (sym c.parts_of-parts.ensures) (good_placed _ _ _ _ (sym c.«record».ensures ∙ c.in-Some.is))).below in
    (omega (arith, c.decreases, c.requires.level), omega (arith, c.loop-part-test.true, placed))

pub walk-returns-in_err-so_far : goal.walk-returns-in_err-so_far
walk-returns-in_err-so_far t c =
    let p = err_from_is_err_and c.from_residual.result c.from_residual.ensures.1 in
    let l = c.in_err-so_far.ensures in
    rw (p.1, p.2) (l.0, broke_off _ _ _ _ _ _ _ c.loop-part.invariant c.loop-part-test.true l.1 (refused _))

pub walk-loop-part-preserved : goal.walk-loop-part-preserved
walk-loop-part-preserved t c = went_on _ _ _ _ _ _ _ c.loop-part.invariant c.loop-part-test.true c.in_ok-so_far.ensures refl

pub walk-returns : goal.walk-returns
walk-returns t c = came-through _ _ _ _ _ _ _ c.loop-part.invariant c.loop-part-test.false
