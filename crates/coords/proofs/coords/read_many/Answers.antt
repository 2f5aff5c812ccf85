use Rattle.std.proofs.Common.{arith, ◌≡◌, ◌/◌, length}
use Rattle.std.proofs.lemmas.Result.{err_from_is_err_and}
use Rattle.event_log.specs.Says.{of_events}
use Rattle.event_log.specs.SaysLaws.{nothing, refuses, goes-on, ends, breaks-off}
use Rattle.coords.specs.Views.{coords_in}
use Rattle.coords.specs.CoordLaws.{pairs_over, pairs_odd, pairs_short, pairs_next}
use Rattle.coords.proofs.coords.read_many.Goals as goal

pub returns-in_err-e : goal.returns-in_err-e
returns-in_err-e c =
    let a = c.args in
    let C = coords_in a.lists.now in
    let p = err_from_is_err_and c.from_residual.result c.from_residual.ensures.1 in
    rw (p.1, p.2) (ends of_events c.loop-i.invariant (pairs_short C.many C.lanes a.words.now a.from 0 c.loop-i.i c.loop-i-test.true c.in_err-e.field-0.0 c.in_err-e.ensures) (refuses of_events _ _))

pub returns-in_err-say : goal.returns-in_err-say
returns-in_err-say c =
    let a = c.args in
    let C = coords_in a.lists.now in
    let p = err_from_is_err_and c.from_residual-in_err-say.result c.from_residual-in_err-say.ensures.1 in
    rw (p.1, p.2) (breaks-off of_events _ _ c.loop-i.invariant (pairs_next C.many C.lanes a.words.now a.from 0 c.loop-i.i c.loop-i-test.true c.in_ok-e.e c.in_ok-e.ensures) c.in_err-say.ensures)

pub loop-i-preserved : goal.loop-i-preserved
loop-i-preserved c =
    let a = c.args in
    let C = coords_in a.lists.now in
    goes-on of_events _ _ c.loop-i.invariant (pairs_next C.many C.lanes a.words.now a.from 0 c.loop-i.i c.loop-i-test.true c.in_ok-e.e c.in_ok-e.ensures) c.in_ok-say.ensures

pub returns-then-words-ne0 : goal.returns-then-words-ne0
returns-then-words-ne0 c =
    let a = c.args in
    let C = coords_in a.lists.now in
    let k : c.loop-i.i ≡ length a.words.now / 2 = omega arith in
    ends of_events c.loop-i.invariant (pairs_odd C.many C.lanes a.words.now a.from 0 c.loop-i.i k c.if-words-ne0.true) (refuses of_events _ _)

pub returns : goal.returns
returns c =
    let a = c.args in
    let C = coords_in a.lists.now in
    ends of_events c.loop-i.invariant (pairs_over C.many C.lanes a.words.now a.from 0 c.loop-i.i (omega arith) c.if-words-ne0.false) (nothing of_events _)
