-- The examples of SPEC 12.1 by calls on lent memory of just the size they need, under any number n: every call is accepted, and the tree
-- that is read off it is that of the writer on lists. So no theorem on rows of calls is empty.
use Rattle.std.specs.Prelude.{◌≡◌, refl, Bool, true, false, List, [], ◌∷◌, ◌++◌, ℕ}
use Rattle.std.proofs.Common.{◌∙◌, subst, arith}
use Rattle.std.proofs.Math.Option.{none, some}
use Rattle.kinds.specs.Event.{begin_e, end_e, xy_e, well_formed}
use Rattle.kinds.specs.declared.event.Event.{Event}
use Rattle.store.specs.Lists.{Rec}
use Rattle.store.specs.Records.{table_good}
use Rattle.writing.specs.declared.state.State.{State}
use Rattle.writing.specs.State.{Mem}
use Rattle.asking.specs.SetType.{set_type, unknown_type, collected}
use Rattle.writing.specs.Calls.{started, state_after, if_due, decide_event, decide_finish}
use Rattle.asking.specs.Ask.{ask_of, begun}
use Rattle.pending.specs.Room.{has_room}
use Rattle.pending.specs.Growth.{grown_all, past_all}
use Rattle.writer_model.specs.Writer.{fresh}
use Rattle.writer_model.specs.Bench.{line, lines, polygon, two, three, four, tree_from, rec, root, b1, b2, b3, b4, b5, b7, b8, b9}
use Rattle.writer_model.specs.Rows.{start}
use Rattle.writer_model.specs.Feature.{finishes_in}
use Rattle.writer_model.proofs.Feature.{tree-left}
use Rattle.writer_model.specs.AnyNumber.{finishes-any, finished-any}
use Rattle.writer_model.specs.BenchCalls.{blank, Read, Makes}

-- under number 0 the test is computed
by_calls : (declared : ℕ) (detect promote : Bool) (k : Mem) (es : List Event) (t : List Rec) → finishes_in (started declared detect promote) 0 k es ≡ true → table_good k.table ≡ true → tree_from declared detect promote es ≡ t
    → (n : ℕ) → Makes declared detect promote n k es t
unfolding started
by_calls declared detect promote k es t ok whole e n =
    let s : State = started declared detect promote in
    let reads = subst (Read declared detect promote 0 k es) e (tree-left s 0 k (fresh declared detect promote) [] es (omega arith) ok (start declared detect promote k) whole) in
    (finishes-any s n 0 refl k es ∙ ok, rw (finished-any s n 0 refl k es) reads)

pub b1_called : (n : ℕ) → Makes 3 false false n (blank 1 8 1) (polygon (four ∷ [])) (rec 0 (1 ∷ 2 ∷ 3 ∷ 4 ∷ 5 ∷ 6 ∷ 1 ∷ 2 ∷ []) none ∷ [])
unfolding started ask_of begun set_type has_room grown_all state_after decide_event if_due decide_finish well_formed begin_e end_e xy_e
b1_called = by_calls 3 false false (blank 1 8 1) _ _ refl refl b1

pub b2_called : (n : ℕ) → Makes 3 false false n (blank 1 16 2) (polygon (four ∷ four ∷ [])) (rec 0 (1 ∷ 2 ∷ 3 ∷ 4 ∷ 5 ∷ 6 ∷ 1 ∷ 2 ∷ 1 ∷ 2 ∷ 3 ∷ 4 ∷ 5 ∷ 6 ∷ 1 ∷ 2 ∷ []) (some (4 ∷ 8 ∷ [])) ∷ [])
unfolding started ask_of begun set_type has_room grown_all state_after decide_event if_due decide_finish well_formed begin_e end_e xy_e
b2_called = by_calls 3 false false (blank 1 16 2) _ _ refl refl b2

pub b3_called : (n : ℕ) → Makes 3 false false n (blank 1 0 0) (polygon []) (rec 0 [] none ∷ [])
unfolding started ask_of begun set_type has_room grown_all state_after decide_event if_due decide_finish well_formed begin_e end_e
b3_called = by_calls 3 false false (blank 1 0 0) _ _ refl refl b3

pub b4_called : (n : ℕ) → Makes 5 false false n (blank 1 10 3) (begin_e 5 false 3 0 ∷ (lines (two ∷ [] ∷ three ∷ []) 0 ++ (end_e 5 false 0 ∷ []))) (rec 0 (1 ∷ 2 ∷ 3 ∷ 4 ∷ 1 ∷ 2 ∷ 3 ∷ 4 ∷ 5 ∷ 6 ∷ []) (some (2 ∷ 2 ∷ 5 ∷ [])) ∷ [])
unfolding started ask_of begun set_type has_room grown_all state_after decide_event if_due decide_finish well_formed begin_e end_e xy_e
b4_called = by_calls 5 false false (blank 1 10 3) _ _ refl refl b4

pub b5_called : (n : ℕ) → Makes 5 false true n (blank 1 4 1) (line true two 0) (rec 0 (1 ∷ 2 ∷ 3 ∷ 4 ∷ []) none ∷ [])
unfolding started ask_of begun set_type has_room grown_all state_after decide_event if_due decide_finish well_formed begin_e end_e xy_e
b5_called = by_calls 5 false true (blank 1 4 1) _ _ refl refl b5

pub b7_called : (n : ℕ) → Makes 6 false false n (blank 1 0 0) (begin_e 6 false 0 0 ∷ end_e 6 false 0 ∷ []) (rec 0 [] none ∷ [])
unfolding started ask_of begun set_type has_room grown_all state_after decide_event if_due decide_finish well_formed begin_e end_e
b7_called = by_calls 6 false false (blank 1 0 0) _ _ refl refl b7

pub b8_called : (n : ℕ) → Makes 7 false false n (blank 3 8 1) (begin_e 7 false 1 0 ∷ (polygon (four ∷ []) ++ (end_e 7 false 0 ∷ []))) (root 3 2 ∷ rec 3 (1 ∷ 2 ∷ 3 ∷ 4 ∷ 5 ∷ 6 ∷ 1 ∷ 2 ∷ []) none ∷ rec 3 [] none ∷ [])
unfolding started ask_of begun set_type collected has_room grown_all past_all state_after decide_event if_due decide_finish well_formed begin_e end_e xy_e
b8_called = by_calls 7 false false (blank 3 8 1) _ _ refl refl b8

pub b9_called : (n : ℕ) → Makes 0 false false n (blank 2 2 0) (begin_e 7 false 1 0 ∷ begin_e 1 false 0 0 ∷ xy_e 1 2 0 ∷ end_e 1 false 0 ∷ end_e 7 false 0 ∷ []) (root 1 1 ∷ rec 1 (1 ∷ 2 ∷ []) none ∷ [])
unfolding started ask_of begun set_type unknown_type collected has_room grown_all past_all state_after decide_event if_due decide_finish well_formed begin_e end_e xy_e
b9_called = by_calls 0 false false (blank 2 2 0) _ _ refl refl b9
