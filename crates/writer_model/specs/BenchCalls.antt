-- The examples of SPEC 12.1 by calls on lent memory of just the size they need, under any number n: every call is accepted, and the tree
-- that is read off it is that of the writer on lists. So no theorem on rows of calls is empty.
use Rattle.std.specs.Prelude.{◌≡◌, refl, Bool, true, false, List, [], ℕ, ◌*◌, replicate}
use Rattle.std.proofs.Common.{arith}
use Rattle.kinds.specs.Event.{EventSized, begin_e, well_formed}
use Rattle.kinds.specs.declared.event.Event.{Event}
use Rattle.store.specs.Lists.{Rec, pools_of, record_with}
use Rattle.event_log.specs.Log.{events, hear_said}
use Rattle.writing.specs.State.{Mem, memory}
use Rattle.asking.specs.SetType.{set_type}
use Rattle.writing.specs.Calls.{started, if_due, decide_event, event_with, event_call}
use Rattle.asking.specs.Ask.{ask_of, begun}
use Rattle.writer_model.specs.Tree.{Holds}
use Rattle.writer_model.specs.Feature.{finishes_in, finished_mem}

-- lent memory of so many records, xy words and ends
abbrev pub blank : ℕ → ℕ → ℕ → Mem
blank records xy ends = memory (replicate (64 * records) 0) (pools_of (replicate xy 0) (replicate ends 0) [] [] [] [])

-- the tree that is read once the events are given and finish is called
abbrev pub Read : ℕ → Bool → Bool → ℕ → Mem → List Event → List Rec → Type 0
Read declared detect promote n k es = Holds (record_with (finished_mem (started declared detect promote) n k es).table (finished_mem (started declared detect promote) n k es).pools) 0

-- all is accepted, and that is the tree
abbrev pub Makes : ℕ → Bool → Bool → ℕ → Mem → List Event → List Rec → Type 0
Makes declared detect promote n k es t = (finishes_in (started declared detect promote) n k es ≡ true) × Read declared detect promote n k es t

-- on any memory
pub b6_called : (n : ℕ) (k : Mem) → (event_call (started 5 false false) k ((events n).bytes (begin_e 2 true 2 0))).wrote.number ≡ 5
unfolding started event_call event_with ask_of begun set_type decide_event if_due well_formed begin_e
b6_called n k = rw (hear_said n (begin_e 2 true 2 0) small refl)
  where
    small : EventSized (begin_e 2 true 2 0)
    small = record { size = omega arith; idx = omega arith; x = omega arith; y = omega arith; z = omega arith; m = omega arith; t = omega arith; tm = omega arith }
