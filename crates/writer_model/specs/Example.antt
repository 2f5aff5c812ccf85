-- Rows of calls there are: memory that is free between calls, refused calls, and two features of any two numbers with a pair left over from the first, which is carried into the second.
use Rattle.std.specs.Prelude.{◌≡◌, Bool, true, ℕ, ◌<◌, replicate}
use Rattle.std.proofs.Math.Path.{refl}
use Rattle.std.proofs.Common.{arith, ne_eqb}
use Rattle.std.proofs.Math.Bool.{false}
use mathlib.Core.List.{List, [], ◌∷◌, ◌++◌}
use Rattle.std.proofs.Math.Option.{none}
use Rattle.laws.specs.Every.{never}
use Rattle.kinds.specs.LaneLaws.{by_lane}
use Rattle.kinds.specs.Event.{begin_e, end_e, xy_e, well_formed}
use Rattle.kinds.specs.declared.event.Event.{Event}
use Rattle.store.specs.Lists.{pools_of, lent_of}
use Rattle.event_log.specs.Log.{events, hear_said, feature-said}
use Rattle.writing.specs.declared.state.State.{State}
use Rattle.pending.specs.Words.{words}
use Rattle.writing.specs.State.{Mem, memory}
use Rattle.asking.specs.SetType.{set_type, collected}
use Rattle.writing.specs.Calls.{started, state_after, if_due, decide_event, event_with, event_call, finished, renewed}
use Rattle.asking.specs.Ask.{ask_of, begun}
use Rattle.pending.specs.Room.{has_room}
use Rattle.pending.specs.Growth.{grown_all}
use Rattle.writer_model.specs.Writer.{Writer, fresh, longer, part_of, finish_part, coordinate, after, after_all, finish, tree, next}
use Rattle.writer_model.specs.Bench.{rec, root}
use Rattle.writer_model.specs.Lanes.{words-by}
use Rattle.writer_model.specs.BenchCalls.{b6_called}
use Rattle.writer_model.specs.Call.{event_c, called}
use Rattle.writer_model.specs.Stands.{Agrees}
use Rattle.writer_model.specs.Rows.{Reached, start, refusal}
use Rattle.writer_model.specs.Fed.{sized-is, fed_state, fed_to}
use Rattle.writer_model.specs.Feature.{next_mem}

-- a start uses nothing
pub start-agrees : (declared : ℕ) (detect promote : Bool) (k k' : Mem) → Agrees (started declared detect promote) k k'
unfolding started
start-agrees declared detect promote k k' = record {
  pools = λ n. rw (words-by (λ m. words 0 0) n);
  table = λ i a z. absurd (never (z (omega arith)));
}

-- once a pair is pending, it is all that counts: the rest, and every length, may be another
abbrev begun-point : State
begun-point = fed_state (started 1 false false) 7 1 (lent_of (pools_of (0 ∷ 0 ∷ []) [] [] [] [] [])) (begin_e 1 false 0 0 ∷ xy_e 1 2 0 ∷ [])

pub pair-agrees : (table other xy more ends z m t tm : List ℕ) → Agrees begun-point (memory table (pools_of (1 ∷ 2 ∷ xy) [] [] [] [] [])) (memory other (pools_of (1 ∷ 2 ∷ more) ends z m t tm))
unfolding started ask_of begun set_type has_room grown_all state_after decide_event if_due begin_e xy_e
pair-agrees table other xy more ends z m t tm = record {
  pools = by_lane _ refl refl refl refl refl refl;
  table = λ i a e. absurd (never (e (omega arith)));
}

-- a refused call is lent anything at all, and the row goes on
pub refused_first : (n : ℕ) (k m : Mem) → Reached (called (started 5 false false) m (event_c ((events n).bytes (begin_e 2 true 2 0)))).wrote.state k (fresh 5 false false) []
refused_first n k m = refusal m (event_c ((events n).bytes (begin_e 2 true 2 0))) (mixed _ (b6_called n m)) (start 5 false false k)
  where
    mixed : (n : ℕ) → n ≡ 5 → n ≡ 0 → ⊥
    mixed n a b = omega arith

abbrev pub point : ℕ → ℕ → List Event
point x y = begin_e 7 false 1 0 ∷ begin_e 1 false 0 0 ∷ xy_e x y 0 ∷ end_e 1 false 0 ∷ end_e 7 false 0 ∷ []

-- a pair that comes after the collection's end
abbrev pub first : List Event
first = point 1 2 ++ (xy_e 3 4 0 ∷ [])

abbrev pub second : List Event
second = point 5 6

pub carried : tree (after_all (next (finish (after_all (fresh 7 false false) first))) second) ≡ root 1 1 ∷ rec 1 (3 ∷ 4 ∷ 5 ∷ 6 ∷ []) none ∷ []
unfolding fresh after_all after begun set_type collected coordinate finish_part part_of longer finish next begin_e end_e xy_e
carried = refl

-- ---- by calls, on two records and four xy words; the first feature has number n, the second number m
abbrev pub blank : Mem
blank = memory (replicate 128 0) (pools_of (replicate 4 0) [] [] [] [] [])

abbrev pub begin : State
begin = started 7 false false

-- after the first feature's next
abbrev pub again : ℕ → State
again n = renewed (finished (fed_to begin n blank first))

abbrev pub over : ℕ → Mem
over n = next_mem begin n blank first

abbrev pub carrying : Writer
carrying = next (finish (after_all (fresh 7 false false) first))

-- ---- amid the first feature an event of another is refused, whatever is lent
pub another_refused : (n m : ℕ) (k : Mem) → n < 4294967296 → m < 4294967296 → (m ≡ n → ⊥)
    → (called (called begin blank (event_c ((events n).bytes (begin_e 7 false 1 0)))).wrote.state k (event_c ((events m).bytes (begin_e 1 false 0 0)))).wrote.number ≡ 17
unfolding started event_call event_with ask_of begun set_type has_room grown_all state_after decide_event if_due well_formed begin_e
another_refused n m k fits small differs =
    rw (hear_said n (begin_e 7 false 1 0) (sized-is _ refl) refl, feature-said n (begin_e 7 false 1 0) fits, hear_said m (begin_e 1 false 0 0) (sized-is _ refl) refl, feature-said m (begin_e 1 false 0 0) small, ne_eqb m n differs)
