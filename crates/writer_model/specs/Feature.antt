-- A feature on lent memory: its events under its number, finish, the tree that is read, next. That all is accepted is again a test that looks at lengths alone.
use Rattle.std.specs.Prelude.{◌≡◌, Bool, true, ◌&&◌, List, ◌++◌, ℕ, ◌<◌, eqb}
use Rattle.std.proofs.Math.Path.{ap}
use Rattle.std.proofs.Common.{◌∙◌, eqb-true}
use Rattle.laws.specs.Every.{both}
use Rattle.kinds.specs.declared.event.Event.{Event}
use Rattle.kinds.specs.Lanes.{Lent}
use Rattle.store.specs.Lists.{lent_of}
use Rattle.store.specs.Records.{records_lent, table_good}
use Rattle.writing.specs.declared.state.State.{State}
use Rattle.writing.specs.State.{Mem}
use Rattle.writing.specs.Calls.{finished, decide_finish, finish_call, renewed, decide_next, next_call}
use Rattle.writer_model.specs.Writer.{Writer, after_all, finish, next}
use Rattle.writer_model.specs.Took.{took-finish, took-next}
use Rattle.writer_model.specs.Call.{finish_c, next_c}
use Rattle.writer_model.specs.Lengths.{SameLengths, lent_same, call_lengths}
use Rattle.writer_model.specs.Pairs.{pending_at}
use Rattle.writer_model.specs.Rows.{Reached, accepted}
use Rattle.writer_model.specs.Fed.{takes, fed_state, fed_to, fed_mem, pairs_of, Fed, fed}

abbrev pub finishes : State → ℕ → ℕ → Lent → List Event → Bool
finishes s n records pools es = takes s n records pools es && eqb (decide_finish (fed_state s n records pools es) records pools).number 0

abbrev pub finishes_in : State → ℕ → Mem → List Event → Bool
finishes_in s n k es = finishes s n (records_lent k.table) (lent_of k.pools) es

-- the memory that finish leaves, and the one that next leaves
abbrev pub finished_mem : State → ℕ → Mem → List Event → Mem
finished_mem s n k es = (finish_call (fed_to s n k es) (fed_mem s n k es)).mem

abbrev pub next_mem : State → ℕ → Mem → List Event → Mem
next_mem s n k es = (next_call (finished (fed_to s n k es)) (finished_mem s n k es)).mem

-- only the lengths count
pub finishes-same : (s : State) (n : ℕ) (es : List Event) (k k' : Mem) → SameLengths k k' → finishes_in s n k es ≡ true → finishes_in s n k' es ≡ true
finishes-same s n es k k' same h = rw (same.table, lent_same k k' same) h

pub whole_same : (k k' : Mem) → SameLengths k k' → table_good k.table ≡ true → table_good k'.table ≡ true
whole_same k k' n h = rw n.table h

module _ (s : State) (n : ℕ) (k : Mem) (w : Writer) (l : List ℕ) (es : List Event) (fits : n < 4294967296) (ok : finishes_in s n k es ≡ true) (r : Reached s k w l) where
  abbrev pub end : State
  end = fed_to s n k es

  abbrev pub left : Mem
  left = fed_mem s n k es

  so_far : Fed s n k w l es
  so_far = fed es s n k w l fits (both _ _ ok).0 r

  pub done : (finish_call end left).wrote.number ≡ 0
  unfolding finish_call
  done = rw (so_far.lengths.table, lent_same k left so_far.lengths) (eqb-true _ 0 (both (takes s n (records_lent k.table) (lent_of k.pools) es) _ ok).1)

  pub finish_lengths : SameLengths k (finished_mem s n k es)
  finish_lengths =
      let kept = call_lengths end left finish_c done in
      record { table = kept.table ∙ so_far.lengths.table; pools = λ m. kept.pools m ∙ so_far.lengths.pools m }

  pub finished-is : (finish_call end left).wrote.state ≡ finished end
  unfolding finish_call
  finished-is = ap (λ r. r.state) (took-finish end left done).is

  pub finish-reached : Reached (finished end) (finished_mem s n k es) (finish (after_all w es)) (l ++ pairs_of es)
  finish-reached = rw finished-is at (accepted finish_c done so_far.reached)

  -- after the feature is finished, the next one begins
  module _ (goes : (decide_next (finished end) (records_lent k.table) (lent_of k.pools)).number ≡ 0) where
    pub goes_on : (next_call (finished end) (finished_mem s n k es)).wrote.number ≡ 0
    unfolding next_call
    goes_on = rw (finish_lengths.table, lent_same k (finished_mem s n k es) finish_lengths) goes

    pub renewed-is : (next_call (finished end) (finished_mem s n k es)).wrote.state ≡ renewed (finished end)
    unfolding next_call
    renewed-is = ap (λ r. r.state) (took-next (finished end) (finished_mem s n k es) goes_on).is

    pub next-reached : Reached (renewed (finished end)) (next_mem s n k es) (next (finish (after_all w es))) (pending_at (finished end).pending.xy (finished_mem s n k es).pools.xy)
    next-reached = rw renewed-is at (accepted next_c goes_on finish-reached)

    pub next_lengths : SameLengths k (next_mem s n k es)
    next_lengths =
        let kept = call_lengths (finished end) (finished_mem s n k es) next_c goes_on in
        record { table = kept.table ∙ finish_lengths.table; pools = λ m. kept.pools m ∙ finish_lengths.pools m }
