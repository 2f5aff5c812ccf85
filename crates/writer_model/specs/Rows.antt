-- Any row of calls from start, accepted and refused, over any number of features: the memory stands for the writer on lists, and the accepted pairs are in it.
use Rattle.std.specs.Prelude.{◌≡◌, Bool, ℕ}
use mathlib.Core.List.{List, [], ◌++◌}
use Rattle.kinds.specs.Event.{Parsed, WellFormed, Malformed}
use Rattle.event_log.specs.Log.{heard}
use Rattle.writing.specs.declared.state.State.{State}
use Rattle.writing.specs.State.{Mem, with_properties}
use Rattle.writing.specs.Calls.{started}
use Rattle.writer_model.specs.Writer.{Writer, fresh}
use Rattle.writer_model.specs.Stands.{Agrees}
use Rattle.writer_model.specs.Call.{Call, event_c, finish_c, next_c, called, after_call}
use Rattle.writer_model.specs.Pairs.{pair_of, pending_at}

abbrev pub pair_in : Parsed → List ℕ
pair_in Malformed = []
pair_in (WellFormed e) = pair_of e

-- the pairs carried in by the last next, and then those accepted; next carries in what is pending
abbrev pub pairs_after : State → Mem → Call → List ℕ → List ℕ
pairs_after s k (event_c bytes) l = l ++ pair_in (heard bytes)
pairs_after s k finish_c l = l
pairs_after s k next_c l = pending_at s.pending.xy k.pools.xy

-- ---- any row: between calls all that the state does not use of the memory may change, and properties may be written; a refused call may be lent anything
pub data Reached : State → Mem → Writer → List ℕ → Type 0 where
  start : (declared : ℕ) (detect promote : Bool) (k : Mem) → Reached (started declared detect promote) k (fresh declared detect promote) []
  lent : {s : State} {k : Mem} {w : Writer} {l : List ℕ} (m : Mem) → Agrees s k m → Reached s k w l → Reached s m w l
  accepted : {s : State} {k : Mem} {w : Writer} {l : List ℕ} (c : Call) → (called s k c).wrote.number ≡ 0 → Reached s k w l → Reached (called s k c).wrote.state (called s k c).mem (after_call w c) (pairs_after s k c l)
  property : {s : State} {k : Mem} {w : Writer} {l : List ℕ} (n : ℕ) → Reached s k w l → Reached (with_properties s n) k w l
  refusal : {s : State} {k : Mem} {w : Writer} {l : List ℕ} (m : Mem) (c : Call) → ((called s m c).wrote.number ≡ 0 → ⊥) → Reached s k w l → Reached (called s m c).wrote.state k w l
