-- A call: an event's bytes, finish or next. On lent memory, and on lists.
use Rattle.std.specs.Prelude.{Bool, cond, List, ℕ, eqb}
use Rattle.kinds.specs.Event.{Parsed, WellFormed, Malformed}
use Rattle.event_log.specs.Log.{heard, feature_in}
use Rattle.writing.specs.Feature.{Feature, belongs}
use Rattle.writing.specs.declared.state.State.{State}
use Rattle.writing.specs.State.{Mem, Outcome}
use Rattle.writing.specs.Calls.{event_call, finish_call, next_call}
use Rattle.writer_model.specs.Writer.{Writer, waits, after, nay, finish, next}

pub data Call : Type 0 where
  event_c : List ℕ → Call
  finish_c next_c : Call

abbrev pub called : State → Mem → Call → Outcome
called s k (event_c bytes) = event_call s k bytes
called s k finish_c = finish_call s k
called s k next_c = next_call s k

-- what an accepted one makes of a writer
abbrev pub hears : Writer → Parsed → Writer
hears w Malformed = w
hears w (WellFormed e) = after w e

abbrev pub after_call : Writer → Call → Writer
after_call w (event_c bytes) = hears w (heard bytes)
after_call w finish_c = finish w
after_call w next_c = next w

-- the number with which a writer that has f in hand, or no feature, refuses what it hears under number n, but for want of room
abbrev pub nay_heard : Feature → ℕ → Writer → Parsed → ℕ
nay_heard f n w Malformed = 11
nay_heard f n w (WellFormed e) = cond (waits w) 15 (cond (belongs f n) (nay w e) 17)

abbrev pub nay_call : Feature → Writer → Call → ℕ
nay_call f w (event_c bytes) = nay_heard f (feature_in bytes) w (heard bytes)
nay_call f w finish_c = cond (waits w) 15 0
nay_call f w next_c = cond (waits w) 0 15

-- with the room there is
abbrev pub answer : ℕ → Bool → ℕ
answer number room = cond (eqb number 0) (cond room 0 12) number
