-- Room for what a state uses, asked for once, and room for what one event adds, asked for apart: together they are the test of SPEC 6.19.
use Rattle.std.specs.Prelude.{◌≡◌, refl, Bool, true, false, cond, not, ◌||◌, List, ℕ, ◌+◌, ◌≤◌, eqb, Some, None}
use Rattle.std.proofs.Common.{ap, arith}
use Rattle.std.proofs.lemmas.Bool.{not-true}
use Rattle.laws.specs.Every.{both}
use Rattle.kinds.specs.Event.{Parsed, WellFormed, Malformed}
use Rattle.kinds.specs.Lanes.{Lent}
use Rattle.store.specs.Lists.{lent_of}
use Rattle.event_log.specs.Log.{heard, feature_in}
use Rattle.store.specs.Records.{records_lent}
use Rattle.asking.specs.declared.ask.Ask.{Ask}
use Rattle.asking.specs.SetType.{Typed}
use Rattle.writing.specs.declared.state.State.{State}
use Rattle.writing.specs.State.{records_used, Mem}
use Rattle.writing.specs.Due.{was_due, due-number}
use Rattle.asking.specs.Ask.{no_words, ask_of}
use Rattle.pending.specs.Room.{has_room, room_of_lem, has_room_of, room-before, and_true}
use Rattle.writing.specs.Calls.{is_ready, records_for, decide_typed, decide_event, event_with, event_of, event_call}
use Rattle.writing.specs.Ready.{Ready}

-- a part's record stands above those that are used
pub used-before : (s : State) (part : Bool) → records_used s ≤ cond part (s.parts + 2) (records_used s)
used-before s true = fewer (s.waiting || not (eqb s.parts 0))
  where
    fewer : (b : Bool) → cond b (s.parts + 1) 0 ≤ s.parts + 2
    fewer true = omega arith
    fewer false = omega arith
used-before s false = omega arith

-- ---- the test of readiness, and what it tells
pub ready_of : (s : State) (records : ℕ) (pools : Lent) → is_ready s records pools ≡ true → Ready s records pools
ready_of s records pools h =
    let t = both (not s.waiting) (has_room s.pending no_words (records_used s) records pools) h in
    record { turn = not-true s.waiting t.0; room = room_of_lem _ _ _ _ _ t.1 }

pub is-ready : (s : State) (records : ℕ) (pools : Lent) → Ready s records pools → is_ready s records pools ≡ true
is-ready s records pools r = and_true (ap not r.turn) (has_room_of _ _ _ _ _ r.room)

-- an event that is accepted found the writer ready
pub was_ready : (s : State) (k : Mem) (bytes : List ℕ) → (event_call s k bytes).wrote.number ≡ 0 → is_ready s (records_lent k.table) (lent_of k.pools) ≡ true
unfolding event_call event_with decide_event
was_ready s k bytes = by_record (feature_in bytes) (heard bytes)
  where
    by_case : (n : ℕ) (a : Ask) (room : Bool) (t : Typed) → has_room s.pending a.added (records_for s a) (records_lent k.table) (lent_of k.pools) ≡ room
        → (decide_typed s n a room t).number ≡ 0 → has_room s.pending no_words (records_used s) (records_lent k.table) (lent_of k.pools) ≡ true
    by_case n a room None has ok = absurd (omega (arith, ok))
    by_case n a false (Some h) has ok = absurd (omega (arith, ok))
    by_case n a true (Some h) has ok = room-before s.pending a.added (records_used s) (records_for s a) _ _ (used-before s a.part) has

    by_record : (n : ℕ) (p : Parsed) → (event_of s k n p).wrote.number ≡ 0 → is_ready s (records_lent k.table) (lent_of k.pools) ≡ true
    by_record n Malformed ok = absurd (omega (arith, ok))
    by_record n (WellFormed e) ok = and_true (ap not (was_due s n _ ok).turn) (by_case n (ask_of s.typing e) _ (ask_of s.typing e).typed refl (due-number s n _ ok))
