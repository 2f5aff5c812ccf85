-- A refused call changes neither the state nor any lent list.
use Rattle.std.specs.Prelude.{◌≡◌, refl, Bool, true, false, cond, List, ℕ, ◌+◌, Some, None}
use Rattle.std.proofs.Common.{ap, ne_eqb}
use Rattle.kinds.specs.Event.{Parsed}
use Rattle.kinds.specs.Event.{WellFormed, Malformed}
use Rattle.kinds.specs.Lanes.{Lent}
use Rattle.event_log.specs.Log.{heard, feature_in}
use Rattle.writing.specs.declared.state.State.{State}
use Rattle.asking.specs.SetType.{Typed}
use Rattle.asking.specs.declared.ask.Ask.{Ask}
use Rattle.writing.specs.State.{Mem, Outcome, outcome, settled, wrote, Wrote}
use Rattle.writing.specs.Due.{each-due}
use Rattle.asking.specs.Ask.{no_words, ask_of}
use Rattle.pending.specs.Room.{has_room}
use Rattle.writing.specs.Calls.{records_for, state_after, room_or, decide_typed, decide_event, event_with, event_of, event_call, finished, decide_finish, finish_call, renewed, decide_next, next_call}

-- an answer other than 0 hands the state back as it was
abbrev Kept : State → Wrote → Type 0
Kept s r = (r.number ≡ 0 → ⊥) → r ≡ wrote r.number s

abbrev pub Unchanged : State → Mem → Outcome → Type 0
Unchanged s k o = (o.wrote.number ≡ 0 → ⊥) → o ≡ outcome (wrote o.wrote.number s) k

room-kept : (s after : State) (room : Bool) → Kept s (room_or s room after)
room-kept s after true h = absurd (h refl)
room-kept s after false h = refl

typed-kept : (s : State) (n : ℕ) (a : Ask) (room : Bool) (t : Typed) → Kept s (decide_typed s n a room t)
typed-kept s n a room None h = refl
typed-kept s n a room (Some t) h = room-kept s (state_after s n a t) room h

turn-kept : (s : State) (b : Bool) (r : Wrote) → Kept s r → Kept s (cond b (wrote 15 s) r)
turn-kept s true r kept h = refl
turn-kept s false r kept h = kept h

wait_kept : (s : State) (b : Bool) (r : Wrote) → Kept s r → Kept s (cond b r (wrote 15 s))
wait_kept s true r kept h = kept h
wait_kept s false r kept h = refl

settled-kept : (s : State) (r : Wrote) (k after : Mem) → Kept s r → Unchanged s k (settled r k after)
settled-kept s r k after kept h = rw (ne_eqb r.number 0 h) (ap (λ (w : Wrote). outcome w k) (kept h))

event-kept : (s : State) (n : ℕ) (a : Ask) (records : ℕ) (pools : Lent) → Kept s (decide_event s n a records pools)
unfolding decide_event
event-kept s n a records pools = each-due s n _ (Kept s) (λ h. refl) (λ h. refl) (typed-kept s n a (has_room s.pending a.added (records_for s a) records pools) a.typed)

finish-kept : (s : State) (records : ℕ) (pools : Lent) → Kept s (decide_finish s records pools)
unfolding decide_finish
finish-kept s records pools h = turn-kept s s.waiting _ (room-kept s (finished s) (has_room s.pending no_words (s.parts + 1) records pools)) h

next-kept : (s : State) (records : ℕ) (pools : Lent) → Kept s (decide_next s records pools)
unfolding decide_next
next-kept s records pools h = wait_kept s s.waiting _ (room-kept s (renewed s) (has_room s.pending no_words (s.parts + 1) records pools)) h

pub event_unchanged : (s : State) (k : Mem) (bytes : List ℕ) → Unchanged s k (event_call s k bytes)
unfolding event_call event_with
event_unchanged s k bytes = by_record (feature_in bytes) (heard bytes)
  where
    by_record : (n : ℕ) (p : Parsed) → Unchanged s k (event_of s k n p)
    by_record n Malformed h = refl
    by_record n (WellFormed e) h = settled-kept s (decide_event s n (ask_of s.typing e) _ _) k _ (event-kept s n (ask_of s.typing e) _ _) h

pub finish_unchanged : (s : State) (k : Mem) → Unchanged s k (finish_call s k)
unfolding finish_call
finish_unchanged s k h = settled-kept s (decide_finish s _ _) k _ (finish-kept s _ _) h

pub next_unchanged : (s : State) (k : Mem) → Unchanged s k (next_call s k)
unfolding next_call
next_unchanged s k h = settled-kept s (decide_next s _ _) k _ (next-kept s _ _) h
