-- A call that is accepted was in its turn, and had room.
use Rattle.std.specs.Prelude.{◌≡◌, refl, Bool, true, false, cond, ℕ, ◌+◌, ◌≤◌, Some, None}
use Rattle.std.proofs.Common.{ap, arith}
use Rattle.kinds.specs.Lanes.{Lent}
use Rattle.writing.specs.declared.state.State.{State}
use Rattle.asking.specs.SetType.{Typed}
use Rattle.asking.specs.declared.ask.Ask.{Ask}
use Rattle.writing.specs.State.{records_used, wrote, Wrote}
use Rattle.writing.specs.Calls.{records_for, room_or, decide_typed, decide_event, finished, renewed, decide_finish, decide_next}
use Rattle.writing.specs.Due.{due-number}
use Rattle.asking.specs.Ask.{no_words}
use Rattle.pending.specs.Room.{Room, room_of_lem}

in_turn : (s : State) (b : Bool) (r : Wrote) → (cond b (wrote 15 s) r).number ≡ 0 → r.number ≡ 0
in_turn s true r h = absurd (omega arith)
in_turn s false r h = h

has_waited : (s : State) (b : Bool) (r : Wrote) → (cond b r (wrote 15 s)).number ≡ 0 → r.number ≡ 0
has_waited s true r h = h
has_waited s false r h = absurd (omega arith)

has_type : (s : State) (n : ℕ) (a : Ask) (room : Bool) (t : Typed) → (decide_typed s n a room t).number ≡ 0 → room ≡ true
has_type s n a room None h = absurd (omega arith)
has_type s n a true (Some t) h = refl
has_type s n a false (Some t) h = absurd (omega arith)

has_room_lem : (s after : State) (room : Bool) → (room_or s room after).number ≡ 0 → room ≡ true
has_room_lem s after true h = refl
has_room_lem s after false h = absurd (omega arith)

module _ (s : State) (records : ℕ) (pools : Lent) where
  pub event_accepted : (n : ℕ) (a : Ask) → (decide_event s n a records pools).number ≡ 0 → Room s.pending a.added (records_for s a) records pools
  unfolding decide_event
  event_accepted n a h = room_of_lem _ _ _ _ _ (has_type s n a _ a.typed (due-number s n _ h))

  pub finish_accepted : (decide_finish s records pools).number ≡ 0 → Room s.pending no_words (s.parts + 1) records pools
  unfolding decide_finish
  finish_accepted h = room_of_lem _ _ _ _ _ (has_room_lem s (finished s) _ (in_turn s s.waiting _ h))

  pub next_accepted : (decide_next s records pools).number ≡ 0 → Room s.pending no_words (s.parts + 1) records pools
  unfolding decide_next
  next_accepted h = room_of_lem _ _ _ _ _ (has_room_lem s (renewed s) _ (has_waited s s.waiting _ h))

pub part_room : (s : State) (a : Ask) {records : ℕ} {pools : Lent} → Room s.pending a.added (records_for s a) records pools → a.part ≡ true → s.parts + 2 ≤ records
part_room s a room h = omega (arith, room.table, ap (λ (b : Bool). cond b (s.parts + 2) (records_used s)) h)
