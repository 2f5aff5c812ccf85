-- A refused call changes nothing, and is refused with the number of the lists' writer, for the feature in hand, or for want of room.
use Rattle.std.specs.Prelude.{None, Some, ◌≡◌, refl, true, false, ℕ, ◌+◌, leb, ltb, eqb}
use Rattle.std.proofs.Math.Path.{sym, ap}
use Rattle.std.proofs.Common.{◌∙◌}
use Rattle.std.proofs.Math.Bool.{Bool, cond}
use Rattle.kinds.specs.declared.event.Event.{Event}
use Rattle.kinds.specs.Event.{Parsed, WellFormed, Malformed}
use Rattle.event_log.specs.Log.{heard, feature_in}
use Rattle.writing.specs.declared.state.State.{State}
use Rattle.asking.specs.SetType.{Typed, typed_number}
use Rattle.asking.specs.declared.ask.Ask.{Ask}
use Rattle.writing.specs.State.{Mem, Outcome, outcome, wrote}
use Rattle.writing.specs.Feature.{belongs}
use Rattle.writing.specs.Refused.{event_unchanged, finish_unchanged, next_unchanged}
use Rattle.asking.specs.Ask.{no_words, ask_of, begun}
use Rattle.writing.specs.Calls.{records_for, state_after, room_or, decide_typed, if_due, decide_event, event_with, event_of, event_call, finished, decide_finish, finish_call, renewed, decide_next, next_call}
use Rattle.writer_model.specs.Writer.{Writer, waits, nay}
use Rattle.writer_model.specs.Stands.{Stands}
use Rattle.writer_model.specs.Took.{room}
use Rattle.writer_model.specs.Asked.{ask_by}
use Rattle.writer_model.specs.Call.{Call, event_c, finish_c, next_c, called, nay_heard, nay_call, answer}

-- ---- nothing changes
pub record Unchanged (s : State) (k : Mem) (o : Outcome) : Type 0 where
  pub state : o.wrote.state ≡ s
  pub mem : o.mem ≡ k

unchanged : {s : State} {k : Mem} {o : Outcome} → o ≡ outcome (wrote o.wrote.number s) k → Unchanged s k o
unchanged e = record { state = ap (λ (o : Outcome). o.wrote.state) e; mem = ap (λ (o : Outcome). o.mem) e }

pub refused : (s : State) (k : Mem) (c : Call) → ((called s k c).wrote.number ≡ 0 → ⊥) → Unchanged s k (called s k c)
refused s k (event_c bytes) h = unchanged (event_unchanged s k bytes h)
refused s k finish_c h = unchanged (finish_unchanged s k h)
refused s k next_c h = unchanged (next_unchanged s k h)

-- ---- the numbers
nay-is : (w : Writer) (e : Event) → nay w e ≡ cond (waits w) 15 (typed_number (ask_of w.typing e).typed)
unfolding nay ask_of
nay-is w e = go (ltb e.kind 32) (leb 64 e.kind) (eqb e.kind 33) (eqb e.kind 34) (eqb e.kind 35) (eqb e.kind 39)
  where
    go : (b x i j k l : Bool) → cond (waits w) 15 (cond b (typed_number (begun w.typing e)) 0) ≡ cond (waits w) 15 (typed_number (ask_by w.typing e b x i j k l).typed)
    go true x i j k l = refl
    go false true i j k l = refl
    go false false true j k l = refl
    go false false false true k l = refl
    go false false false false true l = refl
    go false false false false false true = refl
    go false false false false false false = refl

room-number : (s t : State) (b : Bool) → (room_or s b t).number ≡ cond b 0 12
room-number s t true = refl
room-number s t false = refl

-- the lists' writer says 15 by itself where it waits, so the turn is asked for twice
typed-number : (s : State) (n : ℕ) (a : Ask) (b own r : Bool) (o : Typed) → (cond b (wrote 15 s) (cond own (decide_typed s n a r o) (wrote 17 s))).number ≡ answer (cond b 15 (cond own (cond b 15 (typed_number o)) 17)) r
typed-number s n a true own r o = refl
typed-number s n a false false r o = refl
typed-number s n a false true r None = refl
typed-number s n a false true r (Some h) = room-number s (state_after s n a h) r

module _ (s : State) (k : Mem) (w : Writer) (h : Stands s k w) where
  heard-number : (n : ℕ) (p : Parsed) → (r : Bool) × ((event_of s k n p).wrote.number ≡ answer (nay_heard s.feature n w p) r)
  unfolding event_with decide_event if_due
  heard-number n Malformed = (true, refl)
  heard-number n (WellFormed e) =
      let a : Ask = ask_of s.typing e in
      let own : Bool = belongs s.feature n in
      let r : Bool = room s.pending a.added (records_for s a) k in
      let says : cond s.waiting 15 (typed_number a.typed) ≡ nay w e = sym (nay-is w e ∙ rw (h.typing, h.waiting)) in
      (r, typed-number s n a s.waiting own r a.typed ∙ ap (λ (m : ℕ). answer (cond s.waiting 15 (cond own m 17)) r) says ∙ ap (λ (b : Bool). answer (cond b 15 (cond own (nay w e) 17)) r) h.waiting)

  turn-number : (b r : Bool) (t : State) → (cond b (wrote 15 s) (room_or s r t)).number ≡ answer (cond b 15 0) r
  turn-number true r t = refl
  turn-number false r t = room-number s t r

  wait_number : (b r : Bool) (t : State) → (cond b (room_or s r t) (wrote 15 s)).number ≡ answer (cond b 0 15) r
  wait_number true r t = room-number s t r
  wait_number false r t = refl

  pub number_is : (c : Call) → (r : Bool) × ((called s k c).wrote.number ≡ answer (nay_call s.feature w c) r)
  unfolding event_call finish_call decide_finish next_call decide_next
  number_is (event_c bytes) = heard-number (feature_in bytes) (heard bytes)
  number_is finish_c = let r : Bool = room s.pending no_words (s.parts + 1) k in (r, rw (← h.waiting) (turn-number s.waiting r (finished s)))
  number_is next_c = let r : Bool = room s.pending no_words (s.parts + 1) k in (r, rw (← h.waiting) (wait_number s.waiting r (renewed s)))
