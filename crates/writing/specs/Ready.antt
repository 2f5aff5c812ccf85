-- What an accepted event leaves: a writer in its turn, with room for all that it uses.
use Rattle.std.specs.Prelude.{◌≡◌, Bool, cond, not, ◌||◌, List, ℕ, ◌+◌, ◌≤◌, eqb, Some, None}
use Rattle.std.proofs.Math.Path.{refl, subst}
use Rattle.std.proofs.Common.{sym, arith}
use Rattle.std.proofs.Math.Bool.{true, false}
use Rattle.kinds.specs.Lanes.{usable, lent_in, Lent}
use Rattle.kinds.specs.Event.{Parsed, WellFormed, Malformed}
use Rattle.store.specs.Lists.{lent_of}
use Rattle.event_log.specs.Log.{heard, feature_in}
use Rattle.store.specs.Records.{records_lent}
use Rattle.asking.specs.declared.typing.Typing.{Typing}
use Rattle.pending.specs.Words.{Pending}
use Rattle.writing.specs.declared.state.State.{State}
use Rattle.asking.specs.SetType.{Typed}
use Rattle.asking.specs.declared.ask.Ask.{Ask}
use Rattle.writing.specs.State.{with_typing, with_parts, with_feature, with_pending, records_used, Mem, Wrote}
use Rattle.writing.specs.Due.{was_due, is-due, due-number}
use Rattle.pending.specs.Growth.{grown_all, past_all}
use Rattle.asking.specs.Ask.{no_words, ask_of}
use Rattle.pending.specs.Room.{has_room, Room, room_of_lem, grown_within, past_within}
use Rattle.writing.specs.Calls.{records_for, state_after, decide_typed, decide_event, event_with, event_of, event_call}

pub record Ready (s : State) (records : ℕ) (pools : Lent) : Type 0 where
  pub turn : s.waiting ≡ false
  pub room : Room s.pending no_words (records_used s) records pools

pub same-ready : {s s' : State} {records records' : ℕ} {pools pools' : Lent} → s ≡ s' → records ≡ records' → pools ≡ pools' → Ready s records pools → Ready s' records' pools'
same-ready a b c ready = rw (← a, ← b, ← c) ready

none_or_some : (b : Bool) (n : ℕ) → cond b n 0 ≤ n
none_or_some true n = omega arith
none_or_some false n = omega arith

module _ (s : State) (n : ℕ) (a : Ask) (records : ℕ) (pools : Lent) where
  after-ready : (h : Typing) → s.waiting ≡ false → Room s.pending a.added (records_for s a) records pools → Ready (state_after s n a h) records pools
  unfolding state_after
  after-ready h turn room = by_part a.part room
    where
      grown : Pending
      grown = grown_all s.pending a.added

      then : State
      then = with_feature (with_typing s h) (Some n)

      by_part : (b : Bool) → Room s.pending a.added (cond b (s.parts + 2) (records_used s)) records pools
          → Ready (cond b (with_parts (with_pending then (past_all grown)) (s.parts + 1)) (with_pending then grown)) records pools
      by_part true r =
          let few = none_or_some (s.waiting || not (eqb (s.parts + 1) 0)) (s.parts + 1 + 1) in
          record {
            turn = turn;
            room = record {
              table = omega (arith, few, r.table);
              records_fit = omega (arith, few, r.records_fit);
              words = past_within grown (lent_in pools) (grown_within s.pending a.added (lent_in pools) r.words);
              fits = past_within grown usable (grown_within s.pending a.added usable r.fits);
            };
          }
      by_part false r =
          record {
            turn = turn;
            room = record {
              table = r.table;
              records_fit = r.records_fit;
              words = grown_within s.pending a.added (lent_in pools) r.words;
              fits = grown_within s.pending a.added usable r.fits;
            };
          }

  decided-ready : (decide_event s n a records pools).number ≡ 0 → Ready (decide_event s n a records pools).state records pools
  unfolding decide_event
  decided-ready ok =
      subst (λ (w : Wrote). Ready w.state records pools) (sym (is-due s n _ ok))
      (by_case (has_room s.pending a.added (records_for s a) records pools) a.typed (was_due s n _ ok).turn refl (due-number s n _ ok))
    where
      by_case : (room : Bool) (t : Typed) → s.waiting ≡ false → has_room s.pending a.added (records_for s a) records pools ≡ room
          → (decide_typed s n a room t).number ≡ 0 → Ready (decide_typed s n a room t).state records pools
      by_case room None turn has ok = absurd (omega arith)
      by_case false (Some h) turn has ok = absurd (omega arith)
      by_case true (Some h) turn has ok = after-ready h turn (room_of_lem _ _ _ _ _ has)

pub event-ready : (s : State) (k : Mem) (bytes : List ℕ) → (event_call s k bytes).wrote.number ≡ 0 → Ready (event_call s k bytes).wrote.state (records_lent k.table) (lent_of k.pools)
unfolding event_call event_with
event-ready s k bytes = by_record (feature_in bytes) (heard bytes)
  where
    by_record : (n : ℕ) (p : Parsed) → (event_of s k n p).wrote.number ≡ 0 → Ready (event_of s k n p).wrote.state (records_lent k.table) (lent_of k.pools)
    by_record n Malformed ok = absurd (omega arith)
    by_record n (WellFormed e) ok = decided-ready s n (ask_of s.typing e) (records_lent k.table) (lent_of k.pools) ok
