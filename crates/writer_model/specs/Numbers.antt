-- The feature in hand: an accepted event is of it, and leaves its own number in hand; finish keeps it, and next lets it go. An event of another feature is refused with 17.
use Rattle.std.specs.Prelude.{None, Some, ◌≡◌, Bool, true, false, cond, List, ℕ}
use Rattle.std.proofs.Common.{sym, ap, ◌∙◌, arith}
use Rattle.kinds.specs.Event.{Parsed, WellFormed, Malformed}
use Rattle.kinds.specs.declared.event.Event.{Event}
use Rattle.event_log.specs.Log.{heard, feature_in}
use Rattle.writing.specs.Feature.{Feature, belongs}
use Rattle.writing.specs.declared.state.State.{State}
use Rattle.asking.specs.declared.ask.Ask.{Ask}
use Rattle.writing.specs.State.{Mem, Outcome}
use Rattle.asking.specs.Ask.{ask_of}
use Rattle.writing.specs.Ends.{another_feature}
use Rattle.writing.specs.Other.{after-held}
use Rattle.writing.specs.Calls.{event_with, event_of, event_call, finished, finish_call, renewed, next_call}
use Rattle.writer_model.specs.Took.{took-event, took-finish, took-next}
use Rattle.writer_model.specs.Call.{Call, event_c, finish_c, next_c, called}

abbrev pub feature_after : Call → Feature → Feature
feature_after (event_c bytes) f = Some (feature_in bytes)
feature_after finish_c f = f
feature_after next_c f = None

module _ (s : State) (k : Mem) where
  heard-feature : (n : ℕ) (p : Parsed) → (event_of s k n p).wrote.number ≡ 0 → (event_of s k n p).wrote.state.feature ≡ Some n
  unfolding event_with
  heard-feature n Malformed q = absurd (omega arith)
  heard-feature n (WellFormed e) q =
      let a : Ask = ask_of s.typing e in
      let t = took-event s n a k q in
      rw t.is (after-held s n a t.to)

  pub feature-after : (c : Call) → (called s k c).wrote.number ≡ 0 → (called s k c).wrote.state.feature ≡ feature_after c s.feature
  unfolding event_call finish_call finished next_call renewed
  feature-after (event_c bytes) q = heard-feature (feature_in bytes) (heard bytes) q
  feature-after finish_c q = rw (took-finish s k q).is
  feature-after next_c q = rw (took-next s k q).is

  heard-own : (n : ℕ) (p : Parsed) → (event_of s k n p).wrote.number ≡ 0 → belongs s.feature n ≡ true
  unfolding event_with
  heard-own n Malformed q = absurd (omega arith)
  heard-own n (WellFormed e) q = (took-event s n (ask_of s.typing e) k q).own

  -- an accepted event is of the feature in hand
  pub event-own : (bytes : List ℕ) → (called s k (event_c bytes)).wrote.number ≡ 0 → belongs s.feature (feature_in bytes) ≡ true
  unfolding event_call
  event-own bytes q = heard-own (feature_in bytes) (heard bytes) q

  pub event-other : (bytes : List ℕ) (e : Event) → heard bytes ≡ WellFormed e → s.waiting ≡ false → belongs s.feature (feature_in bytes) ≡ false → (called s k (event_c bytes)).wrote.number ≡ 17
  event-other bytes e hears going differs = ap (λ (o : Outcome). o.wrote.number) (sym (another_feature s k e bytes hears differs)) ∙ ap (λ (waits : Bool). cond waits 15 17) going
