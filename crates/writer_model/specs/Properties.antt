-- The properties' length is kept through events and finish, and emptied by next.
use Rattle.std.specs.Prelude.{◌≡◌, refl, Bool, true, false, ℕ}
use Rattle.std.proofs.Common.{arith}
use Rattle.kinds.specs.Event.{Parsed, WellFormed, Malformed}
use Rattle.event_log.specs.Log.{heard, feature_in}
use Rattle.asking.specs.declared.typing.Typing.{Typing}
use Rattle.writing.specs.declared.state.State.{State}
use Rattle.asking.specs.SetType.{Typed}
use Rattle.asking.specs.Ask.{Added, ask, ask_of}
use Rattle.asking.specs.declared.ask.Ask.{Ask}
use Rattle.writing.specs.State.{Mem}
use Rattle.writing.specs.Calls.{state_after, event_with, event_of, event_call, finished, finish_call, renewed, next_call}
use Rattle.writer_model.specs.Took.{took-event, took-finish, took-next}
use Rattle.writer_model.specs.Call.{Call, event_c, finish_c, next_c, called}

abbrev pub properties_after : Call → ℕ → ℕ
properties_after (event_c bytes) n = n
properties_after finish_c n = n
properties_after next_c n = 0

asked_properties : (s : State) (n : ℕ) (typed : Typed) (added : Added) (part : Bool) (h : Typing) → (state_after s n (ask typed added part) h).properties ≡ s.properties
unfolding state_after
asked_properties s n typed added true h = refl
asked_properties s n typed added false h = refl

heard_properties : (s : State) (k : Mem) (n : ℕ) (p : Parsed) → (event_of s k n p).wrote.number ≡ 0 → (event_of s k n p).wrote.state.properties ≡ s.properties
unfolding event_with
heard_properties s k n Malformed q = absurd (omega arith)
heard_properties s k n (WellFormed e) q =
    let a : Ask = ask_of s.typing e in
    let t = took-event s n a k q in
    rw t.is (asked_properties s n a.typed a.added a.part t.to)

pub properties_after_lem : (s : State) (k : Mem) (c : Call) → (called s k c).wrote.number ≡ 0 → (called s k c).wrote.state.properties ≡ properties_after c s.properties
unfolding event_call finish_call finished next_call renewed
properties_after_lem s k (event_c bytes) q = heard_properties s k (feature_in bytes) (heard bytes) q
properties_after_lem s k finish_c q = rw (took-finish s k q).is
properties_after_lem s k next_c q = rw (took-next s k q).is
