-- SPEC 6.28, 11.22, over any row of the calls that a machine links: the number that is in hand is that of the event that was accepted last, none at first and after next; and every event that was accepted since start or the last next has it.
use Rattle.std.specs.Prelude.{◌≡◌, Bool, true, false, cond, List, [], ◌∷◌, ◌++◌, ℕ, suc, ◌+◌, eqb, Some, None}
use Rattle.std.proofs.Math.Path.{refl, sym, ap}
use Rattle.std.proofs.Common.{◌∙◌, arith, eqb-true}
use Rattle.std.proofs.lemmas.Bool.{eqb-false}
use Rattle.kinds.specs.Event.{Parsed, WellFormed, Malformed}
use Rattle.kinds.specs.declared.event.Event.{Event}
use Rattle.event_log.specs.Log.{heard, feature_in, record_of, records_in}
use Rattle.writing.specs.declared.state.State.{State}
use Rattle.writing.specs.State.{Mem, Outcome}
use Rattle.writing.specs.Feature.{belongs, Feature}
use Rattle.writing.specs.Calls.{started, event_of, event_call, finish_call, next_call}
use Rattle.runs.specs.Events.{Progress, events_from, events_call, by-records}
use Rattle.writer.specs.Property.{property_call}
use Rattle.as_words.specs.Words.{state_of, words_after}
use Rattle.as_words.specs.WordLaws.{state-words}
use Rattle.as_words.specs.Stays.{started-bytes, taken-state}
use Rattle.bintolage.specs.Calls.{yes, kept_of, taken_of}
use Rattle.writer_model.specs.Call.{event_c, finish_c, next_c}
use Rattle.writer_model.specs.Numbers.{feature-after, event-own}
use Rattle.writer_model.specs.Refused.{refused as unchanged}
use Rattle.claims.specs.Row.{Call, event, events, property, finish, next, Lends, Step, took, finished, renewed, took_all, Accepted, with_events, with_property, with_finish, with_next, carried_by, heard_in, heard_from, put, leaves, accepts, Row, start, lent, call, untaken}
use Rattle.claims.specs.Linked.{call_state, put-state, untaken_state}

-- ---- which feature is in hand after steps, and that each event on the way belonged to the one in hand
abbrev pub in_hand : Feature → List Step → Feature
in_hand f [] = f
in_hand f (took n e ∷ steps) = in_hand (Some n) steps
in_hand f (finished ∷ steps) = in_hand f steps
in_hand f (renewed ∷ steps) = in_hand None steps

abbrev pub AllBelong : Feature → List Step → Type 0
AllBelong f [] = Unit {0}
AllBelong f (took n e ∷ steps) = (belongs f n ≡ true) × AllBelong (Some n) steps
AllBelong f (finished ∷ steps) = AllBelong f steps
AllBelong f (renewed ∷ steps) = AllBelong None steps

in_hand_then : (f : Feature) (first second : List Step) → in_hand f (first ++ second) ≡ in_hand (in_hand f first) second
in_hand_then f [] second = refl
in_hand_then f (took n e ∷ first) second = in_hand_then (Some n) first second
in_hand_then f (finished ∷ first) second = in_hand_then f first second
in_hand_then f (renewed ∷ first) second = in_hand_then None first second

belong_then : (f : Feature) (first second : List Step) → AllBelong f first → AllBelong (in_hand f first) second → AllBelong f (first ++ second)
belong_then f [] second h k = k
belong_then f (took n e ∷ first) second h k = (h.0, belong_then (Some n) first second h.1 k)
belong_then f (finished ∷ first) second h k = belong_then f first second h k
belong_then f (renewed ∷ first) second h k = belong_then None first second h k

-- so far: a state's feature is what the steps leave in hand
pub record OneNumber (feature : Feature) (steps : List Step) : Type 0 where
  pub held : feature ≡ in_hand None steps
  pub belong : AllBelong None steps

-- steps more, from the feature in hand on
more : {f f' : Feature} {steps : List Step} (then : List Step) → f' ≡ in_hand f then → AllBelong f then → OneNumber f steps → OneNumber f' (steps ++ then)
more {f} {f'} {steps} then held belong so_far =
    record {
      held = held ∙ ap (λ (g : Feature). in_hand g then) so_far.held ∙ sym (in_hand_then None steps then);
      belong = belong_then None steps then so_far.belong (rw so_far.held at belong);
    }

as_held : {f f' : Feature} {steps : List Step} → f' ≡ f → OneNumber f steps → OneNumber f' steps
as_held e h = rw e h

-- ---- an accepted event belongs to the feature in hand, and leaves its own number there
one-belongs : (f : Feature) (n : ℕ) (p : Parsed) → belongs f n ≡ true → AllBelong f (took_all (heard_in n p))
one-belongs f n Malformed own = tt
one-belongs f n (WellFormed e) own = (own, tt)

event-held : (s : State) (k : Mem) (n : ℕ) (p : Parsed) → (event_of s k n p).wrote.number ≡ 0 → in_hand s.feature (took_all (heard_in n p)) ≡ Some n
event-held s k n Malformed ok = absurd (omega (arith, ok))
event-held s k n (WellFormed e) ok = refl

module _ (s : State) (k : Mem) (bytes : List ℕ) (ok : (event_call s k bytes).wrote.number ≡ 0) where
  accepted_belongs : AllBelong s.feature (took_all (heard_in (feature_in bytes) (heard bytes)))
  accepted_belongs = one-belongs s.feature (feature_in bytes) (heard bytes) (event-own s k bytes ok)

  accepted_held : (event_call s k bytes).wrote.state.feature ≡ in_hand s.feature (took_all (heard_in (feature_in bytes) (heard bytes)))
  unfolding event_call
  accepted_held = feature-after s k (event_c bytes) ok ∙ sym (event-held s k (feature_in bytes) (heard bytes) ok)

-- ---- many events, up to the first that is refused
record Given (bytes : List ℕ) (i : ℕ) (s : State) (p : Progress) : Type 0 where
  count : ℕ
  counted : p.took.taken ≡ i + count
  held : p.took.state.feature ≡ in_hand s.feature (took_all (heard_from count i bytes))
  belong : AllBelong s.feature (took_all (heard_from count i bytes))

took-then : (first second : List (ℕ × Event)) → took_all (first ++ second) ≡ took_all first ++ took_all second
took-then [] second = refl
took-then (e ∷ first) second = ap (λ (l : List Step). took e.0 e.1 ∷ l) (took-then first second)

given-from : (bytes : List ℕ) (left i : ℕ) (s : State) (k : Mem) → Given bytes i s (events_from left i bytes s k)
given-from bytes = by-records bytes (λ i s k p. Given bytes i s p)
    (λ number i s k. record { count = 0; counted = omega arith; held = refl; belong = tt })
    (λ i s k p ok g.
    let here : List (ℕ × Event) = heard_in (feature_in (record_of bytes i)) (heard (record_of bytes i)) in
    let rest : List (ℕ × Event) = heard_from g.count (i + 1) bytes in
    let now = accepted_held s k (record_of bytes i) ok in
    record {
      count = suc g.count;
      counted = omega (arith, g.counted);
      held = g.held ∙ ap (λ (f : Feature). in_hand f (took_all rest)) now ∙ sym (in_hand_then s.feature (took_all here) (took_all rest)) ∙ ap (in_hand s.feature) (sym (took-then here rest));
      belong = rw (took-then here rest) (belong_then s.feature (took_all here) (took_all rest) (accepted_belongs s k (record_of bytes i) ok) (rw now at g.belong));
    })

-- ---- any row
module _ (declared detect promote : ℕ) where
  module _ (words : List ℕ) (l : Lends) (a : Accepted) (so_far : OneNumber (state_of words).feature a.steps) where
    abbrev Then : Call → Type 0
    Then c = OneNumber (state_of (leaves words l c).words).feature (accepts words l c a).steps

    stays : {s : State} → s ≡ state_of words → OneNumber s.feature a.steps
    stays e = as_held (ap (λ (s : State). s.feature) e) so_far

    events-then : (bytes : List ℕ) → Then (events bytes)
    unfolding taken_of events_call
    events-then bytes =
        let g = given-from bytes (records_in bytes) 0 (state_of words) l.mem in
        let counted : (events_call (state_of words) l.mem bytes).took.taken ≡ g.count = omega (arith, g.counted) in
        rw counted (more (took_all (heard_from g.count 0 bytes)) (ap (λ (s : State). s.feature) (taken-state words bytes l.mem) ∙ g.held) g.belong so_far)

    call_then : (c : Call) → Then c
    unfolding kept_of property_call
    call_then (event bytes) = go (eqb o.wrote.number 0) refl
      where
        o : Outcome
        o = event_call (state_of words) l.mem bytes

        state : state_of (words_after words o.wrote) ≡ o.wrote.state
        state = call_state words l.mem (event_c bytes)

        go : (b : Bool) → eqb o.wrote.number 0 ≡ b → OneNumber (state_of (words_after words o.wrote)).feature (cond b (with_events a (heard_in (feature_in bytes) (heard bytes))) a).steps
        go true is =
            let ok = eqb-true o.wrote.number 0 is in
            more (took_all (heard_in (feature_in bytes) (heard bytes))) (ap (λ (s : State). s.feature) state ∙ accepted_held (state_of words) l.mem bytes ok) (accepted_belongs (state_of words) l.mem bytes ok) so_far
        go false is = stays (state ∙ (unchanged (state_of words) l.mem (event_c bytes) (eqb-false o.wrote.number 0 is)).state)
    call_then (events bytes) = events-then bytes
    call_then (property p) = go (eqb (put words p l.buffer).number 0)
      where
        go : (b : Bool) → OneNumber (state_of (words_after words (put words p l.buffer))).feature (cond b (with_property a p) a).steps
        go true = as_held (ap (λ (s : State). s.feature) (put-state words p l.buffer)) so_far
        go false = as_held (ap (λ (s : State). s.feature) (put-state words p l.buffer)) so_far
    call_then finish = go (eqb o.wrote.number 0) refl
      where
        o : Outcome
        o = finish_call (state_of words) l.mem

        state : state_of (words_after words o.wrote) ≡ o.wrote.state
        state = call_state words l.mem finish_c

        go : (b : Bool) → eqb o.wrote.number 0 ≡ b → OneNumber (state_of (words_after words o.wrote)).feature (cond b (with_finish a) a).steps
        go true is = more (finished ∷ []) (ap (λ (s : State). s.feature) state ∙ feature-after (state_of words) l.mem finish_c (eqb-true o.wrote.number 0 is)) tt so_far
        go false is = stays (state ∙ (unchanged (state_of words) l.mem finish_c (eqb-false o.wrote.number 0 is)).state)
    call_then next = go (eqb o.wrote.number 0) refl
      where
        o : Outcome
        o = next_call (state_of words) l.mem

        state : state_of (words_after words o.wrote) ≡ o.wrote.state
        state = call_state words l.mem next_c

        go : (b : Bool) → eqb o.wrote.number 0 ≡ b → OneNumber (state_of (words_after words o.wrote)).feature (cond b (with_next a (carried_by words l.mem)) a).steps
        go true is = more (renewed ∷ []) (ap (λ (s : State). s.feature) state ∙ feature-after (state_of words) l.mem next_c (eqb-true o.wrote.number 0 is)) tt so_far
        go false is = stays (state ∙ (unchanged (state_of words) l.mem next_c (eqb-false o.wrote.number 0 is)).state)

  -- after any row: what the state holds, and that no two events of one feature have two numbers
  pub linked_number : {words : List ℕ} {l : Lends} {a : Accepted} → Row declared detect promote words l a → OneNumber (state_of words).feature a.steps
  unfolding started
  linked_number (start l small) = record { held = ap (λ (s : State). s.feature) (state-words (started declared (yes detect) (yes promote)) (started-bytes declared (yes detect) (yes promote) small)); belong = tt }
  linked_number (lent l' same row) = linked_number row
  linked_number (call {words} {l} {a} c row) = call_then words l a (linked_number row) c
  linked_number (untaken {words} l' c nay row) = as_held (ap (λ (s : State). s.feature) (untaken_state words l' c nay)) (linked_number row)
