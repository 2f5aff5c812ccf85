-- The number that the events of one call are to have: that of the feature in hand or, where none is, that of the first record. With that feature in hand the call comes to the same, but that the state stays as it was where nothing is taken.
use Rattle.std.specs.Prelude.{◌≡◌, Bool, true, false, cond, List, eqb, ltb, length, drop, Some, None}
use Rattle.std.proofs.Math.Path.{refl, subst}
use Rattle.std.proofs.Common.{sym, ap, ◌∙◌, arith, length-take, eq-eqb, eqb-true, ltb-true}
use Prim.Native.Nat.{ℕ, zero, suc, ◌≤◌}
use Rattle.std.proofs.lemmas.Bool.{eqb-false}
use Rattle.laws.specs.Every.{never}
use Rattle.kinds.specs.Event.{Parsed, WellFormed, Malformed}
use Rattle.kinds.specs.declared.event.Event.{Event}
use Rattle.event_log.specs.Log.{heard, feature_in, record_of, records_in}
use Rattle.event_log.specs.LogLaws.{not_whole}
use Rattle.asking.specs.declared.ask.Ask.{Ask}
use Rattle.asking.specs.SetType.{Typed}
use Rattle.asking.specs.Ask.{ask_of}
use Rattle.writing.specs.Feature.{Feature, belongs}
use Rattle.writing.specs.declared.state.State.{State}
use Rattle.writing.specs.State.{Mem, with_feature, Outcome, settled, wrote}
use Rattle.writing.specs.Calls.{state_after, decide_typed, if_due, decide_event, table_after, mem_after, event_with, event_of, event_call}
use Rattle.runs.specs.Events.{Took, Progress, took, progress, events_from, events_call, by-records}

-- less than a record has no number, and nothing of it is taken under any
abbrev pub held_by : Feature → List ℕ → ℕ
held_by None bytes = cond (ltb (length bytes) 64) 0 (feature_in (record_of bytes 0))
held_by (Some n) bytes = n

abbrev opened : State → List ℕ → State
opened s bytes = with_feature s (Some (held_by s.feature bytes))

-- ---- one event, of a feature that both states take: the same number, and the same in all where it is accepted
record Alike (o o' : Outcome) : Type 0 where
  number : o.wrote.number ≡ o'.wrote.number
  all : o.wrote.number ≡ 0 → o ≡ o'

alike : (s : State) (k : Mem) (n held : ℕ) (p : Parsed) → belongs s.feature n ≡ true → ((e : Event) → p ≡ WellFormed e → n ≡ held) → Alike (event_of s k n p) (event_of (with_feature s (Some held)) k n p)
unfolding event_with decide_event if_due state_after mem_after table_after
alike s k n held Malformed own same = record { number = refl; all = λ ok. absurd (omega (arith, ok)) }
alike s k n held (WellFormed e) own same = by_tests s.waiting (belongs s.feature n) (eqb n held) _ a.typed own (eq-eqb n held (same e refl))
  where
    a : Ask
    a = ask_of s.typing e

    t : State
    t = with_feature s (Some held)

    by_tests : (waiting mine its room : Bool) (typed : Typed) → mine ≡ true → its ≡ true
        → Alike (settled (cond waiting (wrote 15 s) (cond mine (decide_typed s n a room typed) (wrote 17 s))) k (mem_after s a e k)) (settled (cond waiting (wrote 15 t) (cond its (decide_typed t n a room typed) (wrote 17 t))) k (mem_after t a e k))
    by_tests true mine its room typed m i = record { number = refl; all = λ ok. absurd (omega (arith, ok)) }
    by_tests false false its room typed m i = absurd (never m)
    by_tests false true false room typed m i = absurd (never i)
    by_tests false true true room None m i = record { number = refl; all = λ ok. absurd (omega (arith, ok)) }
    by_tests false true true true (Some h) m i = record { number = refl; all = λ ok. refl }
    by_tests false true true false (Some h) m i = record { number = refl; all = λ ok. absurd (omega (arith, ok)) }

-- ---- a row of events goes on from where it is, and one of which nothing is taken leaves the state
record FromThere (i : ℕ) (s : State) (p : Progress) : Type 0 where
  onward : i ≤ p.took.taken
  left : p.took.taken ≡ i → p.took.state ≡ s

from-there : (bytes : List ℕ) (left i : ℕ) (s : State) (k : Mem) → FromThere i s (events_from left i bytes s k)
from-there bytes = by-records bytes (λ i s k p. FromThere i s p)
    (λ number i s k. record { onward = omega arith; left = λ is. refl })
    (λ i s k p ok later. record { onward = omega (arith, later.onward); left = λ is. absurd (omega (arith, is, later.onward)) })

-- ---- the call with its feature in hand, and the call
record Opened (s : State) (p q : Progress) : Type 0 where
  none : p.took.taken ≡ 0 → progress (took p.took.number 0 s) p.mem ≡ q
  some : (p.took.taken ≡ 0 → ⊥) → p ≡ q

module _ (s : State) (k : Mem) (bytes : List ℕ) where
  -- a feature is in hand already
  stays : (q : Progress) → FromThere 0 s q → Opened s q q
  stays q there = record { none = λ is. λ i. progress (took q.took.number (sym is i) (sym (there.left is) i)) q.mem; some = λ some. refl }

  -- none is: the first event decides
  short : ltb (length bytes) 64 ≡ true → heard (record_of bytes 0) ≡ Malformed
  short is = not_whole (record_of bytes 0) (λ long. omega (arith, long, ltb-true (length bytes) 64 is, length-take 64 (drop 0 bytes)))

  held_first : (e : Event) → heard (record_of bytes 0) ≡ WellFormed e → feature_in (record_of bytes 0) ≡ held_by None bytes
  held_first e is = by_length (ltb (length bytes) 64) refl
    where
      by_length : (b : Bool) → ltb (length bytes) 64 ≡ b → feature_in (record_of bytes 0) ≡ cond b 0 (feature_in (record_of bytes 0))
      by_length false b = refl
      by_length true b = absurd (never (let z : Malformed ≡ WellFormed e = sym (short b) ∙ is in cc))

  first : s.feature ≡ None → (left : ℕ) → Opened s (events_from left 0 bytes (with_feature s (Some (held_by None bytes))) k) (events_from left 0 bytes s k)
  unfolding events_from event_call
  first unheld zero = record { none = λ is. refl; some = λ some. absurd (some refl) }
  first unheld (suc left) = by_number (eqb o.wrote.number 0) (eqb o'.wrote.number 0) refl refl
    where
      t : State
      t = with_feature s (Some (held_by None bytes))

      o : Outcome
      o = event_call s k (record_of bytes 0)

      o' : Outcome
      o' = event_call t k (record_of bytes 0)

      both_alike : Alike o o'
      both_alike = alike s k (feature_in (record_of bytes 0)) (held_by None bytes) (heard (record_of bytes 0)) (ap (λ (f : Feature). belongs f (feature_in (record_of bytes 0))) unheld) held_first

      by_number : (b b' : Bool) → eqb o.wrote.number 0 ≡ b → eqb o'.wrote.number 0 ≡ b'
          → Opened s (cond b' (events_from left 1 bytes o'.wrote.state o'.mem) (progress (took o'.wrote.number 0 t) k)) (cond b (events_from left 1 bytes o.wrote.state o.mem) (progress (took o.wrote.number 0 s) k))
      by_number true true is is' =
          let same = both_alike.all (eqb-true o.wrote.number 0 is) in
          record { none = λ zero. absurd (omega (arith, zero, (from-there bytes left 1 o'.wrote.state o'.mem).onward)); some = λ some. ap (λ (p : Outcome). events_from left 1 bytes p.wrote.state p.mem) (sym same) }
      by_number false false is is' = record { none = λ zero. ap (λ (n : ℕ). progress (took n 0 s) k) (sym both_alike.number); some = λ some. absurd (some refl) }
      by_number true false is is' = absurd (eqb-false o'.wrote.number 0 is' (sym both_alike.number ∙ eqb-true o.wrote.number 0 is))
      by_number false true is is' = absurd (eqb-false o.wrote.number 0 is (both_alike.number ∙ eqb-true o'.wrote.number 0 is'))

  opened-is : Opened s (events_call (opened s bytes) k bytes) (events_call s k bytes)
  unfolding events_call
  opened-is = by-feature s.feature refl
    where
      by-feature : (f : Feature) → s.feature ≡ f → Opened s (events_from (records_in bytes) 0 bytes (with_feature s (Some (held_by f bytes))) k) (events_from (records_in bytes) 0 bytes s k)
      by-feature None unheld = first unheld (records_in bytes)
      by-feature (Some n) is =
          subst (λ (t : State). Opened s (events_from (records_in bytes) 0 bytes t k) (events_from (records_in bytes) 0 bytes s k)) (ap (with_feature s) is)
          (stays (events_from (records_in bytes) 0 bytes s k) (from-there bytes (records_in bytes) 0 s k))

  module _ {held : ℕ} {t : State} (number : held ≡ held_by s.feature bytes) (is-opened : t ≡ with_feature s (Some held)) {r : Took} {k' : Mem} (is : progress r k' ≡ events_call t k bytes) where
    call_is : progress r k' ≡ events_call (opened s bytes) k bytes
    call_is = is ∙ ap (λ (u : State). events_call u k bytes) (is-opened ∙ ap (λ (n : ℕ). with_feature s (Some n)) number)

    pub none_was_taken : r.taken ≡ 0 → progress (took r.number r.taken s) k' ≡ events_call s k bytes
    none_was_taken none = ap (λ (n : ℕ). progress (took r.number n s) k') none ∙ ap (λ (p : Progress). progress (took p.took.number 0 s) p.mem) call_is ∙ opened-is.none (ap (λ (p : Progress). p.took.taken) (sym call_is) ∙ none)

    pub some_was_taken : (r.taken ≡ 0 → ⊥) → progress r k' ≡ events_call s k bytes
    some_was_taken some = call_is ∙ opened-is.some (λ none. some (ap (λ (p : Progress). p.took.taken) call_is ∙ none))
