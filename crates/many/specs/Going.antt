-- A call amid its records, which are to be of one feature: what is left to do, from the state and the memory as they are, comes to what the call comes to.
use Rattle.std.specs.Prelude.{Result, ◌≡◌, refl, Bool, true, false, cond, List, ℕ, suc, ◌+◌, ◌-◌, ◌*◌, ◌/◌, ◌%◌, ◌≤◌, ◌<◌, eqb, length, drop, Some}
use Rattle.std.proofs.Common.{Ok, Err, sym, subst, ◌∙◌, arith, length-drop, length-take, take_all, eqb-true}
use Rattle.std.proofs.Math.Path.{ap}
use Rattle.std.proofs.lemmas.Bool.{eqb-false}
use Rattle.kinds.specs.Event.{Malformed}
use Rattle.kinds.specs.Lanes.{Lent}
use Rattle.kinds.specs.Refusal.{number_of, refused}
use Rattle.kinds.specs.declared.refusal.Refusal.{Refusal}
use Rattle.store.specs.Lists.{lent_of}
use Rattle.event_log.specs.Log.{heard, rest_number, record_of, records_in}
use Rattle.event_log.specs.LogLaws.{not_whole}
use Rattle.store.specs.Records.{records_lent}
use Rattle.runs.specs.Events.{Took, Progress, took, progress, events_from, events_call, none_left, went_on, stopped}
use Rattle.pending.specs.Words.{Pending}
use Rattle.writing.specs.declared.state.State.{State}
use Rattle.writing.specs.State.{wrote_of, Wrote, Mem, memory, with_feature, with_pending, Outcome, outcome, wrote}
use Rattle.writing.specs.Calls.{is_ready, event_call}
use Rattle.writing.specs.Apart.{is-ready, was_ready}
use Rattle.writing.specs.Ends.{malformed}
use Rattle.runs.specs.Plain.{blocked_by, blocked_refuses, amid}
use Rattle.writing.specs.Ready.{same-ready, event-ready}
use Rattle.writing.specs.Refused.{event_unchanged}
use Rattle.runs.specs.Run.{Values, mem_with, Run, BlockedAt}

pub record Going (bytes : List ℕ) (held : ℕ) (s₀ : State) (k₀ : Mem) (ready : Bool) (taken : ℕ) (s : State) (k : Mem) : Type 0 where
  pub in_hand_lem : s.feature ≡ Some held
  pub within : taken ≤ length bytes / 64
  pub table : length k.table ≡ length k₀.table
  pub pools : lent_of k.pools ≡ lent_of k₀.pools
  pub tells : is_ready s (records_lent k.table) (lent_of k.pools) ≡ ready
  pub rest : events_from (records_in bytes - taken) taken bytes s k ≡ events_call s₀ k₀ bytes

pub begun : (bytes : List ℕ) {held : ℕ} (s : State) (k : Mem) {records : ℕ} {pools : Lent} {ready : Bool} → s.feature ≡ Some held → records ≡ records_lent k.table → pools ≡ lent_of k.pools → ready ≡ is_ready s records pools → Going bytes held s k ready 0 s k
unfolding events_call
begun bytes s k in_hand_lem records words tells =
    let all : records_in bytes - 0 ≡ records_in bytes = omega arith in
    record { in_hand_lem = in_hand_lem; within = omega arith; table = refl; pools = refl; tells = sym (tells ∙ (λ i. is_ready s (records i) (words i))); rest = ap (λ (n : ℕ). events_from n 0 bytes s k) all }

-- ---- a run of plain events: a state that has the feature in hand is that of the run
as_amid : (s : State) {held : ℕ} (p : Pending) → s.feature ≡ Some held → with_pending s p ≡ amid s held p
as_amid s p is = λ i. with_pending (with_feature s (is i)) p

pub at-run : {bytes : List ℕ} {held : ℕ} {s₀ : State} {k₀ : Mem} {ready : Bool} {from : ℕ} {s : State} {table ends : List ℕ} {v : Values} {taken : ℕ} {p : Pending} {v' : Values}
    → Going bytes held s₀ k₀ ready from s (mem_with table ends v) → Run bytes ready held from s.pending v taken p v' → Going bytes held s₀ k₀ ready taken (with_pending s p) (mem_with table ends v')
at-run {bytes} {held} {from} {s} {table} {ends} {v} {taken} {p} {v'} so_far run =
    record {
      in_hand_lem = so_far.in_hand_lem;
      within = run.within;
      table = so_far.table;
      pools = (λ i. record { xy = run.long_xy i; ends = length ends; z = run.long_z i; m = run.long_m i; t = run.long_t i; tm = run.long_tm i }) ∙ so_far.pools;
      tells = run.still s table ends so_far.tells;
      rest = ap (λ (t : State). events_from (records_in bytes - taken) taken bytes t (mem_with table ends v')) (as_amid s p so_far.in_hand_lem)
          ∙ run.rest s table ends so_far.tells
          ∙ ap (λ (t : State). events_from (records_in bytes - from) from bytes t (mem_with table ends v)) (sym (as_amid s s.pending so_far.in_hand_lem))
          ∙ so_far.rest;
    }

module _ {bytes : List ℕ} {held : ℕ} {s₀ : State} {k₀ : Mem} {ready : Bool} {taken : ℕ} {s : State} {k : Mem} (so_far : Going bytes held s₀ k₀ ready taken s k) where
  -- ---- a record that is left: it is refused, or taken
  module _ (more_left : taken < records_in bytes) {r : Wrote} {k' : Mem} (is : outcome r k' ≡ event_call s k (record_of bytes taken)) where
    all : events_from (suc (records_in bytes - (taken + 1))) taken bytes s k ≡ events_call s₀ k₀ bytes
    all = let one_less : suc (records_in bytes - (taken + 1)) ≡ records_in bytes - taken = omega arith in ap (λ (n : ℕ). events_from n taken bytes s k) one_less ∙ so_far.rest

    pub at_refused : (r.number ≡ 0 → ⊥) → progress (took r.number taken s) k' ≡ events_call s₀ k₀ bytes
    at_refused no_more =
        let unchanged = event_unchanged s k (record_of bytes taken) (λ h. no_more (ap (λ (o : Outcome). o.wrote.number) is ∙ h)) in
        let kept : k' ≡ k = ap (λ (o : Outcome). o.mem) (is ∙ unchanged) in
        ap (progress (took r.number taken s)) kept ∙ stopped (records_in bytes - (taken + 1)) taken bytes s k is no_more ∙ all

    pub at-taken : r.number ≡ 0 → taken + 1 ≤ length bytes / 64 → length k'.table ≡ length k.table → lent_of k'.pools ≡ lent_of k.pools → r.state.feature ≡ Some held → Going bytes held s₀ k₀ ready (taken + 1) r.state k'
    at-taken ok within table pools in_hand_lem =
        let accepted = ap (λ (o : Outcome). o.wrote.number) (sym is) ∙ ok in
        let then_ready = event-ready s k (record_of bytes taken) accepted in
        record {
          in_hand_lem = in_hand_lem;
          within = within;
          table = table ∙ so_far.table;
          pools = pools ∙ so_far.pools;
          tells = is-ready r.state (records_lent k'.table) (lent_of k'.pools) (same-ready (sym (ap (λ (o : Outcome). o.wrote.state) is)) (ap (λ (n : ℕ). n / 64) (sym table)) (sym pools) then_ready)
              ∙ sym (was_ready s k (record_of bytes taken) accepted) ∙ so_far.tells;
          rest = went_on (records_in bytes - (taken + 1)) taken bytes s k is ok ∙ all;
        }

  -- as the code has it: an error, or the state after
  module _ (more_left : taken < records_in bytes) {answer : Result State Refusal} {k' : Mem} (is : outcome (wrote_of s answer) k' ≡ event_call s k (record_of bytes taken)) where
    number_is : {a : Result State Refusal} → answer ≡ a → (wrote_of s answer).number ≡ (wrote_of s a).number
    number_is e = ap (λ (b : Result State Refusal). (wrote_of s b).number) e

    pub at_err : {r : Refusal} → answer ≡ Err r → progress (took (number_of r) taken s) k' ≡ events_call s₀ k₀ bytes
    at_err {r} e = ap (λ (n : ℕ). progress (took n taken s) k') (sym (number_is e)) ∙ at_refused more_left is (λ h. refused r (sym (number_is e) ∙ h))

    pub at-ok : {after : State} → answer ≡ Ok after → taken + 1 ≤ length bytes / 64 → length k'.table ≡ length k.table → lent_of k'.pools ≡ lent_of k.pools → after.feature ≡ Some held → Going bytes held s₀ k₀ ready (taken + 1) after k'
    at-ok {after} e within table pools in_hand_lem =
        let state_is : (wrote_of s answer).state ≡ after = ap (λ (b : Result State Refusal). (wrote_of s b).state) e in
        subst (λ (t : State). Going bytes held s₀ k₀ ready (taken + 1) t k') state_is
        (at-taken more_left is (number_is e) within table pools (ap (λ (t : State). t.feature) state_is ∙ in_hand_lem))

  -- ---- it is no event
  pub at-malformed : taken < records_in bytes → heard (record_of bytes taken) ≡ Malformed → progress (took 11 taken s) k ≡ events_call s₀ k₀ bytes
  at-malformed more_left is = at_refused more_left (malformed s k (record_of bytes taken) (sym is) refl) (λ h. omega (arith, h))

  -- ---- every whole record is taken
  pub at-end : taken ≡ length bytes / 64 → progress (took (rest_number (length bytes)) taken s) k ≡ events_call s₀ k₀ bytes
  at-end end = by-rest (eqb (length bytes % 64) 0) refl
    where
      by-rest : (b : Bool) → eqb (length bytes % 64) 0 ≡ b → progress (took (cond b 0 11) taken s) k ≡ events_call s₀ k₀ bytes
      by-rest true b =
          let none : length bytes % 64 ≡ 0 = eqb-true _ 0 b in
          none_left taken bytes s k (omega (arith, none, end)) ∙ so_far.rest
      by-rest false b =
          let some : length bytes % 64 ≡ 0 → ⊥ = eqb-false _ 0 b in
          let short : length (record_of bytes taken) ≡ 64 → ⊥ = λ long. some (omega (arith, long, end, length-take 64 (drop (64 * taken) bytes), length-drop (64 * taken) bytes)) in
          at-malformed (omega (arith, some, end)) (not_whole (record_of bytes taken) short)

-- ---- it is blocked
pub at_blocked : {bytes : List ℕ} {held : ℕ} {s₀ : State} {k₀ : Mem} {ready : Bool} {taken : ℕ} {own : Bool} {s : State} {table ends : List ℕ} {v : Values}
    → Going bytes held s₀ k₀ ready taken s (mem_with table ends v) → BlockedAt bytes ready held taken own s.pending v → progress (took (blocked_by s.waiting own) taken s) (mem_with table ends v) ≡ events_call s₀ k₀ bytes
at_blocked {bytes} {taken} {own} {s} {table} {ends} {v} so_far stop =
    at_refused so_far (omega (arith, stop.more_left))
    (subst (λ (t : State). outcome (wrote (blocked_by s.waiting own) t) (mem_with table ends v) ≡ event_call t (mem_with table ends v) (record_of bytes taken)) (sym (as_amid s s.pending so_far.in_hand_lem)) (stop.answers s table ends so_far.tells))
    (blocked_refuses s.waiting own)

-- ---- a call with one whole record comes to what the event comes to
abbrev answered : Progress → Outcome
answered p = outcome (wrote p.took.number p.took.state) p.mem

module _ (s : State) (k : Mem) (bytes : List ℕ) (long : length bytes ≡ 64) where
  all_of_it : record_of bytes 0 ≡ bytes
  all_of_it = take_all 64 bytes (omega (arith, long))

  alone : events_from 1 0 bytes s k ≡ events_call s k bytes
  unfolding events_call
  alone = let one : 1 ≡ records_in bytes = omega (arith, long) in ap (λ (n : ℕ). events_from n 0 bytes s k) one

  one-event : (o : Outcome) → o ≡ event_call s k bytes → answered (events_call s k bytes) ≡ o
  one-event o is = by_number (eqb o.wrote.number 0) refl
    where
      heard_as : o ≡ event_call s k (record_of bytes 0)
      heard_as = is ∙ ap (event_call s k) (sym all_of_it)

      by_number : (b : Bool) → eqb o.wrote.number 0 ≡ b → answered (events_call s k bytes) ≡ o
      by_number true b =
          let ok = eqb-true o.wrote.number 0 b in
          let taken = none_left 1 bytes o.wrote.state o.mem refl ∙ went_on 0 0 bytes s k heard_as ok ∙ alone in
          ap answered (sym taken) ∙ ap (λ (n : ℕ). outcome (wrote n o.wrote.state) o.mem) (sym ok)
      by_number false b =
          let no_more = eqb-false o.wrote.number 0 b in
          let refused = stopped 0 0 bytes s k heard_as no_more ∙ alone in
          let unchanged = event_unchanged s k bytes (λ h. no_more (ap (λ (p : Outcome). p.wrote.number) is ∙ h)) in
          ap answered (sym refused) ∙ ap (λ (p : Outcome). outcome (wrote p.wrote.number s) k) is ∙ sym unchanged ∙ sym is

  pub one_record : {r : Took} {k' : Mem} → progress r k' ≡ events_call s k bytes → outcome (wrote r.number r.state) k' ≡ event_call s k bytes
  one_record is = ap answered is ∙ one-event (event_call s k bytes) refl
