-- SPEC 6.25, many events in one call: records one behind the other, taken up to the first that is refused.
use Rattle.std.specs.Prelude.{◌≡◌, Bool, true, false, cond, List, eqb}
use Rattle.std.proofs.Math.Path.{refl}
use Rattle.std.proofs.Common.{sym, ap, ◌∙◌, eqb-true, eq-eqb, ne_eqb}
use Prim.Native.Nat.{ℕ, zero, suc, ◌+◌}
use Rattle.laws.specs.Cond.{if_so, if_not}
use Rattle.event_log.specs.Log.{record_of, records_in}
use Rattle.kinds.specs.Refusal.{answer_of}
use Rattle.runs.specs.declared.took.Took.{Took as Came}
use Rattle.writing.specs.declared.state.State.{State}
use Rattle.writing.specs.State.{Wrote, Mem, Outcome, outcome}
use Rattle.writing.specs.Calls.{event_call}

-- ---- what a call comes to: answer, records taken, state,
pub record Took : Type 0 where
  pub number : ℕ
  pub taken : ℕ
  pub state : State

-- and the final contents of all lent memory
pub record Progress : Type 0 where
  pub took : Took
  pub mem : Mem

abbrev pub took : ℕ → ℕ → State → Took
took number taken s = record { number = number; taken = taken; state = s }

-- of what the code answers
abbrev pub took_of : Came → Took
took_of r = took (answer_of r.answer) r.taken r.state

abbrev pub progress : Took → Mem → Progress
progress r k = record { took = r; mem = k }

-- the records from i on, of which so many are left
unfoldable pub events_from : ℕ → ℕ → List ℕ → State → Mem → Progress
events_from zero i bytes s k = progress (took 0 i s) k
events_from (suc left) i bytes s k =
    let o : Outcome = event_call s k (record_of bytes i) in
    cond (eqb o.wrote.number 0) (events_from left (i + 1) bytes o.wrote.state o.mem) (progress (took o.wrote.number i s) k)

unfoldable pub events_call : State → Mem → List ℕ → Progress
events_call s k bytes = events_from (records_in bytes) 0 bytes s k

-- ---- none is left; the first that is left is taken; it is refused
pub none_left : {left : ℕ} (i : ℕ) (bytes : List ℕ) (s : State) (k : Mem) → left ≡ 0 → progress (took 0 i s) k ≡ events_from left i bytes s k
unfolding events_from
none_left i bytes s k none = rw none

module _ (left i : ℕ) (bytes : List ℕ) (s : State) (k : Mem) {r : Wrote} {k' : Mem} (is : outcome r k' ≡ event_call s k (record_of bytes i)) where
  pub went_on : r.number ≡ 0 → events_from left (i + 1) bytes r.state k' ≡ events_from (suc left) i bytes s k
  unfolding events_from
  went_on ok = if_so _ (eq-eqb _ 0 (ap (λ (o : Outcome). o.wrote.number) (sym is) ∙ ok)) (ap (λ (o : Outcome). events_from left (i + 1) bytes o.wrote.state o.mem) is)

  pub stopped : (r.number ≡ 0 → ⊥) → progress (took r.number i s) k ≡ events_from (suc left) i bytes s k
  unfolding events_from
  stopped no_more = if_not _ (ne_eqb _ 0 (λ h. no_more (ap (λ (o : Outcome). o.wrote.number) is ∙ h))) (ap (λ (o : Outcome). progress (took o.wrote.number i s) k) is)

-- ---- what holds of any row of records: it holds where the row ends or stops, and of a record that is taken where it holds of those behind it
module _ (bytes : List ℕ) (P : ℕ → State → Mem → Progress → Type 0) (stops : (number i : ℕ) (s : State) (k : Mem) → P i s k (progress (took number i s) k))
    (takes : (i : ℕ) (s : State) (k : Mem) (p : Progress) → (let o = event_call s k (record_of bytes i) in o.wrote.number ≡ 0 → P (i + 1) o.wrote.state o.mem p → P i s k p)) where
  pub by-records : (left i : ℕ) (s : State) (k : Mem) → P i s k (events_from left i bytes s k)
  unfolding events_from
  by-records zero i s k = stops 0 i s k
  by-records (suc left) i s k = go (eqb o.wrote.number 0) refl (by-records left (i + 1) o.wrote.state o.mem)
    where
      o : Outcome
      o = event_call s k (record_of bytes i)

      onward : Progress
      onward = events_from left (i + 1) bytes o.wrote.state o.mem

      go : (b : Bool) → eqb o.wrote.number 0 ≡ b → P (i + 1) o.wrote.state o.mem onward → P i s k (cond b onward (progress (took o.wrote.number i s) k))
      go true is more = takes i s k onward (eqb-true o.wrote.number 0 is) more
      go false is more = stops o.wrote.number i s k
