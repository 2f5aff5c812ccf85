use mathlib.Core.Path.{◌≡◌, refl, sym, ap, ◌∙◌}
use mathlib.Core.List.{List}
use Prim.Native.Nat.{ℕ}
use borrow.Author.Rules.{rules}
use Rattle.std.proofs.lemmas.Result.{err_from_is_err_and}
use Rattle.kinds.specs.declared.refusal.Refusal.{Refusal}
use Rattle.kinds.specs.Refusal.{answer_of, refused}
use Rattle.event_log.specs.LogLaws.{not_whole}
use Rattle.writing.specs.declared.state.State.{State}
use Rattle.writing.specs.State.{Mem, memory, Outcome, outcome, wrote}
use Rattle.writing.specs.Calls.{event_call}
use Rattle.writing.specs.Ends.{malformed}
use Rattle.writing.specs.Refused.{event_unchanged}
use Rattle.pools.specs.PoolsMut.{pools_now}
use Rattle.many.specs.Going.{one_record}
use Rattle.std.specs.Prelude.{Result}
use Rattle.writer.proofs.event.Goals as goal

-- a refused event leaves the state as it was
unchanged : (s : State) (k : Mem) (bytes : List ℕ) {n : ℕ} {after : State} {k' : Mem} → outcome (wrote n after) k' ≡ event_call s k bytes → (n ≡ 0 → ⊥) → outcome (wrote n s) k' ≡ event_call s k bytes
unchanged s k bytes one refuses =
    let same = event_unchanged s k bytes (λ h. refuses (ap (λ (o : Outcome). o.wrote.number) one ∙ h)) in
    (λ i. outcome (wrote ((ap (λ (o : Outcome). o.wrote.number) one) i) s) ((ap (λ (o : Outcome). o.mem) (one ∙ same)) i)) ∙ sym same

-- whatever gives the number, it is that of malformed bytes
numbered : {n : ℕ} (s : State) (k : Mem) {called : Outcome} → n ≡ 11 → outcome (wrote 11 s) k ≡ called → outcome (wrote n s) k ≡ called
numbered s k is one = ap (λ (n : ℕ). outcome (wrote n s) k) is ∙ one

pub returns-then-bytes-ne64-clause-took : goal.returns-then-bytes-ne64-clause-took
returns-then-bytes-ne64-clause-took c = numbered _ (memory c.args.table.now (pools_now c.args.pools.now)) (search rules) (malformed _ (memory c.args.table.now (pools_now c.args.pools.now)) _ refl (not_whole _ c.if-bytes-ne64.true))

pub returns-in_err-took-clause-took : goal.returns-in_err-took-clause-took
returns-in_err-took-clause-took c =
    let exit = err_from_is_err_and c.from_residual.result c.from_residual.ensures.1 in
    rw (exit.1, exit.2)
    (unchanged _ (memory c.args.table.now (pools_now c.args.pools.now)) _
    (ap (λ (a : Result Unit Refusal). outcome (wrote (answer_of a) c.events-took.result.state) (memory c.events-took.new.table (pools_now c.events-took.new.pools))) (sym c.in_err-took.was)
    ∙ one_record _ (memory c.args.table.now (pools_now c.args.pools.now)) _ c.if-bytes-ne64.false c.events-took.ensures.took)
    (refused _))

pub returns-clause-took : goal.returns-clause-took
returns-clause-took c =
    ap (λ (a : Result Unit Refusal). outcome (wrote (answer_of a) c.events-took.result.state) (memory c.events-took.new.table (pools_now c.events-took.new.pools))) (sym c.in_ok-took.was)
    ∙ one_record _ (memory c.args.table.now (pools_now c.args.pools.now)) _ c.if-bytes-ne64.false c.events-took.ensures.took
