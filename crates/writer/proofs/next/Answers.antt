use mathlib.Core.Path.{◌≡◌, refl, sym, ap, ◌∙◌}
use native.Mathlib.Omega.{arith}
use Prim.Native.Nat.{ℕ, ◌≤◌}
use Rattle.std.proofs.lemmas.Result.{err_from_is_err_and}
use Rattle.kinds.specs.Lanes.{Lane, xyL, endsL, zL, mL, tL, tmL, Lent, lent_in}
use Rattle.kinds.specs.Refusal.{refused}
use Rattle.store.specs.Lists.{lent_of}
use Rattle.store.specs.Records.{records_lent}
use Rattle.pending.specs.Words.{used, words_in}
use Rattle.pools.specs.PoolsMut.{pools_now}
use Rattle.writing.specs.declared.state.State.{State}
use Rattle.writing.specs.State.{Mem, Wrote, memory, wrote_of}
use Rattle.writing.specs.Calls.{decide_next}
use Rattle.writing.specs.Ends.{next-room, next-taken, next_refused}
use Rattle.writer.proofs.next.Goals as goal

-- the pending words of each pool stand in it
room : (s : State) (k : Mem) {records : ℕ} {pools : Lent} {r : Wrote} → records ≡ records_lent k.table → pools ≡ lent_of k.pools → r ≡ decide_next s records pools → r.number ≡ 0 → (n : Lane) → used (words_in s.pending n) ≤ lent_in (lent_of k.pools) n
room s k lends words decides ok n = omega (arith, (next-room s k lends words decides ok).words n)

pub move_words-requires : goal.move_words-requires
move_words-requires c = room c.args.s (memory c.args.table.now (pools_now c.args.pools.now)) c.records_lent.ensures c.lent.ensures (ap (wrote_of c.args.s) (sym c.in_ok-renewed.was) ∙ c.decide_next.ensures) refl xyL

pub move_words-requires-2 : goal.move_words-requires-2
move_words-requires-2 c = room c.args.s (memory c.args.table.now (pools_now c.args.pools.now)) c.records_lent.ensures c.lent.ensures (ap (wrote_of c.args.s) (sym c.in_ok-renewed.was) ∙ c.decide_next.ensures) refl endsL

pub move_words-requires-3 : goal.move_words-requires-3
move_words-requires-3 c = room c.args.s (memory c.args.table.now (pools_now c.args.pools.now)) c.records_lent.ensures c.lent.ensures (ap (wrote_of c.args.s) (sym c.in_ok-renewed.was) ∙ c.decide_next.ensures) refl zL

pub move_words-requires-4 : goal.move_words-requires-4
move_words-requires-4 c = room c.args.s (memory c.args.table.now (pools_now c.args.pools.now)) c.records_lent.ensures c.lent.ensures (ap (wrote_of c.args.s) (sym c.in_ok-renewed.was) ∙ c.decide_next.ensures) refl mL

pub move_words-requires-5 : goal.move_words-requires-5
move_words-requires-5 c = room c.args.s (memory c.args.table.now (pools_now c.args.pools.now)) c.records_lent.ensures c.lent.ensures (ap (wrote_of c.args.s) (sym c.in_ok-renewed.was) ∙ c.decide_next.ensures) refl tL

pub move_words-requires-6 : goal.move_words-requires-6
move_words-requires-6 c = room c.args.s (memory c.args.table.now (pools_now c.args.pools.now)) c.records_lent.ensures c.lent.ensures (ap (wrote_of c.args.s) (sym c.in_ok-renewed.was) ∙ c.decide_next.ensures) refl tmL

pub returns-clause-took : goal.returns-clause-took
returns-clause-took c =
    next-taken _ (memory c.args.table.now (pools_now c.args.pools.now)) c.records_lent.ensures c.lent.ensures (ap (wrote_of c.args.s) (sym c.in_ok-renewed.was) ∙ c.decide_next.ensures) refl
    c.move_words.ensures c.move_words-2.ensures c.move_words-3.ensures c.move_words-4.ensures c.move_words-5.ensures c.move_words-6.ensures

pub returns-in_err-renewed-clause-took : goal.returns-in_err-renewed-clause-took
returns-in_err-renewed-clause-took c =
    let exit = err_from_is_err_and c.from_residual.result c.from_residual.ensures.1 in
    rw (exit.1, exit.2) (next_refused _ (memory c.args.table.now (pools_now c.args.pools.now)) c.records_lent.ensures c.lent.ensures c.in_err-renewed.ensures (refused _))
