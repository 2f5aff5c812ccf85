use mathlib.Core.Path.{refl, sym, ap, ◌∙◌}
use native.Mathlib.Omega.{arith}
use Rattle.std.proofs.lemmas.Result.{err_from_is_err_and}
use Rattle.kinds.specs.Refusal.{refused}
use Rattle.store.specs.Lists.{pools_in}
use Rattle.writing.specs.Ends.{finish-room, finish-taken, finish_refused}
use Rattle.writing.specs.State.{memory, wrote_of}
use Rattle.writer.proofs.finish.Goals as goal

pub put_root-requires : goal.put_root-requires
put_root-requires c = omega (arith, (finish-room _ (memory c.args.table.now (pools_in c.args.pools.now)) c.records_lent.ensures c.lent.ensures (ap (wrote_of c.args.s) (sym c.in_ok-finished.was) ∙ c.decide_finish.ensures) refl).table)

pub returns : goal.returns
returns c = finish-taken _ (memory c.args.table.now (pools_in c.args.pools.now)) c.records_lent.ensures c.lent.ensures (ap (wrote_of c.args.s) (sym c.in_ok-finished.was) ∙ c.decide_finish.ensures) refl c.put_root.ensures

pub returns-in_err-finished : goal.returns-in_err-finished
returns-in_err-finished c =
    let exit = err_from_is_err_and c.from_residual.result c.from_residual.ensures.1 in
    rw (exit.1, exit.2) (finish_refused _ (memory c.args.table.now (pools_in c.args.pools.now)) c.records_lent.ensures c.lent.ensures c.in_err-finished.ensures (refused _))
