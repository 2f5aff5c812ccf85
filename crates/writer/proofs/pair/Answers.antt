use mathlib.Core.Path.{sym, ◌∙◌}
use Rattle.store.specs.Lists.{pools_of, lent_of}
use Rattle.writing.specs.Calls.{is_ready}
use Rattle.runs.specs.Run.{pair-alone}
use Rattle.writer.proofs.pair.Goals as goal

pub returns : goal.returns
returns c =
    λ bytes number heard.
    let a = c.args in
    pair-alone a.s a.table.now a.xy.now a.ends.now a.z.now a.m.now a.t.now a.tm.now bytes number heard
    (sym (c.is_ready-ready.ensures ∙ (λ i. is_ready a.s (c.records_lent.ensures i) (lent_of (pools_of a.xy.now a.ends.now a.z.now a.m.now a.t.now a.tm.now)))))
    c.take_alone.ensures.answer c.take_alone.ensures.words
