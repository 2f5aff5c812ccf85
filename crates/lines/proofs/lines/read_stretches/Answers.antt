use Rattle.std.proofs.Common.{ap, ◌∙◌, ℕ}
use Rattle.std.proofs.lemmas.Result.{err_from_is_err_and}
use Rattle.kinds.specs.Event.{begin_e}
use Rattle.event_log.specs.Says.{of_events}
use Rattle.event_log.specs.SaysLaws.{no_begin, no_body, whole_frame}
use Rattle.lines.specs.Lines.{stretches_s}
use Rattle.lines.proofs.lines.read_stretches.Goals as goal

pub returns-in_err-say : goal.returns-in_err-say
unfolding stretches_s
returns-in_err-say c =
    let h = c.args.head in
    let p = err_from_is_err_and c.from_residual.result c.from_residual.ensures.1 in
    rw (p.1, p.2) (no_begin of_events _ _ (c.begin.ensures ∙ ap (λ (k : ℕ). begin_e (h.kind) h.tagged k h.idx) c.stretches.ensures) c.in_err-say.ensures)

pub returns-in_err-read_rings : goal.returns-in_err-read_rings
unfolding stretches_s
returns-in_err-read_rings c =
    let h = c.args.head in
    let p = err_from_is_err_and c.from_residual-in_err-read_rings.result c.from_residual-in_err-read_rings.ensures.1 in
    rw (p.1, p.2) (no_body of_events _ (c.begin.ensures ∙ ap (λ (k : ℕ). begin_e (h.kind) h.tagged k h.idx) c.stretches.ensures) c.in_ok-say.ensures c.in_err-read_rings.ensures)

pub returns : goal.returns
unfolding stretches_s
returns c =
    let h = c.args.head in
    whole_frame of_events (c.begin.ensures ∙ ap (λ (k : ℕ). begin_e (h.kind) h.tagged k h.idx) c.stretches.ensures) c.in_ok-say.ensures c.in_ok-read_rings.ensures c.end.ensures c.say-2.ensures
