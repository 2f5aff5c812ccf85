use Rattle.std.proofs.Common.{ap, ◌∙◌, ℕ, false}
use Rattle.std.proofs.lemmas.Result.{err_from_is_err_and}
use Rattle.kinds.specs.Event.{begin_e}
use Rattle.event_log.specs.Says.{of_events}
use Rattle.event_log.specs.SaysLaws.{no_begin, no_body, whole_frame}
use Rattle.lines.specs.Lines.{tin_s}
use Rattle.triangles.proofs.read_tin.Goals as goal

pub returns-in_err-say : goal.returns-in_err-say
unfolding tin_s
returns-in_err-say c =
    let p = err_from_is_err_and c.from_residual.result c.from_residual.ensures.1 in
    rw (p.1, p.2) (no_begin of_events _ _ ((rw c.number.ensures.is at c.begin.ensures) ∙ ap (λ (k : ℕ). begin_e 16 false k c.args.idx) c.stretches.ensures) c.in_err-say.ensures)

pub returns-in_err-read_triangle : goal.returns-in_err-read_triangle
unfolding tin_s
returns-in_err-read_triangle c =
    let p = err_from_is_err_and c.from_residual-in_err-read_triangle.result c.from_residual-in_err-read_triangle.ensures.1 in
    rw (p.1, p.2) (no_body of_events _ ((rw c.number.ensures.is at c.begin.ensures) ∙ ap (λ (k : ℕ). begin_e 16 false k c.args.idx) c.stretches.ensures) c.in_ok-say.ensures c.in_err-read_triangle.ensures)

pub returns : goal.returns
unfolding tin_s
returns c = whole_frame of_events ((rw c.number.ensures.is at c.begin.ensures) ∙ ap (λ (k : ℕ). begin_e 16 false k c.args.idx) c.stretches.ensures) c.in_ok-say.ensures c.in_ok-read_triangle.ensures (rw c.number.ensures.is at c.end.ensures) c.say-2.ensures
