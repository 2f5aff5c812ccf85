use Rattle.std.proofs.lemmas.Result.{err_from_is_err_and}
use Rattle.event_log.specs.Says.{of_events}
use Rattle.event_log.specs.SaysLaws.{no_begin, no_body, whole_frame}
use Rattle.lines.specs.Lines.{triangle_at}
use Rattle.triangles.proofs.read_triangle_at.Goals as goal

pub returns-in_err-say : goal.returns-in_err-say
unfolding triangle_at
returns-in_err-say c =
    let p = err_from_is_err_and c.from_residual.result c.from_residual.ensures.1 in
    rw (p.1, p.2) (no_begin of_events _ _ (rw c.number.ensures.is at c.begin.ensures) c.in_err-say.ensures)

pub returns-in_err-read_multilinestring_part : goal.returns-in_err-read_multilinestring_part
unfolding triangle_at
returns-in_err-read_multilinestring_part c =
    let p = err_from_is_err_and c.from_residual-in_err-read_multilinestring_part.result c.from_residual-in_err-read_multilinestring_part.ensures.1 in
    rw (p.1, p.2) (no_body of_events _ (rw c.number.ensures.is at c.begin.ensures) c.in_ok-say.ensures c.in_err-read_multilinestring_part.ensures)

pub returns : goal.returns
unfolding triangle_at
returns c = whole_frame of_events (rw c.number.ensures.is at c.begin.ensures) c.in_ok-say.ensures c.in_ok-read_multilinestring_part.ensures (rw c.number.ensures.is at c.end.ensures) c.say-2.ensures
