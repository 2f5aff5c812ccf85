use Rattle.std.proofs.lemmas.Result.{err_from_is_err_and}
use Rattle.event_log.specs.Says.{of_events}
use Rattle.event_log.specs.SaysLaws.{both, first_refused}
use Rattle.coords.proofs.coords.read_begun.Goals as goal

pub returns-in_err-say : goal.returns-in_err-say
returns-in_err-say c =
    let p = err_from_is_err_and c.from_residual.result c.from_residual.ensures.1 in
    rw (p.1, p.2) (first_refused of_events _ c.in_err-say.ensures)

pub returns : goal.returns
returns c = both of_events c.in_ok-say.ensures c.read_coords.ensures
