use Rattle.std.proofs.lemmas.Result.{err_from_is_err_and}
use Rattle.event_log.specs.Says.{of_events}
use Rattle.event_log.specs.SaysLaws.{no_begin, no_body, whole_frame}
use Rattle.lone_ring.specs.Lone.{lone_ring}
use Rattle.lone_ring.proofs.read_lone_ring.Goals as goal

pub returns-in_err-say : goal.returns-in_err-say
returns-in_err-say c =
    let p = err_from_is_err_and c.from_residual.result c.from_residual.ensures.1 in
    rw (p.1, p.2, lone_ring c.args.ring.xy.now c.args.idx) (no_begin of_events _ _ (rw c.number.ensures.is at c.begin.ensures) c.in_err-say.ensures)

pub returns-in_err-read_lone_line : goal.returns-in_err-read_lone_line
returns-in_err-read_lone_line c =
    let p = err_from_is_err_and c.from_residual-in_err-read_lone_line.result c.from_residual-in_err-read_lone_line.ensures.1 in
    rw (p.1, p.2, lone_ring c.args.ring.xy.now c.args.idx) (no_body of_events _ (rw c.number.ensures.is at c.begin.ensures) c.in_ok-say.ensures c.in_err-read_lone_line.ensures)

pub returns : goal.returns
returns c = rw (lone_ring c.args.ring.xy.now c.args.idx) (whole_frame of_events (rw c.number.ensures.is at c.begin.ensures) c.in_ok-say.ensures c.in_ok-read_lone_line.ensures (rw c.number.ensures.is at c.end.ensures) c.say-2.ensures)
