use Rattle.std.proofs.Common.{sym, ◌∙◌}
use Rattle.laws.specs.Script.{stop, one, ◌⨟◌}
use Rattle.kinds.specs.Event.{begin_e, end_e}
use Rattle.event_log.specs.Says.{of_events}
use Rattle.event_log.specs.SaysLaws.{first_refused}
use Rattle.coords.specs.Views.{coords_in}
use Rattle.coords.specs.CoordLaws.{window_framed, stands, none_stands, numbered, number_alone, and_then}
use Rattle.coords.proofs.coords.read_window.Goals as goal

pub returns-in-Err : goal.returns-in-Err
returns-in-Err g c =
    let a = c.args in
    let h = a.head in
    rw (window_framed g.A.Answer.number (coords_in a.lists.now) a.w (begin_e h.kind h.tagged a.size h.idx) (end_e h.kind h.tagged h.idx))
    (numbered c.of.ensures (first_refused of_events {R' = Unit} (stop (g.A.Answer.number a.w.last) ⨟ one (end_e h.kind h.tagged h.idx)) (rw (c.begin.ensures, c.in-Err.is) at c.read_begun.ensures)))

pub returns-then-not-is_done : goal.returns-then-not-is_done
returns-then-not-is_done g c =
    let a = c.args in
    let h = a.head in
    let last = g.A.Answer.number a.w.last in
    rw (
      window_framed g.A.Answer.number (coords_in a.lists.now) a.w (begin_e h.kind h.tagged a.size h.idx) (end_e h.kind h.tagged h.idx),
      stands last (one (end_e h.kind h.tagged h.idx)) (sym c.is_done.ensures ∙ c.if-not-is_done.true),
    ) (and_then (rw (c.begin.ensures, c.in_default.is) at c.read_begun.ensures) (number_alone last _))

pub returns : goal.returns
returns g c =
    let a = c.args in
    let h = a.head in
    let last = g.A.Answer.number a.w.last in
    rw (
      window_framed g.A.Answer.number (coords_in a.lists.now) a.w (begin_e h.kind h.tagged a.size h.idx) (end_e h.kind h.tagged h.idx),
      none_stands last (one (end_e h.kind h.tagged h.idx)) (sym c.is_done.ensures ∙ c.if-not-is_done.false),
    ) (and_then (rw (c.begin.ensures, c.in_default.is) at c.read_begun.ensures) (record { memory = c.say.ensures.memory; layout = cc; said = rw c.of-2.ensures (rw c.end.ensures at c.say.ensures).said }))
