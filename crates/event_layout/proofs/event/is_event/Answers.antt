use mathlib.Core.Path.{sym, ap, ◌∙◌}
use borrow.Author.Tests.{ne_eqb}
use Rattle.kinds.specs.Event.{uses_of, parsed, is_event}
use Rattle.kinds.specs.EventLaws.{event-by}
use Rattle.event_layout.specs.Event.{read_event}
use Rattle.event_layout.specs.EventLaws.{whole_read}
use Rattle.event_layout.proofs.event.is_event.Goals as goal

pub returns-then-bytes-ne64 : goal.returns-then-bytes-ne64
returns-then-bytes-ne64 c = unfold read_event in rw (ne_eqb _ _ c.if-bytes-ne64.true)

pub returns-then-e-eq-COORDINATE : goal.returns-then-e-eq-COORDINATE
returns-then-e-eq-COORDINATE c = event-by _ _ (uses_of 65) (ap uses_of (sym c.if-e-eq-COORDINATE.true)) c.keeps.ensures ∙ ((λ i. is_event (parsed (c.spare_zero-sound.ensures i) (c.event_of-e.ensures i))) ∙ sym (ap is_event (whole_read c.args.bytes.now c.if-bytes-ne64.false)))

pub returns : goal.returns
returns c =
    let uses = c.uses-uses.ensures in
    event-by _ _ _ (λ i. record { idx = (uses i).idx; tagged = (uses i).tagged; size = (uses i).size; pair = (uses i).pair; present = sym (ne_eqb _ 65 c.if-e-eq-COORDINATE.false) i }) c.keeps-2.ensures
    ∙ ((λ i. is_event (parsed (c.spare_zero-sound.ensures i) (c.event_of-e.ensures i))) ∙ sym (ap is_event (whole_read c.args.bytes.now c.if-bytes-ne64.false)))
