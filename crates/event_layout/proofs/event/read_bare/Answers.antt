use mathlib.Core.Path.{sym, ap, ◌∙◌}
use Rattle.kinds.specs.Event.{uses_of, parsed, told_apart}
use Rattle.kinds.specs.EventLaws.{told-pair}
use Rattle.event_layout.specs.EventLaws.{whole_read}
use Rattle.event_layout.proofs.event.read_bare.Goals as goal

pub returns-then-spare_zero-keeps : goal.returns-then-spare_zero-keeps
returns-then-spare_zero-keeps c =
    let kind = c.if-e-ne-XY.false in
    sym
    (told-pair _ _ (uses_of 64) (ap uses_of (sym kind)) c.keeps.ensures kind c.if-spare_zero-keeps.true
    ∙ (λ i. told_apart (parsed (c.spare_zero.ensures i) (c.event_of-e.ensures i)))
    ∙ sym (ap told_apart (whole_read c.args.bytes.now c.if-bytes-ne64.false)))
