use mathlib.Core.Path.{◌∙◌}
use Rattle.event_log.specs.LogLaws.{heard-event}
use Rattle.event_log.proofs.events.event_in.Goals as goal

pub returns : goal.returns
returns c =
    λ e h.
    c.event_of.ensures ∙ (heard-event _ e h).fields
