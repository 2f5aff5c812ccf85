use Rattle.event_layout.specs.Event.{feature_of}
use Rattle.event_layout.proofs.event.feature_of.Goals as goal

pub returns : goal.returns
returns c = unfold feature_of in c.u32_at.ensures
