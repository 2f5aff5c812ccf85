use Rattle.event_log.specs.Log.{feature_in}
use Rattle.event_log.proofs.events.feature_in.Goals as goal

pub returns : goal.returns
returns c = unfold feature_in in c.feature_of.ensures
