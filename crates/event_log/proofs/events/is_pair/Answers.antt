use Rattle.event_log.specs.Log.{heard, feature_in}
use Rattle.event_log.proofs.events.is_pair.Goals as goal

pub returns : goal.returns
returns c = unfold heard feature_in in c.is_pair.ensures
