use Rattle.event_log.specs.Log.{heard}
use Rattle.event_log.proofs.events.is_event.Goals as goal

pub returns : goal.returns
returns c = unfold heard in c.is_event.ensures
