use Rattle.event_log.specs.Log.{heard}
use Rattle.event_log.proofs.events.hear_bare.Goals as goal

pub returns : goal.returns
returns c = unfold heard in c.read_bare.ensures
