use Rattle.std.proofs.Common.{refl}
use Rattle.event_log.specs.Log.{events}
use Rattle.event_log.proofs.layouts.EventsLayout.wide.Goals as goal

pub returns : goal.returns
returns c = unfold events in refl
