use Rattle.event_log.specs.Log.{events}
use Rattle.event_log.proofs.layouts.EventsLayout.put.Goals as goal

pub put_event-requires : goal.put_event-requires
put_event-requires c = unfold events in c.requires

pub returns : goal.returns
returns c = unfold events in c.put_event.ensures
