use Rattle.event_log.specs.Values.{values}
use Rattle.event_log.proofs.layouts.ValuesLayout.put.Goals as goal

pub put_value-requires : goal.put_value-requires
put_value-requires c = unfold values in c.requires

pub returns : goal.returns
returns c = unfold values in c.put_value.ensures
