use Rattle.std.proofs.Common.{refl}
use Rattle.event_log.specs.Values.{values}
use Rattle.event_log.proofs.layouts.ValuesLayout.wide.Goals as goal

pub returns : goal.returns
returns c = unfold values in refl
