use mathlib.Core.Path.{refl}
use Rattle.kinds.specs.Event.{xy_e}
use Rattle.kinds.proofs.event.Event.xy.Goals as goal

pub returns : goal.returns
returns c = unfold xy_e in refl
