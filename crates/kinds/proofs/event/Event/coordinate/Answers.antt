use mathlib.Core.Path.{refl}
use Rattle.kinds.specs.Event.{coordinate_e}
use Rattle.kinds.proofs.event.Event.coordinate.Goals as goal

pub returns : goal.returns
returns c = unfold coordinate_e in refl
