use mathlib.Core.Path.{refl}
use Rattle.event_layout.specs.Event.{spare_zero}
use Rattle.event_layout.proofs.event.spare_zero.Goals as goal

pub returns : goal.returns
returns c = unfold spare_zero in refl
