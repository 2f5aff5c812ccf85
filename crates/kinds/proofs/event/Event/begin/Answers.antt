use mathlib.Core.Path.{refl}
use Rattle.kinds.specs.Event.{begin_e}
use Rattle.kinds.proofs.event.Event.begin.Goals as goal

pub returns : goal.returns
returns c = unfold begin_e in refl
