use mathlib.Core.Path.{refl}
use Rattle.kinds.specs.Event.{end_e}
use Rattle.kinds.proofs.event.Event.end.Goals as goal

pub returns : goal.returns
returns c = unfold end_e in refl
