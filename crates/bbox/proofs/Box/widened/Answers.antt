use Rattle.bbox.specs.Box.{widen}
use Rattle.bbox.proofs.Box.widened.Goals as goal

pub returns : goal.returns
returns c = unfold widen in cc
