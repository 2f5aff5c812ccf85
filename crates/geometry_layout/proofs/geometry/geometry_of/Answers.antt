use Rattle.geometry_layout.specs.Geometry.{geometry_of}
use Rattle.geometry_layout.proofs.geometry.geometry_of.Goals as goal

pub returns : goal.returns
returns c = unfold geometry_of in cc
