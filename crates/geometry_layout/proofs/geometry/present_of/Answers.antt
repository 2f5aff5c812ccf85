use Rattle.geometry_layout.specs.Geometry.{present_of}
use Rattle.geometry_layout.proofs.geometry.present_of.Goals as goal

pub returns : goal.returns
returns c = unfold present_of in cc
