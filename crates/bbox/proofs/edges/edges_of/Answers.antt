use Rattle.bbox.specs.Edges.{edges_of}
use Rattle.bbox.proofs.edges.edges_of.Goals as goal

pub returns : goal.returns
returns c = unfold edges_of in cc
