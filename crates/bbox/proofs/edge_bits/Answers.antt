use mathlib.Core.Path.{sym, ap}
use lib.Ieee.{to_bits}
use Rattle.bbox.specs.Box.{bits_of}
use Rattle.bbox.specs.Doubles.{self_nan}
use Rattle.bbox.proofs.edge_bits.Goals as goal

pub returns : goal.returns
returns c = unfold to_bits in sym (ap bits_of (self_nan _ c.if-edge.false))
