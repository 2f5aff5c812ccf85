use mathlib.Core.Path.{refl}
use lib.Ieee.{of_bits, div, neg}
use Rattle.bbox.specs.Box.{beginning}
use Rattle.bbox.proofs.Box.empty.Goals as goal

pub returns : goal.returns
returns c = unfold of_bits div neg beginning in refl
