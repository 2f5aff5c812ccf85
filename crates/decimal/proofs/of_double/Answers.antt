use Rattle.decimal.specs.Magnitude.{of_double}
use Rattle.decimal.proofs.of_double.Goals as goal

pub returns : goal.returns
unfolding of_double
returns c = c.magnitude.ensures
