use mathlib.Core.Path.{refl}
use Rattle.utf8.specs.Utf8.{has}
use Rattle.utf8.proofs.in_range.Goals as goal

pub returns : goal.returns
returns c = unfold has in refl
