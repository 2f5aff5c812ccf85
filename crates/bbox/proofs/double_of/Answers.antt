use mathlib.Core.Path.{sym, ◌∙◌}
use Rattle.bbox.specs.Doubles.{nan_of, zero_by_zero}
use Rattle.bbox.proofs.double_of.Goals as goal

pub returns-then-is_nan : goal.returns-then-is_nan
returns-then-is_nan c = zero_by_zero ∙ sym (nan_of _ (sym c.is_nan.ensures ∙ c.if-is_nan.true))
