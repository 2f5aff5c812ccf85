use mathlib.Core.Path.{ap, ◌∙◌}
use Prim.Native.Nat.{ℕ, ◌/◌, ◌%◌, ◌^◌}
use Rattle.decimal.specs.Magnitude.{magnitude, of_float}
use Rattle.decimal.proofs.of_float.Goals as goal

pub returns : goal.returns
unfolding of_float
returns c = c.magnitude.ensures ∙ ap (λ (w : ℕ). magnitude 255 (2 ^ 23) 150 (w % 2 ^ 31 / 2 ^ 23) (w % 2 ^ 23)) c.from.ensures
