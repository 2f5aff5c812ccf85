use borrow.Author.Tests.{eq-eqb, ne_eqb}
use mathlib.Core.Path.{refl}
use Rattle.laws.specs.Cond.{if_so, if_not}
use Rattle.decimal.specs.Magnitude.{special}
use Rattle.decimal.proofs.format.special.Goals as goal

pub returns-then-fraction-eq0 : goal.returns-then-fraction-eq0
returns-then-fraction-eq0 c = unfold special in if_so _ (eq-eqb _ _ c.if-fraction-eq0.true) refl

pub returns-else-fraction-eq0 : goal.returns-else-fraction-eq0
returns-else-fraction-eq0 c = unfold special in if_not _ (ne_eqb _ _ c.if-fraction-eq0.false) refl
