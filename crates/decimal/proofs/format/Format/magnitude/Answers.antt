use borrow.Author.Tests.{eq-eqb, ne_eqb}
use Rattle.laws.specs.Cond.{if_so, if_not}
use Rattle.decimal.specs.Magnitude.{magnitude}
use Rattle.decimal.proofs.format.Format.magnitude.Goals as goal

pub returns-then-exponent-self : goal.returns-then-exponent-self
returns-then-exponent-self c = unfold magnitude in if_so _ (eq-eqb _ _ c.if-exponent-self.true) c.special.ensures

pub returns-then-exponent-eq0 : goal.returns-then-exponent-eq0
returns-then-exponent-eq0 c = unfold magnitude in if_not _ (ne_eqb _ _ c.if-exponent-self.false) (if_so _ (eq-eqb _ _ c.if-exponent-eq0.true) c.finite.ensures)

pub returns : goal.returns
returns c = unfold magnitude in if_not _ (ne_eqb _ _ c.if-exponent-self.false) (if_not _ (ne_eqb _ _ c.if-exponent-eq0.false) c.finite-2.ensures)
