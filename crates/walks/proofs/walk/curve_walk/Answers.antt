use borrow.Author.Tests.{eq-eqb, ne_eqb}
use Rattle.walks.specs.Walks.{curve_walk}
use Rattle.walks.specs.WalkLaws.{not_a_curve}
use Rattle.walks.proofs.walk.curve_walk.Goals as goal

pub returns-in-2 : goal.returns-in-2
returns-in-2 c = unfold curve_walk in rw c.in-2.is

pub returns-in-8 : goal.returns-in-8
returns-in-8 c = unfold curve_walk in rw c.in-8.is

pub returns-then-above-eq-COMPOUND_CURVE : goal.returns-then-above-eq-COMPOUND_CURVE
returns-then-above-eq-COMPOUND_CURVE c = unfold curve_walk in rw (c.in-9.is, eq-eqb _ _ c.if-above-eq-COMPOUND_CURVE.true)

pub returns-else-above-eq-COMPOUND_CURVE : goal.returns-else-above-eq-COMPOUND_CURVE
returns-else-above-eq-COMPOUND_CURVE c = unfold curve_walk in rw (c.in-9.is, ne_eqb _ _ c.if-above-eq-COMPOUND_CURVE.false)

pub returns-then-above-eq-MULTI_SURFACE : goal.returns-then-above-eq-MULTI_SURFACE
returns-then-above-eq-MULTI_SURFACE c = unfold curve_walk in rw (c.in-3.is, eq-eqb _ _ c.if-above-eq-MULTI_SURFACE.true)

pub returns-else-above-eq-MULTI_SURFACE : goal.returns-else-above-eq-MULTI_SURFACE
returns-else-above-eq-MULTI_SURFACE c = unfold curve_walk in rw (c.in-3.is, ne_eqb _ _ c.if-above-eq-MULTI_SURFACE.false)

pub returns-then-above-eq-MULTI_SURFACE-2 : goal.returns-then-above-eq-MULTI_SURFACE-2
returns-then-above-eq-MULTI_SURFACE-2 c = unfold curve_walk in rw (c.in-10.is, eq-eqb _ _ c.if-above-eq-MULTI_SURFACE-2.true)

pub returns-else-above-eq-MULTI_SURFACE-2 : goal.returns-else-above-eq-MULTI_SURFACE-2
returns-else-above-eq-MULTI_SURFACE-2 c = unfold curve_walk in rw (c.in-10.is, ne_eqb _ _ c.if-above-eq-MULTI_SURFACE-2.false)

pub returns-in_default : goal.returns-in_default
returns-in_default c = let a = c.args in not_a_curve a.above a.kind c.in_default.in_default-own.rest.0.0.0.0.1 c.in_default.in_default-own.rest.0.0.0.1 c.in_default.in_default-own.rest.0.0.1 c.in_default.in_default-own.rest.0.1 c.in_default.in_default-own.rest.1
