use mathlib.Core.Path.{refl}
use borrow.Author.Tests.{eq-eqb, ne_eqb}
use Rattle.laws.specs.Cond.{if_so, if_not}
use Rattle.event_log.proofs.events.no_rest.Goals as goal

pub returns-then-length-eq0 : goal.returns-then-length-eq0
returns-then-length-eq0 c = if_so _ (eq-eqb _ 0 c.if-length-eq0.true) refl

pub returns-else-length-eq0 : goal.returns-else-length-eq0
returns-else-length-eq0 c = if_not _ (ne_eqb _ 0 c.if-length-eq0.false) refl
