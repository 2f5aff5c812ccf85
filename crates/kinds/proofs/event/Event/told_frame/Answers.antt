use mathlib.Core.Path.{refl, sym, ◌∙◌}
use Rattle.laws.specs.Cond.{if_so, if_not}
use Rattle.kinds.proofs.event.Event.told_frame.Goals as goal

pub returns-then-is_quiet : goal.returns-then-is_quiet
returns-then-is_quiet c = if_so _ (sym c.is_quiet.ensures ∙ c.if-is_quiet.true) refl

pub returns-else-is_quiet : goal.returns-else-is_quiet
returns-else-is_quiet c = if_not _ (sym c.is_quiet.ensures ∙ c.if-is_quiet.false) refl
