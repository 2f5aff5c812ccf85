use Rattle.std.proofs.Common.{ap, arith, ◌∙◌}
use Rattle.as_words.specs.Words.{words_after}
use Rattle.bintolage.proofs.bintolage_property.Goals as goal

pub returns-in-Ok-clause-words : goal.returns-in-Ok-clause-words
returns-in-Ok-clause-words c = c.keep_numbered.ensures.words_after ∙ ap (words_after c.args.state.now) (rw c.state_of.ensures at c.in-Ok.ensures.answer)

pub returns-in-Err-clause-place : goal.returns-in-Err-clause-place
returns-in-Err-clause-place c = omega (arith, rw c.state_of.ensures at c.in-Err.ensures.place)
