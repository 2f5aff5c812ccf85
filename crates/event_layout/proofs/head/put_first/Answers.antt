use mathlib.Core.Path.{ap, ◌∙◌}
use lib.Seq.{sets}
use Rattle.event_layout.proofs.head.put_first.Goals as goal

pub returns : goal.returns
returns c = c.put_u64.ensures ∙ ap (sets c.args.s.now 0) c.head_word.ensures
