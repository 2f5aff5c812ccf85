use mathlib.Core.Path.{ap, ◌∙◌}
use native.Mathlib.Omega.{arith}
use lib.Seq.{sets}
use Rattle.event_layout.specs.Head.{two-words}
use Rattle.event_layout.proofs.head.put_two.Goals as goal

pub returns : goal.returns
returns c =
    let a = c.args in
    c.put_u64.ensures ∙ ap (sets a.s.now a.at) (two-words a.v a.w (omega arith))
