use native.Mathlib.Omega.{arith}
use Rattle.event_layout.specs.Head.{head-word}
use Rattle.event_layout.proofs.head.head_word.Goals as goal

pub returns : goal.returns
returns c = head-word _ _ _ _ (omega arith) (omega arith) (omega arith) (omega arith)
