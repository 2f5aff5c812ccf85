use Rattle.kinds.specs.Flags.{flags_of}
use Rattle.kinds.proofs.flags.Flags.of.Goals as goal

pub returns : goal.returns
returns c = unfold flags_of in cc
