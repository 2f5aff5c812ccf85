use Rattle.std.proofs.Common.{refl}
use Rattle.coords.proofs.answer.U8Answer.is_done.Goals as goal

pub returns : goal.returns
returns c = refl
