use mathlib.Core.Path.{sym}
use mathlib.Core.Path.{refl}
use native.Mathlib.Omega.{arith}
use Rattle.utf8.specs.Utf8.{row_of}
use Rattle.utf8.specs.Laws.{length_in}
use Rattle.utf8.proofs.row_length.Goals as goal

pub returns-in-0-to-127 : goal.returns-in-0-to-127
returns-in-0-to-127 c = (unfold row_of in length_in 0x00 0x80 1 c.args.lead refl (omega arith) (omega arith), omega arith)

pub returns-in-194-to-223 : goal.returns-in-194-to-223
returns-in-194-to-223 c = (unfold row_of in length_in 0xc2 0x1e 2 c.args.lead refl (omega arith) (omega arith), omega arith)

pub returns-in-224-to-239 : goal.returns-in-224-to-239
returns-in-224-to-239 c = (unfold row_of in length_in 0xe0 0x10 3 c.args.lead refl (omega arith) (omega arith), omega arith)

pub returns-in-240-to-244 : goal.returns-in-240-to-244
returns-in-240-to-244 c = (unfold row_of in length_in 0xf0 0x05 4 c.args.lead refl (omega arith) (omega arith), omega arith)

pub returns-in_default : goal.returns-in_default
returns-in_default c = unfold row_of in sym (length_in 0x80 0x42 0 c.args.lead refl (omega arith) (omega arith))

pub returns-in_default-2 : goal.returns-in_default-2
returns-in_default-2 c = unfold row_of in sym (length_in 0xf5 0x0b 0 c.args.lead refl (omega arith) (omega arith))
