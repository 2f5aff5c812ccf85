use mathlib.Core.Path.{refl}
use lib.ListN.{length}
use Rattle.laws.specs.Bytes.{le}
use Rattle.laws.specs.Runs.{then}
use Rattle.property_writer.specs.Writing.{text_bytes}
use Rattle.property_writer.proofs.lay.put_text.Goals as goal

pub returns : goal.returns
returns c =
    unfold text_bytes in
    let a = c.args in
    then a.out.now (le 4 (length a.text.now)) a.text.now 0 4 c.put_u32.ensures refl c.put_bytes.ensures
