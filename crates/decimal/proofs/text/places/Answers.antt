use native.Mathlib.Omega.{arith}
use Rattle.decimal.specs.TextLaws.{few_places}
use Rattle.decimal.proofs.text.places.Goals as goal

pub returns : goal.returns
returns c =
    let fewest = c.decimal.ensures.len in
    (fewest, few_places c.args.n c.decimal.result (omega arith) fewest)
