use Rattle.compared.specs.ComparedLaws.{equal_rows}
use Rattle.compared.proofs.same.Goals as goal

pub returns : goal.returns
returns c =
    let args = c.args in
    equal_rows args.a.now args.b.now c.common.result c.common.ensures
