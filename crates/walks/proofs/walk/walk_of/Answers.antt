use Rattle.std.proofs.Common.{Ok, Err, refl}
use Rattle.walks.specs.WalkLaws.{walk_is}
use Rattle.walks.proofs.walk.walk_of.Goals as goal

pub returns-in-Ok-clause-is : goal.returns-in-Ok-clause-is
returns-in-Ok-clause-is c = walk_is c.args.kind c.args.stored (record { type = Ok c.in-Ok.kind; type_is = c.in-Ok.ensures; walk_is = c.walk_under.ensures })

pub returns-in-Err-clause-is : goal.returns-in-Err-clause-is
returns-in-Err-clause-is c = walk_is c.args.kind c.args.stored (record { type = Err c.in-Err.field-0; type_is = c.in-Err.ensures; walk_is = refl })
