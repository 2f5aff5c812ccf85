use mathlib.Core.Path.{ap, ◌∙◌}
use lib.ListN.{length}
use native.Mathlib.Omega.{arith}
use Rattle.wkb_put.specs.Output.{nothing, laid_as}
use Rattle.wkb_put.specs.PutEvent.{laid-begin, laid-point, laid-pair, laid-nothing, later-begin, later-pair, later-same}
use Rattle.wkb_put.proofs.put.put_event.Goals as goal

pub begin-requires : goal.begin-requires
begin-requires c = let a = c.args in omega (arith, ap length (laid-begin a.around a.e c.in-Some.kind c.in-Some.ensures), c.requires)

pub returns-in-Some-clause-laid : goal.returns-in-Some-clause-laid
returns-in-Some-clause-laid c = let a = c.args in laid_as (laid-begin a.around a.e c.in-Some.kind c.in-Some.ensures) c.begin.ensures

pub returns-in-Some-clause-later : goal.returns-in-Some-clause-later
returns-in-Some-clause-later c = let a = c.args in c.behind_begin.ensures a.e.tagged a.e.size a.e.idx ∙ later-begin a.around a.e c.in-Some.kind c.in-Some.ensures

pub returns-then-e-ne-XY-clause-laid : goal.returns-then-e-ne-XY-clause-laid
returns-then-e-ne-XY-clause-laid c = let a = c.args in laid_as (laid-nothing a.around a.e c.in_default.ensures c.if-e-ne-XY.true) (nothing _)

pub returns-then-e-ne-XY-clause-later : goal.returns-then-e-ne-XY-clause-later
returns-then-e-ne-XY-clause-later c = let a = c.args in later-same a.around a.e c.in_default.ensures c.if-e-ne-XY.true

pub point-requires : goal.point-requires
point-requires c = let a = c.args in omega (arith, ap length (laid-point a.around a.e c.if-e-ne-XY.false c.if-around.true), c.requires)

pub returns-then-around-clause-laid : goal.returns-then-around-clause-laid
returns-then-around-clause-laid c = let a = c.args in laid_as (laid-point a.around a.e c.if-e-ne-XY.false c.if-around.true) c.point.ensures

pub returns-then-around-clause-later : goal.returns-then-around-clause-later
returns-then-around-clause-later c = later-pair c.args.around c.args.e c.if-e-ne-XY.false

pub pair-requires : goal.pair-requires
pair-requires c = let a = c.args in omega (arith, ap length (laid-pair a.around a.e c.if-e-ne-XY.false c.if-around.false), c.requires)

pub returns-clause-laid : goal.returns-clause-laid
returns-clause-laid c = let a = c.args in laid_as (laid-pair a.around a.e c.if-e-ne-XY.false c.if-around.false) c.pair.ensures

pub returns-clause-later : goal.returns-clause-later
returns-clause-later c = later-pair c.args.around c.args.e c.if-e-ne-XY.false
