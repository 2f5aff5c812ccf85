use Rattle.std.proofs.Common.{rules, leb, ◌∙◌}
use Rattle.kinds.specs.Lanes.{lane}
use Rattle.kinds.specs.LaneLaws.{every_same}
use Rattle.kinds.proofs.lanes.Lanes+usize.within.Goals as goal

pub returns : goal.returns
returns c = c.all.ensures ∙ every_same (lane c.zip_with.result) (λ n. leb (lane c.args.self n) (lane c.args.most n)) (λ n. search (rules, c.zip_with.ensures n))
