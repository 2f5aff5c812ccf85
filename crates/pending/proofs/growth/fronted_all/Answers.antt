use Rattle.std.proofs.Common.{rules}
use Rattle.kinds.specs.LaneLaws.{lanes_are}
use Rattle.pending.specs.Words.{words_in}
use Rattle.pending.specs.Growth.{fronted}
use Rattle.pending.proofs.growth.fronted_all.Goals as goal

pub returns : goal.returns
returns c = lanes_are c.map.result (λ n. fronted (words_in c.args.p n)) (λ n. search (rules, c.map.ensures n))
