use Rattle.std.proofs.Common.{rules, arith}
use Rattle.kinds.specs.LaneLaws.{lanes_are, usable_most}
use Rattle.pending.specs.Words.{words_in}
use Rattle.pending.specs.Growth.{grown, more, grown_all}
use Rattle.pending.proofs.growth.grown_all.Goals as goal

pub zip_with-requires : goal.zip_with-requires
zip_with-requires c = λ n κs at fits ranges u. rw (c.counts.ensures n) (omega (arith, c.requires n, usable_most n))

pub returns : goal.returns
returns c = unfold grown_all in lanes_are c.zip_with.result (λ n. grown (words_in c.args.p n) (more c.args.a n)) (λ n. search (rules, c.zip_with.ensures n, c.counts.ensures n))
