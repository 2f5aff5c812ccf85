use Rattle.std.proofs.Common.{rules, arith}
use Rattle.pending.specs.Growth.{grown_by_values}
use Rattle.pending.specs.Room.{values_few}
use Rattle.pending.proofs.growth.grown_values.Goals as goal

pub zip_with-requires : goal.zip_with-requires
zip_with-requires c = λ n κs at fits ranges u. rw (c.counts.ensures n) (values_few c.args.p c.args.a c.requires n (omega arith))

pub returns : goal.returns
returns c = grown_by_values c.args.p c.args.a c.zip_with.result (λ n. search (rules, c.zip_with.ensures n, c.counts.ensures n))
