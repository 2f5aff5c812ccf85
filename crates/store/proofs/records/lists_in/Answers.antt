use mathlib.Core.Bool.{◌&&◌}
use Rattle.store.specs.Records.{lists_in}
use Rattle.store.proofs.records.lists_in.Goals as goal

pub returns : goal.returns
returns c = unfold lists_in in λ i. c.in_pool.ensures i && c.in_pool-2.ensures i && c.in_pool-3.ensures i && c.in_pool-4.ensures i && c.in_pool-5.ensures i && c.in_pool-6.ensures i && c.in_table.ensures i
