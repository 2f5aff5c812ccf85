use Rattle.store.specs.Lists.{pools_in}
use Rattle.record_box.specs.BoxLaws.{past_box, left_box}
use Rattle.record_box.proofs.box_at.Goals as goal

pub returns-then-n-ge-RECORDS : goal.returns-then-n-ge-RECORDS
returns-then-n-ge-RECORDS c =
    let s = c.args.store.now in
    past_box s.table.now (pools_in s.pools) c.args.n c.if-n-ge-RECORDS.true

pub returns-else-n-ge-RECORDS : goal.returns-else-n-ge-RECORDS
returns-else-n-ge-RECORDS c =
    let s = c.args.store.now in
    left_box s.table.now (pools_in s.pools) c.args.n c.empty.ensures c.enter.result c.enter.new.marks c.enter.ensures
