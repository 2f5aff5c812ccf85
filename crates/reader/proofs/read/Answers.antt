use Rattle.std.proofs.lemmas.Result.{err_from_is_err_and}
use Rattle.store.specs.Lists.{pools_in, lists_of, record_with}
use Rattle.event_log.specs.Says.{of_events}
use Rattle.event_log.specs.SaysLaws.{refuses}
use Rattle.reader.proofs.RoleLaws.{read_good, read_bad, good_record, good_lists, bad_record}
use Rattle.reader.proofs.read.Goals as goal

pub returns-in_default : goal.returns-in_default
returns-in_default c =
    let a = c.args in
    let P = pools_in a.store.now.pools in
    rw (read_bad a.flags (record_with a.store.now.table.now P) a.declared (bad_record a.store.now.table.now P 0 c.record.ensures c.in_default.is)) (refuses of_events _ _)

pub returns-in_err-walk : goal.returns-in_err-walk
returns-in_err-walk c =
    let a = c.args in
    let P = pools_in a.store.now.pools in
    let p = err_from_is_err_and c.from_residual.result c.from_residual.ensures.1 in
    rw (p.1, p.2, read_good a.flags (record_with a.store.now.table.now P) a.declared (lists_of P c.in-Some.g) (good_record a.store.now.table.now P 0 c.record.ensures c.in-Some.is) (rw c.type_of.ensures at c.in_err-walk.ensures.typed)) (refuses of_events _ _)

pub read_geometry_n-requires : goal.read_geometry_n-requires
read_geometry_n-requires c = let a = c.args in good_lists a.store.now.table.now (pools_in a.store.now.pools) 0 c.record.ensures c.in-Some.is

pub returns : goal.returns
returns c =
    let a = c.args in
    let P = pools_in a.store.now.pools in
    rw (read_good a.flags (record_with a.store.now.table.now P) a.declared (lists_of P c.in-Some.g) (good_record a.store.now.table.now P 0 c.record.ensures c.in-Some.is) (rw c.type_of.ensures at c.in_ok-walk.ensures.typed)) c.read_geometry_n.ensures
