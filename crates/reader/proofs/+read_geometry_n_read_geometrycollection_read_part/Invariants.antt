-- A record is read at most two calls below its part, and its parts one level below it.
use Rattle.std.proofs.Common.{◌+◌, ◌-◌, ◌*◌, false}
use Rattle.laws.specs.Script.{one, ◌⨟◌}
use Rattle.kinds.specs.Event.{end_e}
use Rattle.store.specs.Lists.{pools_in, record_with}
use Rattle.event_log.specs.Says.{Going, of_events}
use Rattle.reader.specs.Reading.{parts_s}
use Rattle.reader.specs.Roles.{part_s}
use Rattle.reader.proofs.+read_geometry_n_read_geometrycollection_read_part.Given as goal

abbrev pub decreases-read_geometry_n : goal.decreases-read_geometry_n
decreases-read_geometry_n l = 4 * l.levels + 2

abbrev pub decreases-read_geometrycollection : goal.decreases-read_geometrycollection
decreases-read_geometrycollection l = 4 * l.levels + 1

abbrev pub decreases-read_part : goal.decreases-read_part
decreases-read_part l = 4 * l.levels

abbrev pub invariant-read_geometrycollection-loop-i : goal.invariant-read_geometrycollection-loop-i
invariant-read_geometrycollection-loop-i l =
    Going of_events
    (parts_s (part_s l.flags l.role l.levels (record_with l.store.table.now (pools_in l.store.pools))) l.count l.start 0 ⨟ one (end_e l.head.kind false l.idx))
    (parts_s (part_s l.flags l.role l.levels (record_with l.store.table.now (pools_in l.store.pools))) (l.count - l.i) (l.start + l.i) l.i ⨟ one (end_e l.head.kind false l.idx))
    l.initial.log l.log
