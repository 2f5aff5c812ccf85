use Rattle.std.proofs.Common.{◌+◌, ◌*◌, ◌-◌, false}
use Rattle.kinds.specs.Event.{end_e}
use Rattle.wkb_reader.specs.Reading.{saying, ◌⊳◌, several, group_r, geometry_r}
use Rattle.wkb_reader.specs.Onward.{Left}
use Rattle.wkb_reader.proofs.geometry.+geometry.Given as goal

abbrev pub decreases-read_collection : goal.decreases-read_collection
decreases-read_collection l = 2 * l.left + 2

abbrev pub decreases-read_geometry : goal.decreases-read_geometry
decreases-read_geometry l = 2 * l.left + 1

abbrev pub invariant-read_collection-loop-member : goal.invariant-read_collection-loop-member
invariant-read_collection-loop-member l =
    Left (group_r l.fn.order 7 false (geometry_r l.left) l.idx) l.fn.log l.fn.input
    (several (geometry_r l.left) (l.size - l.member) l.member ⊳ saying (end_e 7 false l.idx)) l.log l.input
