use Rattle.std.proofs.Common.{◌-◌}
use Rattle.kinds.specs.Event.{end_e}
use Rattle.wkb_reader.specs.Reading.{saying, ◌⊳◌, several, group_r}
use Rattle.wkb_reader.specs.Onward.{Left}
use Rattle.wkb_reader.proofs.group.read_group.Given as goal

abbrev pub invariant-loop-idx : goal.invariant-loop-idx
invariant-loop-idx g l =
    let f = g.T.Things.thing l.things in
    Left (group_r l.group.order l.group.kind l.group.tagged f l.group.idx) l.fn.log l.fn.input
    (several f (l.size - l.idx) l.idx ⊳ saying (end_e l.group.kind l.group.tagged l.group.idx)) l.log l.left
