use Rattle.std.proofs.Common.{rules}
use Rattle.wkb_reader.specs.Onward.{same_leads}
use Rattle.wkb_reader.specs.KindLaws.{part_pair, part_line, part_polygon}
use Rattle.wkb_reader.proofs.members.read_part.Goals as goal

pub returns-in-1 : goal.returns-in-1
returns-in-1 c = let a = c.args in same_leads (part_pair a.order a.single a.idx c.in-1.is) c.read.ensures

pub returns-in-2 : goal.returns-in-2
returns-in-2 c = let a = c.args in same_leads (part_line a.order a.single a.idx c.in-2.is) c.read_line.ensures

pub returns-in_default : goal.returns-in_default
returns-in_default c = let a = c.args in same_leads (part_polygon a.order a.single a.idx (search rules) (search rules)) c.read_polygon.ensures
