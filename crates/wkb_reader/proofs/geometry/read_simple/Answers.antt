use Rattle.std.proofs.Common.{rules}
use Rattle.wkb_reader.specs.Onward.{same_leads}
use Rattle.wkb_reader.specs.KindLaws.{simple_point, simple_line, simple_polygon, simple_multi}
use Rattle.wkb_reader.proofs.geometry.read_simple.Goals as goal

pub returns-in-1 : goal.returns-in-1
returns-in-1 c = let a = c.args in same_leads (simple_point a.order a.kind a.idx a.left c.in-1.is) c.read_point.ensures

pub returns-in-2 : goal.returns-in-2
returns-in-2 c = let a = c.args in same_leads (simple_line a.order a.kind a.idx a.left c.in-2.is) c.read_line.ensures

pub returns-in-3 : goal.returns-in-3
returns-in-3 c = let a = c.args in same_leads (simple_polygon a.order a.kind a.idx a.left c.in-3.is) c.read_polygon.ensures

pub returns-in_default : goal.returns-in_default
returns-in_default c = let a = c.args in same_leads (simple_multi a.order a.kind a.idx a.left (search rules) (search rules) (search rules)) c.read_multi.ensures
