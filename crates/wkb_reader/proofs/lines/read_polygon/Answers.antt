use Rattle.wkb_reader.specs.Reading.{polygon_r}
use Rattle.wkb_reader.proofs.lines.read_polygon.Goals as goal

pub returns : goal.returns
returns c = unfold polygon_r in c.read_group.ensures
