use Rattle.wkb_reader.specs.Reading.{line_r}
use Rattle.wkb_reader.proofs.lines.read_line.Goals as goal

pub returns : goal.returns
returns c = unfold line_r in c.read_group.ensures
