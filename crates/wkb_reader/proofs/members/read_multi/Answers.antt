use Rattle.wkb_reader.specs.Reading.{multi_r}
use Rattle.wkb_reader.proofs.members.read_multi.Goals as goal

pub returns : goal.returns
returns c = unfold multi_r in c.read_group.ensures
