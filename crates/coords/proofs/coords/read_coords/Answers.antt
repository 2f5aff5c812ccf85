use Rattle.coords.specs.Coords.{dropped}
use Rattle.coords.specs.Views.{coords_in}
use Rattle.coords.specs.CoordLaws.{plain-pairs}
use Rattle.coords.proofs.coords.read_coords.Goals as goal

pub returns : goal.returns
returns c =
    let a = c.args in
    rw (c.if-lists.false, plain-pairs (dropped a.from (coords_in a.lists.now).lanes) a.words.now 0 0) c.say_pairs.ensures
