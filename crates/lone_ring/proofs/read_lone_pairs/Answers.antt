use Rattle.lone_ring.specs.Lone.{lone-said}
use Rattle.lone_ring.proofs.read_lone_pairs.Goals as goal

pub returns : goal.returns
returns c = rw (lone-said c.args.ring.xy.now) c.say_pairs.ensures
