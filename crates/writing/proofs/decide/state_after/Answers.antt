use Rattle.pending.specs.Room.{grown_fits}
use Rattle.writing.proofs.decide.state_after.Goals as goal

pub past_all-requires : goal.past_all-requires
past_all-requires c = rw c.grown_all-pending.ensures (grown_fits _ _ c.requires.fits)
