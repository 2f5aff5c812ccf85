use Rattle.kinds.proofs.event.Event.keeps.Goals as goal

pub returns : goal.returns
returns c = rw (c.bit_set.ensures, c.bit_set-2.ensures, c.bit_set-3.ensures, c.bit_set-4.ensures)
