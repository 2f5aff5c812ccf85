use Rattle.own_lists.proofs.own.read_own.Goals as goal

pub returns : goal.returns
returns c = rw (← c.lists_of.ensures.coords, ← c.lists_of.ensures.ends) c.read_lists.ensures
