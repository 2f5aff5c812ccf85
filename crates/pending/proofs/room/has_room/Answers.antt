use Rattle.std.proofs.Common.{rules}
use Rattle.pending.specs.Room.{has_room_is}
use Rattle.pending.proofs.room.has_room.Goals as goal

pub returns : goal.returns
returns c =
    rw (c.room_in.ensures, c.within.ensures, c.within-2.ensures)
    (has_room_is c.args.p c.args.a c.args.needed c.args.records c.args.pools c.zip_with-ends.result (λ n. search (rules, c.zip_with-ends.ensures n, c.counts.ensures n)))
