use mathlib.Core.Path.{refl}
use Rattle.writing.specs.State.{memory}
use Rattle.pools.specs.PoolsMut.{pools_now}
use Rattle.many.specs.Held.{none_was_taken, some_was_taken}
use Rattle.many.proofs.events.Goals as goal

pub returns-then-took-eq0-clause-took : goal.returns-then-took-eq0-clause-took
returns-then-took-eq0-clause-took c = none_was_taken c.args.s (memory c.args.table.now (pools_now c.args.pools.now)) c.args.bytes.now c.held_by-held.ensures refl c.take_all-took.ensures.took c.if-took-eq0.true

pub returns-clause-took : goal.returns-clause-took
returns-clause-took c = some_was_taken c.args.s (memory c.args.table.now (pools_now c.args.pools.now)) c.args.bytes.now c.held_by-held.ensures refl c.take_all-took.ensures.took c.if-took-eq0.false
