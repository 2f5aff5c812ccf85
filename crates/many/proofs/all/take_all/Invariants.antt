use Prim.Native.Nat.{◌-◌, ◌/◌}
use lib.ListN.{length}
use Rattle.writing.specs.State.{memory}
use Rattle.pools.specs.PoolsMut.{pools_now, SamePools}
use Rattle.many.specs.Going.{Going}
use Rattle.many.proofs.all.take_all.Given as goal

abbrev pub invariant-loop-own : goal.invariant-loop-own
invariant-loop-own l = Going l.bytes l.held l.initial.state (memory l.initial.table (pools_now l.initial.pools)) l.ready l.taken l.state (memory l.table (pools_now l.pools)) × SamePools l.initial.pools l.pools

abbrev pub decreases-loop-own : goal.decreases-loop-own
decreases-loop-own l = length l.bytes / 64 - l.taken
