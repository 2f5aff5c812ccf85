-- The six lent pools as they are written: what they hold, and that they stay the same slices.
use Rattle.std.specs.Prelude.{◌≡◌}
use Rattle.store.specs.Lists.{Pools, pools_of}
use Rattle.pools.specs.declared.pools_mut.PoolsMut.{PoolsMut}

abbrev pub pools_now : PoolsMut → Pools
pools_now p = pools_of p.xy.now p.ends.now p.z.now p.m.now p.t.now p.tm.now

pub record SamePools (before after : PoolsMut) : Type 0 where
  pub xy : after.xy.ghost_name ≡ before.xy.ghost_name
  pub ends : after.ends.ghost_name ≡ before.ends.ghost_name
  pub z : after.z.ghost_name ≡ before.z.ghost_name
  pub m : after.m.ghost_name ≡ before.m.ghost_name
  pub t : after.t.ghost_name ≡ before.t.ghost_name
  pub tm : after.tm.ghost_name ≡ before.tm.ghost_name
