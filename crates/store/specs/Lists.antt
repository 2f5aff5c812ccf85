-- A record with its lists: what stands in the pools where its stretches say.
use Rattle.std.specs.Prelude.{◌≡◌, List, ℕ, ◌+◌, ◌≤◌, length, take, drop, Some, None}
use Rattle.std.proofs.Math.Option.{Option, none, some}
use Rattle.std.proofs.Common.{arith, length-drop, length-take-le}
use Rattle.kinds.specs.Geometry.{Span}
use Rattle.kinds.specs.Lanes.{Lent}
use Rattle.kinds.specs.declared.geometry.Geometry.{Geometry}
use Rattle.store.specs.declared.pools.Pools.{Pools as LentPools}
use Rattle.store.specs.Records.{Judged, record_at}

-- the words of the six pools
pub record Pools : Type 0 where
  pub xy : List ℕ
  pub ends : List ℕ
  pub z : List ℕ
  pub m : List ℕ
  pub t : List ℕ
  pub tm : List ℕ

abbrev pub pools_of : List ℕ → List ℕ → List ℕ → List ℕ → List ℕ → List ℕ → Pools
pools_of xy ends z m t tm = record { xy = xy; ends = ends; z = z; m = m; t = t; tm = tm }

-- the words that a program's pools are lent with
abbrev pub pools_in : LentPools → Pools
pools_in p = pools_of p.xy.now p.ends.now p.z.now p.m.now p.t.now p.tm.now

abbrev pub lent_of : Pools → Lent
lent_of P = record { xy = length P.xy; ends = length P.ends; z = length P.z; m = length P.m; t = length P.t; tm = length P.tm }

-- a record with lists; its parts are consecutive records, from a number on
pub record Rec : Type 0 where
  pub kind : ℕ
  pub xy : Option (List ℕ)
  pub ends : Option (List ℕ)
  pub z : Option (List ℕ)
  pub m : Option (List ℕ)
  pub t : Option (List ℕ)
  pub tm : Option (List ℕ)
  pub parts : Option (ℕ × ℕ)

abbrev pub list_of : List ℕ → Span → Option (List ℕ)
list_of pool None = none
list_of pool (Some s) = some (take s.count (drop s.start pool))

abbrev pub parts_of : Span → Option (ℕ × ℕ)
parts_of None = none
parts_of (Some s) = some (s.start, s.count)

abbrev pub lists_of : Pools → Geometry → Rec
lists_of P g =
    record {
      kind = g.kind;
      xy = list_of P.xy g.xy;
      ends = list_of P.ends g.ends;
      z = list_of P.z g.z;
      m = list_of P.m g.m;
      t = list_of P.t g.t;
      tm = list_of P.tm g.tm;
      parts = parts_of g.parts;
    }

abbrev pub seen : Pools → Judged → Option Rec
seen P None = none
seen P (Some g) = some (lists_of P g)

-- the record with a number, none where it is bad
unfoldable pub record_with : List ℕ → Pools → ℕ → Option Rec
record_with table P n = seen P (record_at table (lent_of P) n)

pub with_good : (table : List ℕ) (P : Pools) (n : ℕ) (g : Geometry) → record_at table (lent_of P) n ≡ Some g → record_with table P n ≡ some (lists_of P g)
unfolding record_with
with_good table P n g h = rw h

pub with_bad : (table : List ℕ) (P : Pools) (n : ℕ) → record_at table (lent_of P) n ≡ None → record_with table P n ≡ none
unfolding record_with
with_bad table P n h = rw h

-- a stretch within its pool has as many words as it says
pub stretch_length : (pool : List ℕ) (start count : ℕ) → start + count ≤ length pool → length (take count (drop start pool)) ≡ count
stretch_length pool start count h = length-take-le count (drop start pool) (omega (arith, length-drop start pool))
