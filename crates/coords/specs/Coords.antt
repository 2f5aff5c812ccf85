-- SPEC 7.6 to 7.9, read_coordinate and read_coords: what a record's pairs say.
use Rattle.std.specs.Prelude.{Bool, true, false, cond, ◌&&◌, List, [], ◌∷◌, ℕ, ◌+◌, ◌-◌, ◌*◌, length, take, drop, ltb}
use Rattle.std.proofs.Math.Option.{Option, none, some}
use Rattle.laws.specs.Script.{Script, stop, say}
use Rattle.kinds.specs.Event.{xy_e}
use Rattle.kinds.specs.declared.event.Event.{Event}
use Rattle.kinds.specs.declared.flags.Flags.{Flags}
use Rattle.geometries.specs.Coordinate.{multi, coord_e}
use Rattle.store.specs.Lists.{Rec}

-- ---- z, m, t and tm: what stands first of a list that may be absent
pub data Value : Type 0 where
  Absent Past : Value
  Present : ℕ → Value

abbrev pub head_of : Option (List ℕ) → Value
head_of none = Absent
head_of (some []) = Past
head_of (some (v ∷ l)) = Present v

abbrev pub tail_of : Option (List ℕ) → Option (List ℕ)
tail_of none = none
tail_of (some []) = some []
tail_of (some (v ∷ l)) = some l

abbrev pub drop_o : ℕ → Option (List ℕ) → Option (List ℕ)
drop_o n none = none
drop_o n (some l) = some (drop n l)

pub record Lanes : Type 0 where
  pub z : Option (List ℕ)
  pub m : Option (List ℕ)
  pub t : Option (List ℕ)
  pub tm : Option (List ℕ)

abbrev pub dropped : ℕ → Lanes → Lanes
dropped n L = record { z = drop_o n L.z; m = drop_o n L.m; t = drop_o n L.t; tm = drop_o n L.tm }

abbrev pub tails : Lanes → Lanes
tails L = record { z = tail_of L.z; m = tail_of L.m; t = tail_of L.t; tm = tail_of L.tm }

-- ---- a record's coordinates, as the flags let them be seen
pub record Coords : Type 0 where
  pub many : Bool
  pub xy : Option (List ℕ)
  pub lanes : Lanes

abbrev pub seen : Bool → Option (List ℕ) → Option (List ℕ)
seen true o = o
seen false o = none

abbrev pub coords_of : Flags → Rec → Coords
coords_of F r = record { many = multi F; xy = r.xy; lanes = record { z = seen F.z r.z; m = seen F.m r.m; t = seen F.t r.t; tm = seen F.tm r.tm } }

-- ---- a pair: kind 64, or under any flag kind 65 with the values that are there
-- the value that a pair has of a list, none where the list is absent; 7 where the list is there and too short
unfoldable pub taken : Value → (Option ℕ → Script Event) → Script Event
taken Absent f = f none
taken Past f = stop 7
taken (Present v) f = f (some v)

-- the pair of number idx within its line, and then k
unfoldable pub coordinate_s : Value → Value → Value → Value → ℕ → ℕ → ℕ → Script Event → Script Event
coordinate_s z m t tm x y idx k = taken z (λ a. taken m (λ b. taken t (λ c. taken tm (λ d. say (coord_e x y a b c d idx) k))))

unfoldable pub pair_s : Bool → Lanes → ℕ → ℕ → ℕ → Script Event → Script Event
pair_s false L x y idx k = say (xy_e x y idx) k
pair_s true L x y idx k = coordinate_s (head_of L.z) (head_of L.m) (head_of L.t) (head_of L.tm) x y idx k

-- the pairs of a list, numbered from idx; 7 at a pair of which a word is missing, and `last` after the list
unfoldable pub coords_s : Bool → Lanes → List ℕ → ℕ → ℕ → Script Event
coords_s many L [] idx last = stop last
coords_s many L (x ∷ []) idx last = stop 7
coords_s many L (x ∷ (y ∷ l)) idx last = pair_s many L x y idx (coords_s many (tails L) l (idx + 1) last)

-- the pairs from number `from` to number `to`: 7 where the list ends before them
unfoldable pub between_s : Bool → Option (List ℕ) → Lanes → ℕ → ℕ → Script Event
between_s many none L from to = stop 1
between_s many (some l) L from to = coords_s many (dropped from L) (take (2 * to - 2 * from) (drop (2 * from) l)) 0 (cond (ltb from to && ltb (length l) (2 * to)) 7 0)
