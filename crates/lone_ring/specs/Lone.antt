-- The coordinates of a record that has an xy list and no other, as they are read with no flag set.
use Rattle.std.specs.Prelude.{◌≡◌, refl, Bool, true, List, [], ℕ, ◌+◌, ◌-◌, ◌/◌, ◌<◌, ◌≤◌, length, take, drop, get_or}
use Rattle.std.proofs.Math.Bool.{false}
use Rattle.std.proofs.Math.Option.{none, some}
use Rattle.laws.specs.Script.{Script, stop, one, ◌⨟◌}
use Rattle.laws.specs.Framed.{framed}
use Rattle.kinds.specs.Event.{begin_e, end_e, xy_e}
use Rattle.kinds.specs.Geometry.{lone_geometry}
use Rattle.kinds.specs.declared.event.Event.{Event}
use Rattle.kinds.specs.declared.flags.Flags.{Flags}
use Rattle.store.specs.Lists.{Pools, lists_of}
use Rattle.geometries.specs.Coordinate.{multi}
use Rattle.coords.specs.Coords.{Lanes, Coords, seen, coords_of, pair_s, coords_s}
use Rattle.lines.specs.Lines.{flat_o, flat_s, rings_s, stretches_s}
use Rattle.coords.specs.CoordLaws.{coords_end, coords_odd, coords_two, plain-pairs}
use Rattle.event_log.specs.Pairs.{xy_s}

abbrev pub no_lanes : Lanes
no_lanes = record { z = none; m = none; t = none; tm = none }

abbrev pub lone_coords : List ℕ → Coords
lone_coords l = record { many = false; xy = some l; lanes = no_lanes }

-- the pairs of a list, numbered from idx
abbrev pub lone_s : List ℕ → ℕ → Script Event
lone_s l idx = coords_s false no_lanes l idx 0

-- ---- what a record with an xy list and no other has, where no flag is set
unseen : (f : Bool) → seen f none ≡ none
unseen true = refl
unseen false = refl

pub lone_coords_lem : (F : Flags) (P : Pools) (kind start count : ℕ) → multi F ≡ false → coords_of F (lists_of P (lone_geometry kind start count)) ≡ lone_coords (take count (drop start P.xy))
lone_coords_lem F P kind start count plain =
    λ i. record {
      many = plain i;
      xy = some (take count (drop start P.xy));
      lanes = record { z = unseen F.z i; m = unseen F.m i; t = unseen F.t i; tm = unseen F.tm i };
    }

-- ---- the words from place i on, the first pair of which has the number idx
module _ (l : List ℕ) (i idx : ℕ) where
  pub lone_end : length l ≤ i → lone_s (drop i l) idx ≡ stop 0
  lone_end h = coords_end false no_lanes l i idx 0 h

  pub lone_odd : i < length l → length l - i < 2 → lone_s (drop i l) idx ≡ stop 7
  lone_odd h k = coords_odd false no_lanes l i idx 0 h k

  pub lone_next : {e : Event} → 2 ≤ length l - i → e ≡ xy_e (get_or l i 0) (get_or l (i + 1) 0) idx → lone_s (drop i l) idx ≡ one e ⨟ lone_s (drop (i + 2) l) (idx + 1)
  unfolding pair_s ◌⨟◌
  lone_next two e = rw e (coords_two false no_lanes l i idx 0 two)

-- ---- the pairs, as a log says them
pub lone-said : (l : List ℕ) → lone_s l 0 ≡ xy_s l 0 0
lone-said l = plain-pairs no_lanes l 0 0

-- ---- a begin, the pairs, an end; and around them the polygon's
pub lone_line : (l : List ℕ) → flat_s (lone_coords l) 2 false 0 ≡ framed (begin_e 2 false (length l / 2) 0) (lone_s l 0) (end_e 2 false 0)
unfolding flat_s flat_o
lone_line l = refl

pub lone_ring : (l : List ℕ) (idx : ℕ) → stretches_s 3 false idx (lone_coords l) [] ≡ framed (begin_e 3 false 1 idx) (flat_s (lone_coords l) 2 false 0) (end_e 3 false idx)
unfolding stretches_s rings_s
lone_ring l idx = refl
