-- The events of `kinds`, one record for all kinds, as the machine's, and back.
use Rattle.kinds.specs.declared.event.Event.{Event as Flat}
use Rattle.std.specs.Prelude.{Bool, true, false, ◌&&◌, ℕ, ◌-◌, leb, eqb}
use Rattle.kinds.specs.Event.{begin_e, end_e, xy_e}
use Rattle.nesting.specs.Events.{Event, begin, end, pair, strange}
use Rattle.nesting.specs.Machine.{number, numbered}

abbrev pub is_type : ℕ → Bool
is_type n = leb 1 n && leb n 7

-- kinds 1 to 7 begin, 33 to 39 end, 64 is a pair; a geometry of these types has no other
abbrev pub read_as : (is_begin is_end is_pair : Bool) → Flat → Event
read_as true is_end is_pair e = begin (numbered e.kind) e.tagged e.size e.idx
read_as false true is_pair e = end (numbered (e.kind - 32)) e.tagged e.idx
read_as false false true e = pair e.x e.y e.idx
read_as false false false e = strange e.kind

abbrev pub read : Flat → Event
read e = read_as (is_type e.kind) (is_type (e.kind - 32)) (eqb e.kind 64) e

-- of a strange event only its kind is known, and no law asks for more
abbrev pub flat : Event → Flat
flat (begin type tagged size idx) = begin_e (number type) tagged size idx
flat (end type tagged idx) = end_e (number type) tagged idx
flat (pair x y idx) = xy_e x y idx
flat (strange kind) = begin_e kind false 0 0
