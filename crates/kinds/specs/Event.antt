-- SPEC 2.3, 2.4, 3.3: the kinds of event, the fields that each uses, and the events that keep the rules.
use Rattle.std.specs.Prelude.{Option, Some, None, ◌≡◌, Bool, true, false, not, cond, ◌&&◌, ◌||◌, ℕ, ◌+◌, ◌-◌, ◌/◌, ◌%◌, ◌<◌, leb, ltb, eqb}
use Rattle.kinds.specs.declared.event.Event.{Event}
use Rattle.kinds.specs.declared.event.Uses.{Uses}
use Rattle.kinds.specs.declared.event.Heard.{Heard}
use Rattle.kinds.specs.declared.event.Heard.TheVariants.{Pair, Coordinate, Quiet, Other, Malformed as Unheard}
use Rattle.kinds.specs.declared.event.Xy.{Xy}

-- the types that have events (SPEC 2.2)
abbrev pub has_events : ℕ → Bool
has_events type = (leb 1 type && leb type 12) || (leb 15 type && leb type 17)

-- SPEC 2.3: a begin has its type's number, an end 32 more (below 32 the difference is 0, which has no events), a pair is 64, a coordinate 65
abbrev pub is_begin : ℕ → Bool
is_begin kind = has_events kind

abbrev pub is_end : ℕ → Bool
is_end kind = has_events (kind - 32)

abbrev pub is_xy : ℕ → Bool
is_xy kind = eqb kind 64

abbrev pub is_coordinate : ℕ → Bool
is_coordinate kind = eqb kind 65

-- SPEC 2.4: the begins and the ends of LineString, Polygon and Triangle use tagged
abbrev pub is_tagged_type : ℕ → Bool
is_tagged_type type = eqb type 2 || eqb type 3 || eqb type 17

abbrev pub uses_tagged : ℕ → Bool
uses_tagged kind = is_tagged_type kind || is_tagged_type (kind - 32)

-- size is used by begins but Point's
abbrev pub uses_size : ℕ → Bool
uses_size kind = is_begin kind && not (eqb kind 1)

-- idx is used by all kinds
abbrev pub uses_idx : ℕ → Bool
uses_idx kind = is_begin kind || is_end kind || is_xy kind || is_coordinate kind

-- x and y are used by 64 and 65
abbrev pub uses_pair : ℕ → Bool
uses_pair kind = is_xy kind || is_coordinate kind

-- present bits are used by 65
abbrev pub uses_present : ℕ → Bool
uses_present kind = is_coordinate kind

abbrev pub uses_of : ℕ → Uses
uses_of kind = record { idx = uses_idx kind; tagged = uses_tagged kind; size = uses_size kind; pair = uses_pair kind; present = uses_present kind }

abbrev pub bit_set : ℕ → ℕ → Bool
bit_set bits bit = eqb (bits / bit % 2) 1

-- SPEC 3.3: what a kind does not use is zero, and so is a value that is not present. (A number that does not use idx is no kind.)
abbrev pub keeps_uses : Event → Uses → Bool
keeps_uses e uses =
    uses.idx
    && (uses.tagged || not e.tagged)
    && (uses.present || eqb e.present 0)
    && ltb e.present 16
    && (uses.size || eqb e.size 0)
    && (uses.pair || eqb e.x 0)
    && (uses.pair || eqb e.y 0)
    && ((uses.present && bit_set e.present 1) || eqb e.z 0)
    && ((uses.present && bit_set e.present 2) || eqb e.m 0)
    && ((uses.present && bit_set e.present 4) || eqb e.t 0)
    && ((uses.present && bit_set e.present 8) || eqb e.tm 0)

unfoldable pub well_formed : Event → Bool
well_formed e = keeps_uses e (uses_of e.kind)

-- bytes as an event, or as none
pub data Parsed : Type 0 where
  WellFormed : Event → Parsed
  Malformed : Parsed

-- an event's fields, read from a record whose other bytes are sound or not
unfoldable pub parsed : Bool → Event → Parsed
parsed sound e = cond (sound && well_formed e) (WellFormed e) Malformed

-- a begin that sets no type
abbrev pub is_quiet : Event → Bool
is_quiet e = is_tagged_type e.kind && not e.tagged

-- what the writer tells apart: a pair, a coordinate, a begin that sets no type, any other event, none
abbrev pub told_apart : Parsed → Heard
told_apart Malformed = Unheard
told_apart (WellFormed e) =
    cond (is_xy e.kind) (Pair e.x e.y)
    (cond (is_coordinate e.kind) (Coordinate e)
    (cond (is_quiet e) Quiet (Other e)))

-- a quick look: it tells of a pair that the bytes are one, and of anything else nothing
abbrev pub BareOf : Parsed → Option Xy → Type 0
BareOf p (Some pair) = told_apart p ≡ Pair pair.x pair.y
BareOf p None = Unit

-- the number for each case: done, or 11 (SPEC 3.3)
abbrev pub parsed_number : Parsed → ℕ
parsed_number (WellFormed e) = 0
parsed_number Malformed = 11

-- whether bytes were an event
abbrev pub is_event : Parsed → Bool
is_event (WellFormed e) = true
is_event Malformed = false

-- what every value of the type keeps
pub record EventSized (e : Event) : Type 0 where
  pub size : e.size < 4294967296
  pub idx : e.idx < 4294967296
  pub x : e.x < 18446744073709551616
  pub y : e.y < 18446744073709551616
  pub z : e.z < 18446744073709551616
  pub m : e.m < 18446744073709551616
  pub t : e.t < 18446744073709551616
  pub tm : e.tm < 18446744073709551616

-- ---- the constructors' events
unfoldable pub begin_e : ℕ → Bool → ℕ → ℕ → Event
begin_e kind tagged size idx = record { kind = kind; tagged = tagged; present = 0; size = size; idx = idx; x = 0; y = 0; z = 0; m = 0; t = 0; tm = 0 }

unfoldable pub end_e : ℕ → Bool → ℕ → Event
end_e kind tagged idx = record { kind = kind + 32; tagged = tagged; present = 0; size = 0; idx = idx; x = 0; y = 0; z = 0; m = 0; t = 0; tm = 0 }

unfoldable pub xy_e : ℕ → ℕ → ℕ → Event
xy_e x y idx = record { kind = 64; tagged = false; present = 0; size = 0; idx = idx; x = x; y = y; z = 0; m = 0; t = 0; tm = 0 }

unfoldable pub coordinate_e : ℕ → ℕ → ℕ → ℕ → ℕ → ℕ → ℕ → ℕ → Event
coordinate_e x y present z m t tm idx = record { kind = 65; tagged = false; present = present; size = 0; idx = idx; x = x; y = y; z = z; m = m; t = t; tm = tm }

-- bytes that are an xy event with an index, under a feature's number
pub record OwnPair (p : Parsed) (number feature idx : ℕ) : Type 0 where
  pub x : ℕ
  pub y : ℕ
  pub x_fits : x < 18446744073709551616
  pub y_fits : y < 18446744073709551616
  pub is : p ≡ WellFormed (xy_e x y idx)
  pub own : number ≡ feature
