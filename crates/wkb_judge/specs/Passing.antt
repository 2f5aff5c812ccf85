-- What a pass over the list comes to, and what all passes do.
use Rattle.std.specs.Prelude.{Result, Ok, Err, ◌≡◌, Bool, true, false, not, ◌&&◌, List, map, ℕ, ◌+◌, ◌-◌, ◌/◌, ◌<◌, ◌≤◌, length}
use Rattle.std.proofs.Math.Option.{none, some}
use Rattle.kinds.specs.declared.event.Event.{Event as Flat}
use Rattle.event_log.specs.Log.{records_in}
use Rattle.nesting.specs.Machine.{State, start}
use Rattle.nesting.specs.Flat.{read}
use Rattle.nesting.specs.Levels.{any_depth, sixteen}
use Rattle.wkb_written.specs.Spelling.{outermost, spelled}
use Rattle.wkb_written.specs.Writing.{listed, nested, events_in, one_feature}
use Rattle.wkb_events.specs.Course.{reached, fell, course}
use Rattle.kinds.specs.declared.refusal.Refusal.{Refusal}
use Rattle.kinds.specs.declared.refusal.Refusal.TheVariants.{Malformed, BadlyNested}
use Rattle.wkb_events.specs.declared.walk.Walk.{Walk}
use Rattle.wkb_judge.specs.declared.judge.Nested.{Nested}

-- ---- the answer
pub record Faulty (bytes : List ℕ) : Type 0 where
  pub events : List Flat
  pub listing : events_in bytes ≡ some events
  pub bad : (one_feature bytes && nested any_depth events) ≡ false

pub record Whole (bytes : List ℕ) (deep : Bool) (long : ℕ) : Type 0 where
  pub events : List Flat
  pub listing : events_in bytes ≡ some events
  pub good : (one_feature bytes && nested any_depth events) ≡ true
  pub deep_is : deep ≡ not (nested sixteen events)
  pub long_is : long ≡ length (spelled outermost (map read events))

-- a list is malformed, or it has a fault
pub data RefusedAs (bytes : List ℕ) : Refusal → Type 0 where
  malformed : events_in bytes ≡ none → RefusedAs bytes Malformed
  faulty : Faulty bytes → RefusedAs bytes BadlyNested

abbrev pub JudgedOf : List ℕ → Result Nested Refusal → Type 0
JudgedOf bytes (Ok n) = Whole bytes n.deep n.length
JudgedOf bytes (Err e) = RefusedAs bytes e

-- ---- one pass
-- the heights of the window from `low` on
abbrev pub In : ℕ → ℕ → Type 0
In low height = (low ≤ height) × (height < low + 256)

-- a slot of the window, or the one for what lies outside it
pub record SlotOf (low height r : ℕ) : Type 0 where
  pub most : r ≤ 256
  pub seen : In low height → r ≡ height - low
  pub back : r < 256 → In low height

-- The events were all taken, and with the lowest window the machine is closed; or one was refused at a height that is not of the window.
pub data Ends (events : List Flat) (low highest : ℕ) (deep : Bool) : Type 0 where
  stood : (s : State) → course any_depth (map read events) start ≡ reached s → (low ≡ 0 → (nested any_depth events ≡ true) × (deep ≡ not (nested sixteen events))) → Ends events low highest deep
  beyond : (height : ℕ) → course any_depth (map read events) start ≡ fell height → (In low height → ⊥) → height ≤ highest → Ends events low highest deep

pub record Passed (bytes : List ℕ) (low highest : ℕ) (deep : Bool) (long : ℕ) : Type 0 where
  pub events : List Flat
  pub listing : events_in bytes ≡ some events
  pub one : one_feature bytes ≡ true
  pub few : highest ≤ length bytes / 64
  pub long_is : long ≡ length (spelled outermost (map read events))
  pub ends : Ends events low highest deep

abbrev pub PassOf : List ℕ → ℕ → Result Walk Refusal → Type 0
PassOf bytes low (Ok w) = Passed bytes low w.highest w.deep w.length
PassOf bytes low (Err e) = RefusedAs bytes e

-- what the records from one on come to, behind a fault: one is malformed, or none is
pub data LaterOf (bytes : List ℕ) (from : ℕ) : Refusal → Type 0 where
  later_malformed : listed (records_in bytes - from) from bytes ≡ none → LaterOf bytes from Malformed
  later_events : (events : List Flat) → listed (records_in bytes - from) from bytes ≡ some events → LaterOf bytes from BadlyNested
