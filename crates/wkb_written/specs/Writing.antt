-- What is written of a list of events: 11 over the whole list, then 21, then 13, then 12, and otherwise the bytes.
use Rattle.std.specs.Prelude.{◌≡◌, Bool, true, false, cond, ◌&&◌, List, [], ◌∷◌, map, ℕ, zero, suc, ◌+◌, eqb, leb, length}
use Rattle.std.proofs.Math.Option.{Option, none, some}
use Rattle.std.proofs.lemmas.List.Edits.{sets}
use Rattle.kinds.specs.Event.{Parsed, WellFormed, Malformed}
use Rattle.kinds.specs.declared.event.Event.{Event}
use Rattle.event_log.specs.Log.{heard, feature_in, record_of, records_in}
use Rattle.nesting.specs.Rules.{Rules}
use Rattle.nesting.specs.Machine.{Answer, taken, refused, within, start, run}
use Rattle.nesting.specs.Flat.{read}
use Rattle.nesting.specs.Levels.{any_depth, sixteen}
use Rattle.wkb_written.specs.Spelling.{outermost, spelled}

-- the events of a list, where none of its records is malformed
abbrev pub before : Parsed → Option (List Event) → Option (List Event)
before Malformed es = none
before (WellFormed e) none = none
before (WellFormed e) (some es) = some (e ∷ es)

unfoldable pub listed : ℕ → ℕ → List ℕ → Option (List Event)
listed zero i bytes = some []
listed (suc left) i bytes = before (heard (record_of bytes i)) (listed left (i + 1) bytes)

abbrev pub events_in : List ℕ → Option (List Event)
events_in bytes = listed (records_in bytes) 0 bytes

-- whether all records are of one feature
unfoldable pub alike : ℕ → ℕ → List ℕ → ℕ → Bool
alike zero i bytes feature = true
alike (suc left) i bytes feature = eqb (feature_in (record_of bytes i)) feature && alike left (i + 1) bytes feature

abbrev pub one_feature : List ℕ → Bool
one_feature bytes = alike (records_in bytes) 0 bytes (feature_in (record_of bytes 0))

-- the machine has all of a geometry's events, and no more
abbrev pub is_closed : Answer → Bool
is_closed (refused number) = false
is_closed (taken (within f [])) = eqb f.done 1
is_closed (taken (within f (p ∷ fs))) = false

unfoldable pub nested : Rules → List Event → Bool
nested R es = is_closed (run R (map read es) start)

-- a number and the bytes that are written, none where it is not 0
pub record Written : Type 0 where
  pub number : ℕ
  pub bytes : List ℕ

abbrev pub refused_with : ℕ → Written
refused_with number = record { number = number; bytes = [] }

abbrev pub if_room : ℕ → List ℕ → Written
if_room room bytes = cond (leb (length bytes) room) (record { number = 0; bytes = bytes }) (refused_with 12)

unfoldable pub written_of : Option (List Event) → Bool → ℕ → Written
written_of none one room = refused_with 11
written_of (some es) one room = cond (one && nested any_depth es) (cond (nested sixteen es) (if_room room (spelled outermost (map read es))) (refused_with 13)) (refused_with 21)

unfoldable pub writing : List ℕ → ℕ → Written
writing bytes room = written_of (events_in bytes) (one_feature bytes) room

-- What a call that writes into L has done: it said the number and how many bytes, and those lie at the start of L, with the rest of it as it was.
pub record Did (w : Written) (L : List ℕ) (number long : ℕ) (L' : List ℕ) : Type 0 where
  pub number_is : number ≡ w.number
  pub long_is : long ≡ length w.bytes
  pub laid : L' ≡ sets L 0 w.bytes
