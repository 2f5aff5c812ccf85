-- The log: events as 64-byte records, with the number of the feature that they are of.
use Rattle.std.specs.Prelude.{◌≡◌, true, cond, List, ℕ, ◌+◌, ◌/◌, ◌%◌, ◌<◌, eqb, length}
use Rattle.std.proofs.Common.{lit<}
use Rattle.laws.specs.Blocks.{block}
use Rattle.laws.specs.Script.{Format}
use Rattle.event_layout.specs.Event.{event_bytes, feature_of, read_event}
use Rattle.event_layout.specs.EventLaws.{event-length, event_back, feature_back, event_forth}
use Rattle.laws.specs.Bytes.{Bytes}
use Rattle.kinds.specs.Event.{Parsed, WellFormed, well_formed, EventSized}
use Rattle.kinds.specs.declared.event.Event.{Event}

-- the records of a feature's events in a log
unfoldable pub events : ℕ → Format Event
events feature = record { bytes = event_bytes feature; wide = 64; long = event-length feature; some = lit< tt }

-- the event that bytes are, or malformed; and the number of its feature
unfoldable pub heard : List ℕ → Parsed
heard bytes = read_event bytes

unfoldable pub feature_in : List ℕ → ℕ
feature_in bytes = feature_of bytes

-- what is said is heard as itself, under its number, and what is heard is what saying it under that number lays down
pub hear_said : (feature : ℕ) (e : Event) → EventSized e → well_formed e ≡ true → heard ((events feature).bytes e) ≡ WellFormed e
unfolding heard events
hear_said feature e sized formed = event_back feature e sized formed

pub feature-said : (feature : ℕ) (e : Event) → feature < 4294967296 → feature_in ((events feature).bytes e) ≡ feature
unfolding feature_in events
feature-said feature e fits = feature_back feature e fits

pub record SaidAs (bytes : List ℕ) (e : Event) : Type 0 where
  pub laid : (events (feature_in bytes)).bytes e ≡ bytes
  pub formed : well_formed e ≡ true

pub said-heard : (bytes : List ℕ) (e : Event) → Bytes bytes → heard bytes ≡ WellFormed e → SaidAs bytes e
unfolding heard feature_in events
said-heard bytes e b h = let r = event_forth bytes e b h in record { laid = r.bytes; formed = r.formed }

-- ---- a list of records, one behind the other
-- a tail shorter than 64 bytes is a record too: malformed
abbrev pub record_of : List ℕ → ℕ → List ℕ
record_of bytes i = block 64 bytes i

abbrev pub records_in : List ℕ → ℕ
records_in bytes = (length bytes + 63) / 64

-- what is left of a list behind its whole records: nothing, or a tail, which is malformed
abbrev pub rest_number : ℕ → ℕ
rest_number long = cond (eqb (long % 64) 0) 0 11
