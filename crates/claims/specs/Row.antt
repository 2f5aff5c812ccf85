-- SPEC 11.4: a row of the calls that a machine links, from start on, in any order, accepted or refused, and what of it was accepted. Read, read_properties and box take no state and only read what is lent, so they are no steps of a row.
use Rattle.std.specs.Prelude.{◌≡◌, cond, List, [], ◌∷◌, ◌++◌, ℕ, zero, suc, ◌+◌, ◌<◌, take, eqb}
use Rattle.kinds.specs.declared.event.Event.{Event}
use Rattle.kinds.specs.Event.{Parsed, WellFormed, Malformed}
use Rattle.event_log.specs.Log.{heard, feature_in, record_of}
use Rattle.property_writer.specs.Writing.{bytes_after}
use Rattle.properties.specs.RoundTrip.{Property}
use Rattle.writing.specs.State.{Mem, Wrote}
use Rattle.writing.specs.Calls.{started, event_call, finish_call, next_call}
use Rattle.runs.specs.Events.{events_call}
use Rattle.writer.specs.Property.{property_call}
use Rattle.as_words.specs.Words.{state_of, words_of, words_after}
use Rattle.bintolage.specs.Calls.{yes, Kept, kept_of, Taken, taken_of}
use Rattle.writer_model.specs.Stands.{Agrees}
use Rattle.writer_model.specs.Pairs.{pending_at}
use Rattle.writer_model.specs.Fed.{pairs_of}

-- ---- a call: what it is given, what it is lent, and what it answers and leaves by its contract
pub data Call : Type 0 where
  event events : List ℕ → Call
  property : Property → Call
  finish next : Call

-- the table and the pools, and the property buffer
pub record Lends : Type 0 where
  pub mem : Mem
  pub buffer : List ℕ

abbrev pub lends : Mem → List ℕ → Lends
lends mem buffer = record { mem = mem; buffer = buffer }

pub record Left : Type 0 where
  pub number : ℕ
  pub words : List ℕ
  pub lends : Lends

abbrev pub taken_by : List ℕ → Mem → List ℕ → Taken
taken_by words k bytes = taken_of words (events_call (state_of words) k bytes)

abbrev pub put : List ℕ → Property → List ℕ → Wrote
put words p buffer = property_call (state_of words) p.column p.kind p.bits p.text buffer

abbrev pub bytes_put : List ℕ → Property → List ℕ → List ℕ
bytes_put words p buffer = let s = state_of words in bytes_after s.waiting s.properties p.column p.kind p.bits p.text buffer

-- the property buffer is lent to `property` alone, and the rest to the others
abbrev pub keeps : List ℕ → Kept → Left
keeps buffer o = record { number = o.number; words = o.words; lends = lends o.mem buffer }

abbrev pub leaves : List ℕ → Lends → Call → Left
leaves words l (event bytes) = keeps l.buffer (kept_of words (event_call (state_of words) l.mem bytes))
leaves words l (events bytes) = let o = taken_by words l.mem bytes in record { number = o.number; words = o.words; lends = lends o.mem l.buffer }
leaves words l (property p) = let r = put words p l.buffer in record { number = r.number; words = words_after words r; lends = lends l.mem (bytes_put words p l.buffer) }
leaves words l finish = keeps l.buffer (kept_of words (finish_call (state_of words) l.mem))
leaves words l next = keeps l.buffer (kept_of words (next_call (state_of words) l.mem))

-- ---- what was accepted: events with their numbers, finishes and nexts since start; the pairs that the last next carried in, and those since; the properties since next
pub data Step : Type 0 where
  took : ℕ → Event → Step
  finished renewed : Step

pub record Accepted : Type 0 where
  pub steps : List Step
  pub pairs : List ℕ
  pub properties : List Property

abbrev pub nothing : Accepted
nothing = record { steps = []; pairs = []; properties = [] }

-- events, each with the number of its feature
abbrev pub took_all : List (ℕ × Event) → List Step
took_all [] = []
took_all (e ∷ es) = took e.0 e.1 ∷ took_all es

abbrev pub events_in : List (ℕ × Event) → List Event
events_in [] = []
events_in (e ∷ es) = e.1 ∷ events_in es

-- all of one number
abbrev pub all_under : ℕ → List Event → List (ℕ × Event)
all_under n [] = []
all_under n (e ∷ es) = (n, e) ∷ all_under n es

abbrev pub with_events : Accepted → List (ℕ × Event) → Accepted
with_events a es = record { steps = a.steps ++ took_all es; pairs = a.pairs ++ pairs_of (events_in es); properties = a.properties }

-- the event that a record of number n is, and those of so many records from record i on
abbrev pub heard_in : ℕ → Parsed → List (ℕ × Event)
heard_in n Malformed = []
heard_in n (WellFormed e) = (n, e) ∷ []

abbrev pub heard_from : ℕ → ℕ → List ℕ → List (ℕ × Event)
heard_from zero i bytes = []
heard_from (suc count) i bytes = let one = record_of bytes i in heard_in (feature_in one) (heard one) ++ heard_from count (i + 1) bytes

abbrev pub with_property : Accepted → Property → Accepted
with_property a p = record { steps = a.steps; pairs = a.pairs; properties = a.properties ++ p ∷ [] }

abbrev pub with_finish : Accepted → Accepted
with_finish a = record { steps = a.steps ++ finished ∷ []; pairs = a.pairs; properties = a.properties }

abbrev pub with_next : Accepted → List ℕ → Accepted
with_next a carried = record { steps = a.steps ++ renewed ∷ []; pairs = carried; properties = [] }

-- next carries in what is pending
abbrev pub carried_by : List ℕ → Mem → List ℕ
carried_by words k = pending_at (state_of words).pending.xy k.pools.xy

abbrev pub if_done : Left → Accepted → Accepted → Accepted
if_done o then a = cond (eqb o.number 0) then a

-- of many events, those before the first that was refused
abbrev pub accepts : List ℕ → Lends → Call → Accepted → Accepted
accepts words l (event bytes) a = if_done (leaves words l (event bytes)) (with_events a (heard_in (feature_in bytes) (heard bytes))) a
accepts words l (events bytes) a = with_events a (heard_from (taken_by words l.mem bytes).taken 0 bytes)
accepts words l (property p) a = if_done (leaves words l (property p)) (with_property a p) a
accepts words l finish a = if_done (leaves words l finish) (with_finish a) a
accepts words l next a = if_done (leaves words l next) (with_next a (carried_by words l.mem)) a

-- a call of which nothing was taken
abbrev pub Untaken : List ℕ → Lends → Call → Type 0
Untaken words l (event bytes) = (leaves words l (event bytes)).number ≡ 0 → ⊥
Untaken words l (events bytes) = (taken_by words l.mem bytes).taken ≡ 0
Untaken words l (property p) = (leaves words l (property p)).number ≡ 0 → ⊥
Untaken words l finish = (leaves words l finish).number ≡ 0 → ⊥
Untaken words l next = (leaves words l next).number ≡ 0 → ⊥

-- ---- what the state uses of the lent memory, and as many property bytes as it counts, are the same in both
pub record SameLent (words : List ℕ) (l l' : Lends) : Type 0 where
  pub mem : Agrees (state_of words) l.mem l'.mem
  pub properties : take (state_of words).properties l'.buffer ≡ take (state_of words).properties l.buffer

-- between calls all else may change, every lent length too; a call of which nothing is taken may be lent anything
pub data Row (declared detect promote : ℕ) : List ℕ → Lends → Accepted → Type 0 where
  start : (l : Lends) → declared < 256 → Row declared detect promote (words_of (started declared (yes detect) (yes promote))) l nothing
  lent : {words : List ℕ} {l : Lends} {a : Accepted} (l' : Lends) → SameLent words l l' → Row declared detect promote words l a → Row declared detect promote words l' a
  call : {words : List ℕ} {l : Lends} {a : Accepted} (c : Call) → Row declared detect promote words l a → Row declared detect promote (leaves words l c).words (leaves words l c).lends (accepts words l c a)
  untaken : {words : List ℕ} {l : Lends} {a : Accepted} (l' : Lends) (c : Call) → Untaken words l' c → Row declared detect promote words l a → Row declared detect promote (leaves words l' c).words l a
