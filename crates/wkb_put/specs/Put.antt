-- The bytes that a list of records is spelled as, record by record: what one adds, what is left from one on, and the run of pairs at the front of that.
use Rattle.std.specs.Prelude.{◌≡◌, cond, List, [], ◌∷◌, ◌++◌, map, ℕ, ◌-◌, ◌≤◌, eqb}
use Rattle.std.proofs.Math.Option.{Option, none, some}
use Rattle.kinds.specs.declared.event.Event.{Event}
use Rattle.event_log.specs.Log.{records_in}
use Rattle.nesting.specs.Flat.{read}
use Rattle.wkb_written.specs.declared.around.Around.{Around}
use Rattle.wkb_written.specs.Spelling.{outermost, pair_of, after, bytes_of, spelled}
use Rattle.wkb_written.specs.Writing.{listed, events_in}
use Rattle.wkb_put.specs.declared.output.Output.{Output}
use Rattle.wkb_put.specs.Output.{Laid}

-- what a record's event adds, and what stands around the next
unfoldable pub laid_of : Around → Event → List ℕ
laid_of k e = bytes_of k (read e)

unfoldable pub later_than : Around → Event → Around
later_than k e = after k (read e)

-- ---- a list of records, none of which is malformed
abbrev pub or_none : Option (List Event) → List Event
or_none none = []
or_none (some es) = es

unfoldable pub heard_events : List ℕ → List Event
heard_events bytes = or_none (events_in bytes)

unfoldable pub spelled_of : List ℕ → List ℕ
spelled_of bytes = spelled outermost (map read (heard_events bytes))

-- the events from record i on
unfoldable pub events_from : List ℕ → ℕ → List Event
events_from bytes i = or_none (listed (records_in bytes - i) i bytes)

unfoldable pub HeardFrom : List ℕ → ℕ → Type 0
HeardFrom bytes i = listed (records_in bytes - i) i bytes ≡ some (events_from bytes i)

-- ---- the pairs that events begin with, as bytes where they are no Points, and the events behind them
unfoldable pub run_bytes : List Event → List ℕ
run_bytes [] = []
run_bytes (e ∷ es) = cond (eqb e.kind 64) (pair_of e.x e.y ++ run_bytes es) []

unfoldable pub behind_run : List Event → List Event
behind_run [] = []
behind_run (e ∷ es) = cond (eqb e.kind 64) (behind_run es) (e ∷ es)

-- The run from record `from` on was laid down: the record behind it.
pub record RunLaid (bytes : List ℕ) (from : ℕ) (a b : Output) (next : ℕ) : Type 0 where
  pub laid : Laid a b (run_bytes (events_from bytes from))
  pub behind : events_from bytes next ≡ behind_run (events_from bytes from)
  pub heard : HeardFrom bytes next
  pub past : from ≤ next
