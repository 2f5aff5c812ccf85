-- Behind a fault: no record up to one is malformed.
use Rattle.std.specs.Prelude.{◌≡◌, Bool, true, false, not, List, [], ◌∷◌, ℕ, ◌+◌, ◌-◌, ◌*◌, ◌/◌, ◌%◌, ◌<◌, ◌≤◌, length, take, drop}
use Rattle.std.proofs.Common.{ap, ◌∙◌, arith}
use Rattle.laws.specs.Branch.{is_true, is_false}
use Rattle.kinds.specs.declared.event.Event.{Event as Flat}
use Rattle.event_log.specs.Log.{heard, records_in}
use Rattle.wkb_written.specs.Writing.{listed}
use Rattle.kinds.specs.Event.{is_event}
use Rattle.wkb_events.specs.Told.{is-event, no_event}
use Rattle.wkb_judge.specs.Rows.{lifted, lifted_self, part_is, whole_records, listed_on, listed_none, listed-ends}
use Rattle.wkb_judge.specs.Passing.{LaterOf, later_malformed, later_events}
use Rattle.kinds.specs.declared.refusal.Refusal.TheVariants.{Malformed, BadlyNested}

pub record Searched (bytes : List ℕ) (from i : ℕ) : Type 0 where
  pub puts : List Flat → List Flat
  pub so_far : listed (records_in bytes - from) from bytes ≡ lifted puts (listed (records_in bytes - i) i bytes)

pub none_searched : (bytes : List ℕ) (from : ℕ) → Searched bytes from from
none_searched bytes from = record { puts = λ l. l; so_far = lifted_self (listed (records_in bytes - from) from bytes) }

-- the record `i`, as code has it
abbrev part_of : List ℕ → ℕ → List ℕ
part_of bytes i = take (64 * i + 64 - 64 * i) (drop (64 * i) bytes)

module _ (bytes : List ℕ) (from i : ℕ) (whole : length bytes % 64 ≡ 0) (so_far : Searched bytes from i) where
  pub one_searched : (r : Bool) → i < length bytes / 64 → r ≡ is_event (heard (part_of bytes i)) → not r ≡ false → Searched bytes from (i + 1)
  one_searched r less e h =
      let v = is-event _ (is_true (e ∙ ap (λ (l : List ℕ). is_event (heard l)) (part_is bytes i)) h) in
      record { puts = λ l. so_far.puts (v.event ∷ l); so_far = listed_on bytes i (omega (arith, whole_records bytes whole)) _ so_far.puts so_far.so_far v.event v.is }

  pub one-malformed : (r : Bool) → i < length bytes / 64 → r ≡ is_event (heard (part_of bytes i)) → not r ≡ true → LaterOf bytes from Malformed
  one-malformed r less e h =
      later_malformed (listed_none bytes i (omega (arith, whole_records bytes whole)) _ so_far.puts so_far.so_far (no_event _ (is_false (e ∙ ap (λ (l : List ℕ). is_event (heard l)) (part_is bytes i)) h)))

  pub all_searched : length bytes / 64 ≤ i → LaterOf bytes from BadlyNested
  all_searched over = later_events (so_far.puts []) (listed-ends bytes i (omega (arith, whole_records bytes whole)) _ so_far.puts so_far.so_far)
