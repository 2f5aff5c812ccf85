-- What a call says to a log: the records of a script, and the script's number in the answer. The log stays in the same memory, and its
-- records of one layout.
use Rattle.std.specs.Prelude.{◌≡◌, Result}
use Rattle.laws.specs.Script.{Script, Format, out, run}
use Rattle.kinds.specs.declared.refusal.Refusal.{Refusal}
use Rattle.kinds.specs.Refusal.{answer_of}
use Rattle.event_log.specs.Log.{events}
use Rattle.event_log.specs.Values.{values}
use Rattle.event_log.specs.declared.log.Log.{Log}
use Rattle.event_log.specs.declared.layouts.Events.{Events}
use Rattle.event_log.specs.declared.layouts.Values.{Values}
use Rattle.kinds.specs.declared.event.Event.{Event}
use Rattle.kinds.specs.declared.value.Value.{Value}

pub record Says {L A R : Type 0} (format : L → Format A) (s : Script A) (a b : Log L) (r : Result R Refusal) : Type 0 where
  pub memory : b.bytes.ghost_name ≡ a.bytes.ghost_name
  pub layout : b.layout ≡ a.layout
  pub said : run (format a.layout) s a.bytes.now a.count ≡ out (answer_of r) b.count b.bytes.now

-- in the course of a call: what is left to say to the log as it is gives what the whole gives from where it began
pub record Going {L A : Type 0} (format : L → Format A) (s t : Script A) (a b : Log L) : Type 0 where
  pub memory : b.bytes.ghost_name ≡ a.bytes.ghost_name
  pub layout : b.layout ≡ a.layout
  pub left : run (format a.layout) s a.bytes.now a.count ≡ run (format a.layout) t b.bytes.now b.count

-- a log of a feature's events, and a log of values
abbrev pub of_events : Events → Format Event
of_events f = events f.feature

abbrev pub of_values : Values → Format Value
of_values _ = values
