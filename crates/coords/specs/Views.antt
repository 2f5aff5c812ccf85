-- What the code's values stand for.
use Rattle.std.specs.Prelude.{◌≡◌, ◌≤◌, Option as OptionR, Some, None, Result, Bool, List, ℕ, length}
use Rattle.std.specs.Option.{ForSome}
use Rattle.std.specs.Borrow.{Bor}
use Rattle.std.proofs.Common.{Ok, Err}
use Rattle.std.proofs.Math.Option.{Option, none, some}
use Rattle.laws.specs.Script.{Script, stop, say, out, run}
use Rattle.kinds.specs.declared.event.Event.{Event}
use Rattle.kinds.specs.declared.refusal.Refusal.{Refusal}
use Rattle.kinds.specs.declared.refusal.Refusal.TheVariants.{PastList}
use Rattle.kinds.specs.Refusal.{number_of}
use Rattle.event_log.specs.declared.log.Log.{Log}
use Rattle.event_log.specs.declared.layouts.Events.{Events}
use Rattle.event_log.specs.Says.{of_events}
use Rattle.coords.specs.declared.lists.Lists.{Lists}
use Rattle.coords.specs.declared.lists.Window.{Window}
use Rattle.coords.specs.Coords.{Value, Absent, Past, Present, Lanes, Coords, dropped, coords_s, between_s}

abbrev pub list_in : {A : Type 0} → OptionR (Bor (List A)) → Option (List A)
list_in None = none
list_in (Some l) = some l.now

abbrev pub coords_in : Lists → Coords
coords_in l = record { many = l.many; xy = list_in l.xy; lanes = record { z = list_in l.z; m = list_in l.m; t = list_in l.t; tm = list_in l.tm } }

abbrev pub value_in : OptionR ℕ → Option ℕ
value_in None = none
value_in (Some v) = some v

-- a value as it is read: 7 where it is past its list
abbrev pub read_of : Value → Result (OptionR ℕ) Refusal
read_of Absent = Ok None
read_of Past = Err PastList
read_of (Present v) = Ok (Some v)

-- a pair said before k, or a refusal
abbrev pub told : Result Event Refusal → Script Event → Script Event
told (Ok e) k = say e k
told (Err r) k = stop (number_of r)

-- pairs, of which the first is the record's pair `from`
abbrev pub pairs_in : Coords → ℕ → List ℕ → Script Event
pairs_in C from words = coords_s C.many (dropped from C.lanes) words 0 0

-- the pairs of a window, and the number of what stands after them
abbrev pub window_s : {A : Type 0} → (A → ℕ) → Coords → Window A → Script Event
window_s number C w = coords_s C.many (dropped w.from C.lanes) w.words.now 0 (number w.last)

-- what a call says to a log, the records of a script, and the script's number, which is that of its answer
pub record Numbered (s : Script Event) (a b : Log Events) (number : ℕ) : Type 0 where
  pub memory : b.bytes.ghost_name ≡ a.bytes.ghost_name
  pub layout : b.layout ≡ a.layout
  pub said : run (of_events a.layout) s a.bytes.now a.count ≡ out number b.count b.bytes.now

-- a window holds the pairs of a list from number `from` to number `to`, whatever stands beside them; `number` is that of what stands after them
pub record Windowed {A : Type 0} (number : A → ℕ) (xy : OptionR (Bor (List ℕ))) (from to : ℕ) (w : Window A) : Type 0 where
  pub from_is : w.from ≡ from
  pub within : (most : ℕ) → ForSome xy (λ l. length l.now ≤ most) → length w.words.now ≤ most
  pub says : (many : Bool) (L : Lanes) → between_s many (list_in xy) L from to ≡ coords_s many (dropped from L) w.words.now 0 (number w.last)
