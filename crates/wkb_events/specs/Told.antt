-- What a record was told to be: which event the machine has of it.
use Rattle.std.specs.Prelude.{Result, Ok, Err, ◌≡◌, refl, Bool, true, false, List, ℕ, ◌<◌, eqb}
use Rattle.std.proofs.Common.{sym}
use Rattle.laws.specs.Every.{never}
use Rattle.kinds.specs.Event.{Parsed, WellFormed, Malformed as Unheard, is_event}
use Rattle.kinds.specs.declared.event.Event.{Event as Flat}
use Rattle.kinds.specs.declared.refusal.Refusal.{Refusal}
use Rattle.kinds.specs.declared.refusal.Refusal.TheVariants.{Malformed}
use Rattle.event_log.specs.Log.{heard, feature_in}
use Rattle.nesting.specs.Events.{begin, end, pair, strange}
use Rattle.nesting.specs.Rules.{limit64}
use Rattle.nesting.specs.Flat.{read}
use Rattle.wkb_events.specs.declared.told.Told.{Told}
use Rattle.wkb_events.specs.declared.told.Told.TheVariants.{Pair, Begin, End, Strange}

pub record PairIn (e : Flat) (idx : ℕ) : Type 0 where
  pub x : ℕ
  pub y : ℕ
  pub x_fits : x < limit64
  pub y_fits : y < limit64
  pub reads : read e ≡ pair x y idx

-- an event that is not the feature's is strange, whatever it is
abbrev pub SortedOf : Bool → Flat → Told → Type 0
SortedOf own e (Pair idx) = (own ≡ true) × PairIn e idx
SortedOf own e (Begin type tagged size idx) = (own ≡ true) × (read e ≡ begin type tagged size idx)
SortedOf own e (End type tagged idx) = (own ≡ true) × (read e ≡ end type tagged idx)
SortedOf own e Strange = own ≡ true → read e ≡ strange e.kind

pub record Behind (bytes : List ℕ) (feature : ℕ) (t : Told) : Type 0 where
  pub event : Flat
  pub is : heard bytes ≡ WellFormed event
  pub sorted : SortedOf (eqb (feature_in bytes) feature) event t

abbrev pub ToldOf : List ℕ → ℕ → Result Told Refusal → Type 0
ToldOf bytes feature (Ok t) = Behind bytes feature t
ToldOf bytes feature (Err e) = (e ≡ Malformed) × (heard bytes ≡ Unheard)

-- ---- whether bytes are an event
pub record HeardAs (bytes : List ℕ) : Type 0 where
  pub event : Flat
  pub is : heard bytes ≡ WellFormed event

pub is-event : (bytes : List ℕ) → is_event (heard bytes) ≡ true → HeardAs bytes
is-event bytes h = go (heard bytes) refl h
  where
    go : (p : Parsed) → heard bytes ≡ p → is_event p ≡ true → HeardAs bytes
    go (WellFormed e) is k = record { event = e; is = is }
    go Unheard is k = absurd (never k)

pub no_event : (bytes : List ℕ) → is_event (heard bytes) ≡ false → heard bytes ≡ Unheard
no_event bytes h = go (heard bytes) refl h
  where
    go : (p : Parsed) → heard bytes ≡ p → is_event p ≡ false → heard bytes ≡ Unheard
    go (WellFormed e) is k = absurd (never (sym k))
    go Unheard is k = is
