-- What bytes that are heard are, and what they are not.
use Rattle.std.specs.Prelude.{◌≡◌, refl, Bool, true, false, cond, ◌&&◌, List, ℕ, length, eqb}
use Rattle.std.proofs.Common.{arith, eqb-true, ne_eqb}
use Rattle.std.proofs.lemmas.Bool.{eqb-false}
use Rattle.kinds.specs.Event.{Parsed, WellFormed, Malformed, well_formed, is_quiet, told_apart}
use Rattle.kinds.specs.EventLaws.{xy_alone}
use Rattle.kinds.specs.declared.event.Event.{Event}
use Rattle.kinds.specs.declared.event.Heard.{Heard}
use Rattle.kinds.specs.declared.event.Heard.TheVariants.{Pair, Coordinate, Quiet, Other, Malformed as Unheard}
use Rattle.event_layout.specs.Event.{event_of, spare_zero, read_event}
use Rattle.event_log.specs.Log.{heard}

pub not_whole : (bytes : List ℕ) → (length bytes ≡ 64 → ⊥) → heard bytes ≡ Malformed
unfolding heard read_event
not_whole bytes h = rw (ne_eqb (length bytes) 64 h)

-- ---- bytes that are heard as an event have its fields, and it is well-formed
pub record HeardEvent (bytes : List ℕ) (e : Event) : Type 0 where
  pub fields : event_of bytes ≡ e
  pub formed : well_formed e ≡ true

pub heard-event : (bytes : List ℕ) (e : Event) → heard bytes ≡ WellFormed e → HeardEvent bytes e
unfolding heard read_event
heard-event bytes e h = by_tests (eqb (length bytes) 64) (spare_zero bytes) (well_formed (event_of bytes)) refl h
  where
    by_tests : (long spare formed : Bool) → well_formed (event_of bytes) ≡ formed → cond (long && (spare && formed)) (WellFormed (event_of bytes)) Malformed ≡ WellFormed e → HeardEvent bytes e
    by_tests true true true f h = let same : event_of bytes ≡ e = cc in record { fields = same; formed = rw same at f }
    by_tests true true false f h = let z : ◌≡◌ {A = ℕ} 0 1 = cc in absurd (omega arith)
    by_tests true false formed f h = let z : ◌≡◌ {A = ℕ} 0 1 = cc in absurd (omega arith)
    by_tests false spare formed f h = let z : ◌≡◌ {A = ℕ} 0 1 = cc in absurd (omega arith)

-- ---- what stands behind each thing that bytes are heard as
pub record HeardPair (bytes : List ℕ) (x y : ℕ) : Type 0 where
  pub event : Event
  pub is : heard bytes ≡ WellFormed event
  pub kind : event.kind ≡ 64
  pub alone : event.present ≡ 0
  pub x_is : event.x ≡ x
  pub y_is : event.y ≡ y

pub record HeardCoordinate (bytes : List ℕ) (e : Event) : Type 0 where
  pub is : heard bytes ≡ WellFormed e
  pub kind : e.kind ≡ 65

pub record HeardQuiet (bytes : List ℕ) : Type 0 where
  pub event : Event
  pub is : heard bytes ≡ WellFormed event
  pub quiet : is_quiet event ≡ true

pub record HeardOther (bytes : List ℕ) (e : Event) : Type 0 where
  pub is : heard bytes ≡ WellFormed e
  pub not_xy : e.kind ≡ 64 → ⊥
  pub not-coordinate : e.kind ≡ 65 → ⊥
  pub loud : is_quiet e ≡ false

abbrev pub Behind : List ℕ → Heard → Type 0
Behind bytes (Pair x y) = HeardPair bytes x y
Behind bytes (Coordinate e) = HeardCoordinate bytes e
Behind bytes Quiet = HeardQuiet bytes
Behind bytes (Other e) = HeardOther bytes e
Behind bytes Unheard = heard bytes ≡ Malformed

module _ (bytes : List ℕ) (told : Heard) where
  by_kind : (e : Event) (xy coordinate quiet : Bool) → eqb e.kind 64 ≡ xy → eqb e.kind 65 ≡ coordinate → is_quiet e ≡ quiet → heard bytes ≡ WellFormed e
      → cond xy (Pair e.x e.y) (cond coordinate (Coordinate e) (cond quiet Quiet (Other e))) ≡ told → Behind bytes told
  by_kind e true coordinate quiet xy c q is h =
      let kind : e.kind ≡ 64 = eqb-true e.kind 64 xy in
      rw (← h) (record { event = e; is = is; kind = kind; alone = xy_alone e kind (heard-event bytes e is).formed; x_is = refl; y_is = refl })
  by_kind e false true quiet xy c q is h = rw (← h) (record { is = is; kind = eqb-true e.kind 65 c })
  by_kind e false false true xy c q is h = rw (← h) (record { event = e; is = is; quiet = q })
  by_kind e false false false xy c q is h = rw (← h) (record { is = is; not_xy = eqb-false e.kind 64 xy; not-coordinate = eqb-false e.kind 65 c; loud = q })

  by_record : (p : Parsed) → heard bytes ≡ p → told_apart p ≡ told → Behind bytes told
  by_record Malformed is h = rw (← h) is
  by_record (WellFormed e) is h = by_kind e (eqb e.kind 64) (eqb e.kind 65) (is_quiet e) refl refl refl is h

  pub behind : told_apart (heard bytes) ≡ told → Behind bytes told
  behind h = by_record (heard bytes) refl h
