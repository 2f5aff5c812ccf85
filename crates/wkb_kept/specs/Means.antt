-- The number that writing answers with, for each list of events, and the bytes: those of the geometry that has these events.
use Rattle.std.specs.Prelude.{◌≡◌, refl, ◌↔◌, Bool, true, cond, ◌&&◌, List, map, ℕ, ◌<◌, ◌≤◌, eqb, leb}
use Rattle.std.proofs.Math.Path.{sym}
use Rattle.std.proofs.Common.{ap, ◌∙◌, subst, arith}
use Rattle.std.proofs.Math.Bool.{false}
use Rattle.std.proofs.Math.Option.{Option, none, some}
use Rattle.std.proofs.Math.Decide.{dec_lt}
use Rattle.std.proofs.Math.ListN.{length}
use borrow.Author.Tests.{leb-true, leb-false, le-leb, lt-leb}
use Rattle.laws.specs.Every.{both, never}
use Rattle.laws.specs.Cut.{number_of}
use Rattle.kinds.specs.declared.event.Event.{Event}
use Rattle.event_log.specs.Log.{records_in}
use Rattle.geometries.specs.Told.{told-number}
use Rattle.planar.specs.Within.{planar_events}
use Rattle.planar.specs.Levels.{levels}
use Rattle.wkb.specs.Wkb.{Meaning, little, little_bytes}
use Rattle.nesting.specs.Events.{events_of}
use Rattle.planar.specs.Fits.{Each}
use Rattle.nesting.specs.Flat.{read}
use Rattle.nesting.specs.FlatLaws.{WellFormed}
use Rattle.nesting.specs.Levels.{any_depth, sixteen}
use Rattle.wkb_reader.specs.Reading.{reading_r}
use Rattle.wkb_meaning.specs.Forward.{written_read}
use Rattle.wkb_meaning.specs.Deep.{too_deep_lem}
use Rattle.wkb_written.specs.Spelling.{outermost, spelled}
use Rattle.wkb_written.specs.SpellingLaws.{spelled-little}
use Rattle.wkb_written.specs.Writing.{nested, Written, refused_with, written_of, writing, events_in, one_feature}
use Rattle.wkb_written.specs.Sized.{planar_read}
use Rattle.wkb_written.specs.Nested.{Told, ToldWithin, geometry_nested, shallow_nested}
use Rattle.wkb_written.specs.Listed.{listed_formed}

-- the bytes of a geometry that has these events
abbrev pub little_of : {es : List Event} → Told es → List ℕ
little_of t = little_bytes t.n t.geometry

abbrev pub levels_of : {es : List Event} → Told es → ℕ
levels_of t = levels t.n t.geometry

-- a geometry with more levels than are written
pub record ToldDeep (es : List Event) : Type 0 where
  pub told : Told es
  pub deep : 16 < levels_of told

-- one with few enough, whose bytes find no room
pub record ToldShort (es : List Event) (room : ℕ) : Type 0 where
  pub shallow : ToldWithin es
  pub short : room < length (little_of shallow.told)

-- and whose bytes find room
pub record ToldRoom (es : List Event) (room : ℕ) : Type 0 where
  pub shallow : ToldWithin es
  pub enough : length (little_of shallow.told) ≤ room

-- ---- Two geometries with the same events have the same bytes, so reading those settles for both whether they have more than 16 levels.
module _ {es : List Event} where
  pub spelled-told : (t : Told es) → spelled outermost (map read es) ≡ little_of t
  spelled-told t =
      let same : map read es ≡ events_of t.n t.geometry = ap (λ (l : List Event). map read l) (sym t.tell) ∙ planar_read t.n t.geometry t.fits in
      ap (spelled outermost) same ∙ spelled-little t.n t.geometry

  pub same_bytes : (t u : Told es) → little_of t ≡ little_of u
  same_bytes t u = sym (spelled-told t) ∙ spelled-told u

  read-zero : (t : Told es) → levels_of t ≤ 16 → number_of (reading_r (little_of t)) ≡ 0
  read-zero t h = ap number_of (written_read t.n t.geometry t.fits h) ∙ told-number (planar_events t.n t.geometry)

  read_thirteen : (t : Told es) → 16 < levels_of t → number_of (reading_r (little_of t)) ≡ 13
  unfolding little_bytes
  read_thirteen t h = too_deep_lem t.n t.geometry (little t.n t.geometry) t.fits h

  pub same-levels : (t u : Told es) → levels_of t ≤ 16 → levels_of u ≤ 16
  same-levels t u h = go (dec_lt 16 (levels_of u))
    where
      go : Dec (16 < levels_of u) → levels_of u ≤ 16
      go (yes k) = let z : ◌≡◌ {A = ℕ} 0 13 = sym (read-zero t h) ∙ ap (λ (l : List ℕ). number_of (reading_r l)) (same_bytes t u) ∙ read_thirteen u k in absurd (omega arith)
      go (no k) = omega arith

-- ---- the four answers to events, and when each is due
data Case : Type 0 where
  none_told : Case
  deep : Case
  short : Case
  whole : Case

abbrev answer : List Event → Case → Written
answer es none_told = refused_with 21
answer es deep = refused_with 13
answer es short = refused_with 12
answer es whole = record { number = 0; bytes = spelled outermost (map read es) }

abbrev Due : List Event → Bool → ℕ → Case → Type 0
Due es one room none_told = (one ≡ true) × Told es → ⊥
Due es one room deep = (one ≡ true) × ToldDeep es
Due es one room short = (one ≡ true) × ToldShort es room
Due es one room whole = (one ≡ true) × ToldRoom es room

untrue : (b : Bool) → (b ≡ true → ⊥) → b ≡ false
untrue true h = absurd (h refl)
untrue false h = refl

module _ (es : List Event) (formed : Each WellFormed es) (one : Bool) (room : ℕ) where
  any : (nested any_depth es ≡ true) ↔ Told es
  any = geometry_nested es formed

  shallow : (nested sixteen es ≡ true) ↔ ToldWithin es
  shallow = shallow_nested es formed

  -- what is due is answered
  answered : (c : Case) → Due es one room c → written_of (some es) one room ≡ answer es c
  unfolding written_of
  answered none_told h = rw (untrue (one && nested any_depth es) (λ e. let t = both one (nested any_depth es) e in h (t.0, any.0 t.1)))
  answered deep h =
      let t = h.1.told in
      let too_far : nested sixteen es ≡ false = untrue (nested sixteen es) (λ e. let s = shallow.0 e in let k = same-levels s.told t s.within in absurd (omega (arith, k, h.1.deep))) in
      rw (h.0, any.1 t, too_far)
  answered short h =
      let s = h.1.shallow in
      let less : room < length (spelled outermost (map read es)) = rw (spelled-told s.told) h.1.short in
      rw (h.0, any.1 s.told, shallow.1 s, lt-leb (length (spelled outermost (map read es))) room less)
  answered whole h =
      let s = h.1.shallow in
      let enough : length (spelled outermost (map read es)) ≤ room = rw (spelled-told s.told) h.1.enough in
      rw (h.0, any.1 s.told, shallow.1 s, le-leb (length (spelled outermost (map read es))) room enough)

  beyond : nested sixteen es ≡ false → (t : Told es) → 16 < levels_of t
  beyond h t = go (dec_lt 16 (levels_of t))
    where
      go : Dec (16 < levels_of t) → 16 < levels_of t
      go (yes k) = k
      go (no k) = absurd (never (sym h ∙ shallow.1 (record { told = t; within = omega arith })))

  record Found : Type 0 where
    which : Case
    due : Due es one room which

  -- one of them is due
  found : Found
  found = by_tests (one && nested any_depth es) refl (nested sixteen es) refl (leb (length (spelled outermost (map read es))) room) refl
    where
      by_tests : (b : Bool) → (one && nested any_depth es) ≡ b → (c : Bool) → nested sixteen es ≡ c → (d : Bool) → leb (length (spelled outermost (map read es))) room ≡ d → Found
      by_tests false p c q d r = record { which = none_told; due = λ k. never (sym p ∙ rw (k.0, any.1 k.1)) }
      by_tests true p false q d r =
          let t = both one (nested any_depth es) p in
          let g = any.0 t.1 in
          record { which = deep; due = (t.0, record { told = g; deep = beyond q g }) }
      by_tests true p true q false r =
          let s = shallow.0 q in
          record { which = short; due = ((both one (nested any_depth es) p).0, record { shallow = s; short = rw (spelled-told s.told) at (leb-false (length (spelled outermost (map read es))) room r) }) }
      by_tests true p true q true r =
          let s = shallow.0 q in
          record { which = whole; due = ((both one (nested any_depth es) p).0, record { shallow = s; enough = rw (spelled-told s.told) at (leb-true (length (spelled outermost (map read es))) room r) }) }

-- ---- a number is answered exactly where its case is due
abbrev case_of : ℕ → Case
case_of n = cond (eqb n 21) none_told (cond (eqb n 13) deep (cond (eqb n 12) short whole))

case_back : (es : List Event) (c : Case) → case_of (answer es c).number ≡ c
case_back es none_told = refl
case_back es deep = refl
case_back es short = refl
case_back es whole = refl

not_eleven : (es : List Event) (c : Case) → (answer es c).number ≡ 11 → ⊥
not_eleven es none_told e = omega arith
not_eleven es deep e = omega arith
not_eleven es short e = omega arith
not_eleven es whole e = omega arith

module _ (bytes : List ℕ) (room : ℕ) where
  written-some : (es : List Event) → events_in bytes ≡ some es → writing bytes room ≡ written_of (some es) (one_feature bytes) room
  unfolding writing
  written-some es is = rw is

  written_none : events_in bytes ≡ none → writing bytes room ≡ refused_with 11
  unfolding writing written_of
  written_none is = rw is

  module _ (es : List Event) (is : events_in bytes ≡ some es) where
    formed : Each WellFormed es
    formed = listed_formed (records_in bytes) 0 bytes es is

    due-answered : (c : Case) → Due es (one_feature bytes) room c → writing bytes room ≡ answer es c
    due-answered c h = written-some es is ∙ answered es formed (one_feature bytes) room c h

  pub eleven : ((writing bytes room).number ≡ 11) ↔ (events_in bytes ≡ none)
  eleven = (λ h. go h (events_in bytes) refl, λ is. ap (λ (w : Written). w.number) (written_none is))
    where
      go : (writing bytes room).number ≡ 11 → (o : Option (List Event)) → events_in bytes ≡ o → events_in bytes ≡ none
      go h none is = is
      go h (some es) is =
          let f = found es (formed es is) (one_feature bytes) room in
          absurd (not_eleven es f.which (ap (λ (w : Written). w.number) (sym (due-answered es is f.which f.due)) ∙ h))

  module _ (es : List Event) (is : events_in bytes ≡ some es) where
    exactly : (c : Case) → ((writing bytes room).number ≡ (answer es c).number) ↔ Due es (one_feature bytes) room c
    exactly c = (to, λ h. ap (λ (w : Written). w.number) (due-answered es is c h))
      where
        to : (writing bytes room).number ≡ (answer es c).number → Due es (one_feature bytes) room c
        to h =
            let f = found es (formed es is) (one_feature bytes) room in
            let same : (answer es f.which).number ≡ (answer es c).number = ap (λ (w : Written). w.number) (sym (due-answered es is f.which f.due)) ∙ h in
            subst (λ (d : Case). Due es (one_feature bytes) room d) (sym (case_back es f.which) ∙ ap case_of same ∙ case_back es c) f.due

    -- 21: no geometry has these events, or they are of several features
    pub twenty_one : ((writing bytes room).number ≡ 21) ↔ ((one_feature bytes ≡ true) × Told es → ⊥)
    twenty_one = exactly none_told

    pub thirteen : ((writing bytes room).number ≡ 13) ↔ ((one_feature bytes ≡ true) × ToldDeep es)
    thirteen = exactly deep

    pub twelve : ((writing bytes room).number ≡ 12) ↔ ((one_feature bytes ≡ true) × ToldShort es room)
    twelve = exactly short

    pub done : ((writing bytes room).number ≡ 0) ↔ ((one_feature bytes ≡ true) × ToldRoom es room)
    done = exactly whole

    -- and then the bytes are those of every geometry that has these events
    pub done-bytes : (writing bytes room).number ≡ 0 → (t : Told es) → (writing bytes room).bytes ≡ little_of t
    done-bytes h t = ap (λ (w : Written). w.bytes) (due-answered es is whole (done.0 h)) ∙ spelled-told t

    -- so they mean that geometry
    pub written_means : (writing bytes room).number ≡ 0 → (t : Told es) → Meaning (writing bytes room).bytes
    unfolding little_bytes
    written_means h t = record { n = t.n; geometry = t.geometry; fits = t.fits; orders = little t.n t.geometry; spelled = sym (done-bytes h t) }
