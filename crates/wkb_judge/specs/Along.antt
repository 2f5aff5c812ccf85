-- In the course of a pass: the machine stands where the pass does, or an event was refused at a height that is not of the window.
use Rattle.std.specs.Prelude.{◌≡◌, refl, Bool, true, false, ◌||◌, List, [], ◌∷◌, map, ℕ, ◌+◌, ◌-◌, ◌*◌, ◌<◌, ◌≤◌, eqb, length, get_or, set}
use Rattle.std.proofs.Common.{sym, ap, ◌∙◌, subst, arith, length-append, get_or-set_same, get_or-set_other}
use Rattle.std.proofs.Math.Decide.{dec_lt}
use Rattle.kinds.specs.Event.{WellFormed}
use Rattle.kinds.specs.declared.event.Event.{Event as Flat}
use Rattle.event_log.specs.Log.{heard, feature_in, record_of, records_in}
use Rattle.nesting.specs.Events.{Event}
use Rattle.nesting.specs.Machine.{Frame, State, within, start, taken, step}
use Rattle.nesting.specs.Flat.{read}
use Rattle.nesting.specs.Levels.{any_depth, sixteen}
use Rattle.nesting.specs.Taking.{Is, Refused}
use Rattle.nesting.specs.declared.frame.Frame.{Frame as FrameR}
use Rattle.wkb_written.specs.declared.around.Around.{Around}
use Rattle.wkb_written.specs.Spelling.{outermost, after, bytes_of, spelled}
use Rattle.wkb_written.specs.SpellingLaws.{event_bound}
use Rattle.wkb_written.specs.Writing.{listed, alike, nested, events_in}
use Rattle.wkb_events.specs.Course.{fell, height_of, closes, course, course_goes, course_falls, nested-course, deepens, same_step, deep_stops}
use Rattle.wkb_events.specs.Walk.{Moved}
use Rattle.wkb_judge.specs.Rows.{lifted, listed_on, alike_on}
use Rattle.wkb_judge.specs.Passing.{In, SlotOf}
use Rattle.wkb_events.specs.declared.walk.Walk.{Walk}

-- ---- what a pass knows of the machine
-- The code's frames have kinds of any K, by what numbers them. Where K is GeometryType, `Is number top f` and `frame_of top ≡ f` say the same
-- (Taking.own, own_is).
module _ {K : Type 0} (numbered : K → ℕ) where
  -- each open geometry of the window but the innermost is kept in its slot
  abbrev pub Kept : ℕ → List (FrameR K) → List Frame → Type 0
  Kept low stored [] = Unit {0}
  Kept low stored (f ∷ fs) = (In low (length fs) → (d : FrameR K) → Is numbered (get_or stored (length fs - low) d) f) × Kept low stored fs

-- with sixteen levels the machine stands there too, or refused an event that went deeper
abbrev pub Shallow : Bool → (List Flat → List Flat) → State → Type 0
Shallow false puts s = (l : List Flat) → course sixteen (map read (puts l)) start ≡ course sixteen (map read l) s
Shallow true puts s = (l : List Flat) → closes (course sixteen (map read (puts l)) start) ≡ false

-- `puts` has the events so far before those that follow
pub record On {K : Type 0} (numbered : K → ℕ) (low : ℕ) (puts : List Flat → List Flat) (w : Walk) (top : FrameR K) (stored : List (FrameR K)) (f : Frame) (fs : List Frame) : Type 0 where
  pub goes : (l : List Flat) → course any_depth (map read (puts l)) start ≡ course any_depth (map read l) (within f fs)
  pub shallow : Shallow w.deep puts (within f fs)
  pub tall : w.height ≡ length fs
  pub innermost : In low (length fs) → Is numbered top f
  pub kept : Kept numbered low stored fs

pub record Off (low : ℕ) (puts : List Flat → List Flat) (highest : ℕ) : Type 0 where
  pub height : ℕ
  pub falls : (l : List Flat) → course any_depth (map read (puts l)) start ≡ fell height
  pub unseen : In low height → ⊥
  pub most : height ≤ highest

pub data Stands {K : Type 0} (numbered : K → ℕ) (low : ℕ) (puts : List Flat → List Flat) (w : Walk) (top : FrameR K) (stored : List (FrameR K)) : Type 0 where
  on : (f : Frame) (fs : List Frame) → On numbered low puts w top stored f fs → Stands numbered low puts w top stored
  off : Off low puts w.highest → Stands numbered low puts w top stored

pub record Along {K : Type 0} (numbered : K → ℕ) (bytes : List ℕ) (low feature i : ℕ) (w : Walk) (top : FrameR K) (stored : List (FrameR K)) : Type 0 where
  pub puts : List Flat → List Flat
  pub listing : events_in bytes ≡ lifted puts (listed (records_in bytes - i) i bytes)
  pub one : alike (records_in bytes) 0 bytes feature ≡ alike (records_in bytes - i) i bytes feature
  pub long : (l : List Flat) → length (spelled outermost (map read (puts l))) ≡ w.length + length (spelled w.around (map read l))
  pub high : w.height ≤ w.highest
  pub few : w.highest ≤ i
  pub short : w.length ≤ 21 * i
  pub stands : Stands numbered low puts w top stored

-- ---- the slots
module _ {K : Type 0} (numbered : K → ℕ) (low k : ℕ) (v : FrameR K) (stored : List (FrameR K)) where
  pub kept_apart : (fs : List Frame) → ((h : ℕ) → In low h → h < length fs → h - low ≡ k → ⊥) → Kept numbered low stored fs → Kept numbered low (set stored k v) fs
  kept_apart [] apart kept = tt
  kept_apart (f ∷ fs) apart kept = (
    λ seen d. subst (λ (g : FrameR K). Is numbered g f) (sym (get_or-set_other stored k (length fs - low) v d (apart (length fs) seen (omega arith)))) (kept.0 seen d),
    kept_apart fs (λ h seen less. apart h seen (omega arith)) kept.1,
  )

-- a slot is none of those below it
slot_apart : (low height k : ℕ) → SlotOf low height k → (h : ℕ) → In low h → h < height → h - low ≡ k → ⊥
slot_apart low height k s h seen less e = go (dec_lt k 256)
  where
    go : Dec (k < 256) → ⊥
    go (yes below) = let i = s.back below in omega (arith, i.0, s.seen i, seen.0)
    go (no over) = omega (arith, s.most, seen.0, seen.1)

pub kept_on : {K : Type 0} (numbered : K → ℕ) (low k : ℕ) (top : FrameR K) (stored : List (FrameR K)) (f : Frame) (fs : List Frame) → k < length stored → SlotOf low (length fs) k → (In low (length fs) → Is numbered top f) → Kept numbered low stored fs → Kept numbered low (set stored k top) (f ∷ fs)
kept_on {K} numbered low k top stored f fs room s innermost kept = (
  λ seen d. subst (λ (g : FrameR K). Is numbered g f) (sym (ap (λ (j : ℕ). get_or (set stored k top) j d) (sym (s.seen seen)) ∙ get_or-set_same stored k top d room)) (innermost seen),
  kept_apart numbered low k top stored fs (slot_apart low (length fs) k s) kept,
)

-- ---- one event more
shallow_on : (puts : List Flat → List Flat) (s t : State) (e : Flat) (v : Event) → read e ≡ v → step any_depth s v ≡ taken t → (deep next : Bool) → next ≡ (deepens (height_of s) v || deep) → Shallow deep puts s → Shallow next (λ l. puts (e ∷ l)) t
shallow_on puts s t e v reads goes deep next is h = subst (λ (b : Bool). Shallow b (λ l. puts (e ∷ l)) t) (sym is) (go (deepens (height_of s) v) refl deep h)
  where
    at-event : (l : List Flat) → course sixteen (map read (e ∷ l)) s ≡ course sixteen (v ∷ map read l) s
    at-event l = ap (λ (u : Event). course sixteen (u ∷ map read l) s) reads

    go : (b : Bool) → deepens (height_of s) v ≡ b → (deep : Bool) → Shallow deep puts s → Shallow (b || deep) (λ l. puts (e ∷ l)) t
    go true d true h = λ l. h (e ∷ l)
    go true d false h = λ l. ap closes (h (e ∷ l) ∙ at-event l ∙ course_falls sixteen s v (map read l) (deep_stops s v d))
    go false d true h = λ l. h (e ∷ l)
    go false d false h = λ l. h (e ∷ l) ∙ at-event l ∙ course_goes sixteen s t v (map read l) (same_step s v d ∙ goes)

module _ {K : Type 0} {numbered : K → ℕ} {low : ℕ} {puts : List Flat → List Flat} {w : Walk} {top : FrameR K} {stored : List (FrameR K)} {f : Frame} {fs : List Frame} (o : On numbered low puts w top stored f fs) (e : Flat) (v : Event) (reads : read e ≡ v) where
  at-event : (l : List Flat) → course any_depth (map read (puts (e ∷ l))) start ≡ course any_depth (v ∷ map read l) (within f fs)
  at-event l = o.goes (e ∷ l) ∙ ap (λ (u : Event). course any_depth (u ∷ map read l) (within f fs)) reads

  -- the machine refuses it, whatever follows
  pub refused_here : Refused (step any_depth (within f fs) v) → (l : List Flat) → nested any_depth (puts (e ∷ l)) ≡ false
  refused_here stops l = nested-course any_depth (puts (e ∷ l)) ∙ ap closes (at-event l ∙ course_falls any_depth (within f fs) v (map read l) stops)

  module _ {height : ℕ} {r : Walk} (moved : Moved w v height r) {next : FrameR K} {kept : List (FrameR K)} where
    pub taken_on : (g : Frame) (gs : List Frame) → step any_depth (within f fs) v ≡ taken (within g gs) → height ≡ length gs → (In low (length gs) → Is numbered next g) → Kept numbered low kept gs → Stands numbered low (λ l. puts (e ∷ l)) r next kept
    taken_on g gs goes tall innermost still =
        on g gs (record {
          goes = λ l. at-event l ∙ course_goes any_depth (within f fs) (within g gs) v (map read l) goes;
          shallow = shallow_on puts (within f fs) (within g gs) e v reads goes w.deep r.deep (moved.deep ∙ ap (λ (n : ℕ). deepens n v || w.deep) o.tall) o.shallow;
          tall = moved.tall ∙ tall;
          innermost = innermost;
          kept = still;
        })

    pub refused_on : Refused (step any_depth (within f fs) v) → (In low (length fs) → ⊥) → w.height ≤ w.highest → Stands numbered low (λ l. puts (e ∷ l)) r next kept
    refused_on stops unseen high = off (record { height = length fs; falls = λ l. at-event l ∙ course_falls any_depth (within f fs) v (map read l) stops; unseen = unseen; most = omega (arith, o.tall, moved.grows) })

-- ---- an event that was counted, in all that a pass knows
long_on : (w r : Walk) (v : Event) (height : ℕ) (m : List Event) → Moved w v height r → w.length + length (spelled w.around (v ∷ m)) ≡ r.length + length (spelled r.around m)
unfolding spelled
long_on w r v height m moved =
    let parts = length-append (bytes_of w.around v) (spelled (after w.around v) m) in
    let same : length (spelled r.around m) ≡ length (spelled (after w.around v) m) = ap (λ (k : Around). length (spelled k m)) moved.around in
    omega (arith, parts, same, moved.long)

pub record Counted (bytes : List ℕ) (i : ℕ) (feature : ℕ) (e : Flat) (v : Event) : Type 0 where
  pub less : i < records_in bytes
  pub is : heard (record_of bytes i) ≡ WellFormed e
  pub own : eqb (feature_in (record_of bytes i)) feature ≡ true
  pub reads : read e ≡ v

module _ {K : Type 0} {numbered : K → ℕ} {bytes : List ℕ} {low feature i : ℕ} {w : Walk} {top : FrameR K} {stored : List (FrameR K)} (a : Along numbered bytes low feature i w top stored) {e : Flat} {v : Event} (c : Counted bytes i feature e v) {height : ℕ} {r : Walk} (moved : Moved w v height r) {next : FrameR K} {kept : List (FrameR K)} where
  -- off stays off
  still_off : Off low a.puts w.highest → Stands numbered low (λ l. a.puts (e ∷ l)) r next kept
  still_off o = off (record { height = o.height; falls = λ l. o.falls (e ∷ l); unseen = o.unseen; most = omega (arith, o.most, moved.grows) })

  pub counted : height ≤ i + 1 → ((f : Frame) (fs : List Frame) → On numbered low a.puts w top stored f fs → Stands numbered low (λ l. a.puts (e ∷ l)) r next kept) → Along numbered bytes low feature (i + 1) r next kept
  counted few go_on = record {
    puts = λ l. a.puts (e ∷ l);
    listing = listed_on bytes i c.less (events_in bytes) a.puts a.listing e c.is;
    one = alike_on bytes i c.less feature (alike (records_in bytes) 0 bytes feature) a.one c.own;
    long = λ l. a.long (e ∷ l) ∙ ap (λ (u : Event). w.length + length (spelled w.around (u ∷ map read l))) c.reads ∙ long_on w r v height (map read l) moved;
    high = moved.highest a.high;
    few = moved.most (i + 1) (omega (arith, a.few)) few;
    short = omega (arith, a.short, moved.long, event_bound w.around v);
    stands = by_state a.stands;
  }
    where
      by_state : Stands numbered low a.puts w top stored → Stands numbered low (λ l. a.puts (e ∷ l)) r next kept
      by_state (on f fs o) = go_on f fs o
      by_state (off o) = still_off o
