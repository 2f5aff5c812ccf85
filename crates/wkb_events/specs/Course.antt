-- A run that says at which height it fell: a pass that keeps the frames of some heights only can say no more than that it fell at none of them.
use Rattle.std.proofs.Math.Path.{◌≡◌, refl, ap}
use Rattle.std.specs.Prelude.{Bool, cond, ◌&&◌, ℕ, suc, eqb, leb, length}
use Rattle.std.proofs.Math.Bool.{true, false}
use mathlib.Core.List.{List, [], ◌∷◌, map}
use Rattle.laws.specs.Every.{never}
use Rattle.kinds.specs.declared.event.Event.{Event as Flat}
use Rattle.nesting.specs.declared.geometry_type.GeometryType.{GeometryType}
use Rattle.nesting.specs.declared.geometry_type.GeometryType.TheVariants.{Point, LineString, Polygon, MultiPoint, MultiLineString, MultiPolygon, Collection}
use Rattle.nesting.specs.Events.{Event, begin, end, pair, strange}
use Rattle.nesting.specs.Rules.{Rules}
use Rattle.nesting.specs.Machine.{Frame, State, within, start, Answer, taken, refused, Place, here, too_deep, nowhere, only_lines, only_polygons, exceeds, member, place, begin_at, step, and_then, run}
use Rattle.nesting.specs.Flat.{read}
use Rattle.nesting.specs.Levels.{of_geometries, any_depth, sixteen}
use Rattle.nesting.specs.Taking.{not-deep, Refused}
use Rattle.wkb_written.specs.Writing.{is_closed, nested}

pub data Course : Type 0 where
  reached : State → Course
  fell : ℕ → Course

-- how many geometries are open
abbrev pub height_of : State → ℕ
height_of (within f fs) = length fs

abbrev pub onward : Answer → ℕ → (State → Course) → Course
onward (taken s) height k = k s
onward (refused n) height k = fell height

abbrev pub closes : Course → Bool
closes (fell height) = false
closes (reached (within f [])) = eqb f.done 1
closes (reached (within f (p ∷ fs))) = false

unfoldable pub course : Rules → List Event → State → Course
course R [] s = reached s
course R (e ∷ es) s = onward (step R s e) (height_of s) (λ t. course R es t)

module _ (R : Rules) where
  pub course_none : (s : State) → course R [] s ≡ reached s
  unfolding course
  course_none s = refl

  pub course_goes : (s t : State) (e : Event) (es : List Event) → step R s e ≡ taken t → course R (e ∷ es) s ≡ course R es t
  unfolding course
  course_goes s t e es h = ap (λ (a : Answer). onward a (height_of s) (λ u. course R es u)) h

  pub course_falls : (s : State) (e : Event) (es : List Event) → Refused (step R s e) → course R (e ∷ es) s ≡ fell (height_of s)
  unfolding course
  course_falls s e es h = ap (λ (a : Answer). onward a (height_of s) (λ u. course R es u)) h.is

  closed-course : (es : List Event) (s : State) → is_closed (run R es s) ≡ closes (course R es s)
  unfolding course
  closed-course [] (within f []) = refl
  closed-course [] (within f (p ∷ fs)) = refl
  closed-course (e ∷ es) s = go (step R s e) (λ t. closed-course es t)
    where
      go : (a : Answer) → ((t : State) → is_closed (run R es t) ≡ closes (course R es t)) → is_closed (and_then a (λ t. run R es t)) ≡ closes (onward a (height_of s) (λ t. course R es t))
      go (taken t) later = later t
      go (refused n) later = refl

  pub nested-course : (es : List Flat) → nested R es ≡ closes (course R (map read es) start)
  unfolding nested
  nested-course es = closed-course (map read es) start

  reached-from : (es : List Event) (s t : State) → course R es s ≡ reached t → run R es s ≡ taken t
  unfolding course
  reached-from [] s t h = let e : s ≡ t = cc in ap taken e
  reached-from (e ∷ es) s t h = go (step R s e) (λ u. reached-from es u t) h
    where
      go : (a : Answer) → ((u : State) → course R es u ≡ reached t → run R es u ≡ taken t) → onward a (height_of s) (λ u. course R es u) ≡ reached t → and_then a (λ u. run R es u) ≡ taken t
      go (taken u) later h = later u h
      go (refused n) later h = let z : ◌≡◌ {A = Bool} false true = cc in absurd (never z)

  pub run-reached : (es : List Event) (s : State) → course R es start ≡ reached s → run R es start ≡ taken s
  run-reached es s h = reached-from es start s h

-- ---- within sixteen levels the machine does what it does at any depth, up to the first geometry with members that stands too deep
abbrev pub deepens : ℕ → Event → Bool
deepens height (begin type tagged size idx) = exceeds sixteen type (suc height) size
deepens height (end type tagged idx) = false
deepens height (pair x y idx) = false
deepens height (strange kind) = false

by_no_level : (type : GeometryType) (level n : ℕ) (deep : Bool) → deep ≡ false → cond deep too_deep (here false) ≡ cond (of_geometries type && leb 1 n && false) too_deep (here false)
by_no_level type level n deep h = rw (h, not-deep (of_geometries type) (leb 1 n))

same-member : (type : GeometryType) (level n : ℕ) → exceeds sixteen type level n ≡ false → member sixteen level type n ≡ member any_depth level type n
same-member Point level n h = refl
same-member LineString level n h = refl
same-member Polygon level n h = refl
same-member MultiPoint level n h = by_no_level MultiPoint level n (exceeds sixteen MultiPoint level n) h
same-member MultiLineString level n h = by_no_level MultiLineString level n (exceeds sixteen MultiLineString level n) h
same-member MultiPolygon level n h = by_no_level MultiPolygon level n (exceeds sixteen MultiPolygon level n) h
same-member Collection level n h = by_no_level Collection level n (exceeds sixteen Collection level n) h

same_place : (around type : GeometryType) (level n : ℕ) → exceeds sixteen type level n ≡ false → place sixteen around level type n ≡ place any_depth around level type n
same_place Point type level n h = refl
same_place LineString type level n h = refl
same_place Polygon type level n h = refl
same_place MultiPoint type level n h = refl
same_place MultiLineString type level n h = refl
same_place MultiPolygon type level n h = refl
same_place Collection type level n h = same-member type level n h

pub same_step : (s : State) (e : Event) → deepens (height_of s) e ≡ false → step sixteen s e ≡ step any_depth s e
same_step (within f fs) (begin type tagged size idx) h = ap (λ (p : Place). begin_at any_depth p f fs type tagged size idx) (same_place f.type type (suc (length fs)) size h)
same_step (within f fs) (end type tagged idx) h = refl
same_step (within f fs) (pair x y idx) h = refl
same_step (within f fs) (strange kind) h = refl

-- a place where nothing stands
abbrev Barred : Place → Type 0
Barred (here tag) = ⊥
Barred too_deep = Unit {0}
Barred nowhere = Unit {0}

no_line : (type : GeometryType) (level n : ℕ) → exceeds sixteen type level n ≡ true → Barred (only_lines type)
no_line Point level n h = tt
no_line LineString level n h = never h
no_line Polygon level n h = tt
no_line MultiPoint level n h = tt
no_line MultiLineString level n h = tt
no_line MultiPolygon level n h = tt
no_line Collection level n h = tt

no_polygon : (type : GeometryType) (level n : ℕ) → exceeds sixteen type level n ≡ true → Barred (only_polygons type)
no_polygon Point level n h = tt
no_polygon LineString level n h = tt
no_polygon Polygon level n h = never h
no_polygon MultiPoint level n h = tt
no_polygon MultiLineString level n h = tt
no_polygon MultiPolygon level n h = tt
no_polygon Collection level n h = tt

deep-parts : (deep : Bool) → deep ≡ true → Barred (cond deep too_deep (here false))
deep-parts true h = tt
deep-parts false h = never h

no_member : (type : GeometryType) (level n : ℕ) → exceeds sixteen type level n ≡ true → Barred (member sixteen level type n)
no_member Point level n h = never h
no_member LineString level n h = never h
no_member Polygon level n h = never h
no_member MultiPoint level n h = deep-parts (exceeds sixteen MultiPoint level n) h
no_member MultiLineString level n h = deep-parts (exceeds sixteen MultiLineString level n) h
no_member MultiPolygon level n h = deep-parts (exceeds sixteen MultiPolygon level n) h
no_member Collection level n h = deep-parts (exceeds sixteen Collection level n) h

barred : (around type : GeometryType) (level n : ℕ) → exceeds sixteen type level n ≡ true → Barred (place sixteen around level type n)
barred Point type level n h = tt
barred LineString type level n h = tt
barred Polygon type level n h = no_line type level n h
barred MultiPoint type level n h = tt
barred MultiLineString type level n h = no_line type level n h
barred MultiPolygon type level n h = no_polygon type level n h
barred Collection type level n h = no_member type level n h

barred_stops : (p : Place) → Barred p → (f : Frame) (fs : List Frame) (type : GeometryType) (tagged : Bool) (size idx : ℕ) → Refused (begin_at sixteen p f fs type tagged size idx)
barred_stops (here tag) b f fs type tagged size idx = absurd b
barred_stops too_deep b f fs type tagged size idx = record { number = 13; is = refl }
barred_stops nowhere b f fs type tagged size idx = record { number = 21; is = refl }

pub deep_stops : (s : State) (e : Event) → deepens (height_of s) e ≡ true → Refused (step sixteen s e)
deep_stops (within f fs) (begin type tagged size idx) h = barred_stops (place sixteen f.type (suc (length fs)) type size) (barred f.type type (suc (length fs)) size h) f fs type tagged size idx
deep_stops (within f fs) (end type tagged idx) h = absurd (never h)
deep_stops (within f fs) (pair x y idx) h = absurd (never h)
deep_stops (within f fs) (strange kind) h = absurd (never h)
