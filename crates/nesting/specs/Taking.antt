-- What the code's frames take: each is one of the machine's.
use Rattle.std.specs.Prelude.{Option, Some, None, ◌≡◌, refl, Bool, true, false, cond, ◌&&◌, List, ◌∷◌, ℕ}
use Rattle.std.proofs.Common.{ap}
use Rattle.laws.specs.Every.{never}
use Rattle.nesting.specs.declared.frame.Frame.{Frame as FrameR}
use Rattle.nesting.specs.declared.geometry_type.GeometryType.{GeometryType}
use Rattle.nesting.specs.declared.geometry_type.GeometryType.TheVariants.{Point, LineString, Polygon, MultiPoint, MultiLineString, MultiPolygon, Collection}
use Rattle.nesting.specs.Rules.{Rules}
use Rattle.nesting.specs.Machine.{Frame, frame, within, Answer, taken, refused, number, same, count, only_lines, only_polygons, Place, here, too_deep, nowhere, place, begin_fits, begin_at}
use Rattle.nesting.specs.Levels.{rules_for}
use Rattle.nesting.specs.Tests.{same_number}

-- a code's frame, whose kind has a number, is one of the machine's
pub record Is {K : Type 0} (numbered : K → ℕ) (f : FrameR K) (g : Frame) : Type 0 where
  pub kind : numbered f.kind ≡ number g.type
  pub tagged : f.tagged ≡ g.tagged
  pub idx : f.idx ≡ g.idx
  pub size : f.size ≡ g.size
  pub done : f.done ≡ g.done

-- a code's frame whose kind is the type itself, and the machine's that it is
abbrev pub Held : Type 0
Held = FrameR GeometryType

abbrev pub frame_of : Held → Frame
frame_of f = frame f.kind f.tagged f.idx f.size f.done

pub own : (f : Held) → Is number f (frame_of f)
own f = record { kind = refl; tagged = refl; idx = refl; size = refl; done = refl }

pub own_is : (f : Held) (g : Frame) → Is number f g → frame_of f ≡ g
own_is f g i = rw (same_number f.kind g.type i.kind, i.tagged, i.idx, i.size, i.done) refl

-- what a number is told to be: a type, or none
abbrev pub OfNumber : ℕ → Option GeometryType → Type 0
OfNumber n (Some type) = n ≡ number type
OfNumber n None = (type : GeometryType) → n ≡ number type → ⊥

-- rules by which no level is too deep
abbrev pub ample : Bool → Bool → Rules
ample empty deeper = rules_for empty deeper (λ level. false)

-- the tag of a member of a collection
abbrev pub member_place : GeometryType → Place
member_place Point = here false
member_place LineString = here true
member_place Polygon = here true
member_place MultiPoint = here false
member_place MultiLineString = here false
member_place MultiPolygon = here false
member_place Collection = here false

-- the place of a type inside another where no level is too deep
abbrev pub standing : GeometryType → GeometryType → Place
standing Point type = nowhere
standing LineString type = nowhere
standing Polygon type = only_lines type
standing MultiPoint type = nowhere
standing MultiLineString type = only_lines type
standing MultiPolygon type = only_polygons type
standing Collection type = member_place type

abbrev pub tag_fits : Place → Bool → Bool
tag_fits (here tag) tagged = same tagged tag
tag_fits too_deep tagged = false
tag_fits nowhere tagged = false

-- whether a begin is taken
abbrev pub fits_in : Rules → Place → Frame → GeometryType → Bool → ℕ → ℕ → Bool
fits_in R (here tag) f type tagged size idx = begin_fits R f tag type tagged size idx
fits_in R too_deep f type tagged size idx = false
fits_in R nowhere f type tagged size idx = false

abbrev pub begins : Rules → ℕ → Frame → GeometryType → Bool → ℕ → ℕ → Bool
begins R level f type tagged size idx = fits_in R (place R f.type level type size) f type tagged size idx

-- ---- where no level is too deep
pub not-deep : (a b : Bool) → (a && b && false) ≡ false
not-deep true true = refl
not-deep true false = refl
not-deep false b = refl

-- ---- what is taken goes on, what is not is refused
pub begin_goes : (R : Rules) (p : Place) (f : Frame) (fs : List Frame) (type : GeometryType) (tagged : Bool) (size idx : ℕ) → fits_in R p f type tagged size idx ≡ true
    → begin_at R p f fs type tagged size idx ≡ taken (within (frame type tagged idx (count type size) 0) (f ∷ fs))
begin_goes R (here tag) f fs type tagged size idx h = ap (λ (b : Bool). cond b (taken (within (frame type tagged idx (count type size) 0) (f ∷ fs))) (refused 21)) h
begin_goes R too_deep f fs type tagged size idx h = absurd (never h)
begin_goes R nowhere f fs type tagged size idx h = absurd (never h)

pub record Refused (a : Answer) : Type 0 where
  pub number : ℕ
  pub is : a ≡ refused number

pub begin_stops : (R : Rules) (p : Place) (f : Frame) (fs : List Frame) (type : GeometryType) (tagged : Bool) (size idx : ℕ) → fits_in R p f type tagged size idx ≡ false → Refused (begin_at R p f fs type tagged size idx)
begin_stops R (here tag) f fs type tagged size idx h = record { number = 21; is = ap (λ (b : Bool). cond b (taken (within (frame type tagged idx (count type size) 0) (f ∷ fs))) (refused 21)) h }
begin_stops R too_deep f fs type tagged size idx h = record { number = 13; is = refl }
begin_stops R nowhere f fs type tagged size idx h = record { number = 21; is = refl }
