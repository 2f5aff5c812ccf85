-- What may stand inside an open geometry of a type, and its events.
use Rattle.std.specs.Prelude.{Bool, List, [], ◌∷◌, ℕ, suc, ◌+◌, ◌≡◌, length}
use Rattle.planar.specs.Geometry.{Coord, Line, Rings}
use Rattle.planar.specs.Any.{Any}
use Rattle.nesting.specs.declared.geometry_type.GeometryType.{GeometryType}
use Rattle.nesting.specs.declared.geometry_type.GeometryType.TheVariants.{Point, LineString, Polygon, MultiPoint, MultiLineString, MultiPolygon, Collection}
use Rattle.nesting.specs.Events.{Event, end, Tells, each, coord_of, line_of, rings_of, geometry_of}
use Rattle.planar.specs.Fits.{Each}
use Rattle.nesting.specs.Rules.{Rules, PairRule, LineRule, RingsRule, GeometryRule}
use Rattle.nesting.specs.Machine.{Frame, State, within}

abbrev pub Inside : GeometryType → Type 0
Inside Point = Coord
Inside LineString = Coord
Inside Polygon = Line
Inside MultiPoint = Coord
Inside MultiLineString = Line
Inside MultiPolygon = Rings
Inside Collection = Any

abbrev pub any_of : Tells Any
any_of a = geometry_of a.n a.geometry

abbrev pub tells : (type : GeometryType) → Tells (Inside type)
tells Point = coord_of
tells LineString = coord_of
tells Polygon = line_of
tells MultiPoint = coord_of
tells MultiLineString = line_of
tells MultiPolygon = rings_of
tells Collection = any_of

module _ (R : Rules) where
  -- the rule of a thing at this level
  abbrev pub Keeps : (type : GeometryType) → ℕ → Inside type → Type 0
  Keeps Point level c = PairRule c
  Keeps LineString level c = PairRule c
  Keeps Polygon level l = LineRule R l
  Keeps MultiPoint level c = PairRule c
  Keeps MultiLineString level l = LineRule R l
  Keeps MultiPolygon level rs = RingsRule R rs
  Keeps Collection level a = GeometryRule R a.n level a.geometry

  -- ---- what may still come
  -- inside one open geometry, whose things are at this level, from its thing number `i` on
  pub record Left (type : GeometryType) (level size i : ℕ) : Type 0 where
    pub things : List (Inside type)
    pub fill : i + length things ≡ size
    pub keep : Each (Keeps type level) things

  -- inside those around it, each behind the thing that is open
  abbrev pub Around : List Frame → Type 0
  Around [] = Unit {0}
  Around (f ∷ fs) = Left f.type (suc (length fs)) f.size (f.done + 1) × Around fs

  abbrev pub Rest : State → Type 0
  Rest (within f fs) = Left f.type (suc (length fs)) f.size f.done × Around fs

  -- its events: an end for the innermost, of this type, tag and idx, then the things behind it; the outermost has no end
  abbrev pub after : GeometryType → Bool → ℕ → (fs : List Frame) → Around fs → List Event
  after type tagged idx [] r = []
  after type tagged idx (f ∷ fs) r = end type tagged idx ∷ each (tells f.type) r.0.things (f.done + 1) (after f.type f.tagged f.idx fs r.1)

  abbrev pub told : (s : State) → Rest s → List Event
  told (within f fs) r = each (tells f.type) r.0.things f.done (after f.type f.tagged f.idx fs r.1)
