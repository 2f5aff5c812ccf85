-- The machine: what is open, and the answer to an event.
use Rattle.std.specs.Prelude.{Bool, true, false, not, cond, ◌&&◌, ◌||◌, List, [], ◌∷◌, ℕ, suc, ◌+◌, eqb, ltb, leb, length}
use Rattle.nesting.specs.declared.geometry_type.GeometryType.{GeometryType}
use Rattle.nesting.specs.declared.geometry_type.GeometryType.TheVariants.{Point, LineString, Polygon, MultiPoint, MultiLineString, MultiPolygon, Collection}
use Rattle.nesting.specs.Events.{Event, begin, end, pair, strange}
use Rattle.nesting.specs.Rules.{Rules, limit, limit64}

-- An open geometry: `done` of `size` things inside it are closed.
pub record Frame : Type 0 where
  pub type : GeometryType
  pub tagged : Bool
  pub idx : ℕ
  pub size : ℕ
  pub done : ℕ

abbrev pub frame : GeometryType → Bool → ℕ → ℕ → ℕ → Frame
frame type tagged idx size done = record { type = type; tagged = tagged; idx = idx; size = size; done = done }

-- the innermost open geometry, and those around it
pub data State : Type 0 where
  within : Frame → List Frame → State

-- a feature is like a collection of one member that has no begin and no end
abbrev pub outside : ℕ → Frame
outside done = frame Collection false 0 1 done

abbrev pub start : State
start = within (outside 0) []

abbrev pub closed : State
closed = within (outside 1) []

pub data Answer : Type 0 where
  taken : State → Answer
  refused : ℕ → Answer

abbrev pub number : GeometryType → ℕ
number Point = 1
number LineString = 2
number Polygon = 3
number MultiPoint = 4
number MultiLineString = 5
number MultiPolygon = 6
number Collection = 7

abbrev pub numbered : ℕ → GeometryType
numbered n = cond (eqb n 1) Point (cond (eqb n 2) LineString (cond (eqb n 3) Polygon (cond (eqb n 4) MultiPoint (cond (eqb n 5) MultiLineString (cond (eqb n 6) MultiPolygon Collection)))))

abbrev pub same : Bool → Bool → Bool
same true b = b
same false b = not b

-- the types whose things are pairs
abbrev pub of_pairs : GeometryType → Bool
of_pairs Point = true
of_pairs LineString = true
of_pairs Polygon = false
of_pairs MultiPoint = true
of_pairs MultiLineString = false
of_pairs MultiPolygon = false
of_pairs Collection = false

-- how many things a begin promises: a Point has one pair, its size field is 0
abbrev pub count : GeometryType → ℕ → ℕ
count Point n = 1
count LineString n = n
count Polygon n = n
count MultiPoint n = n
count MultiLineString n = n
count MultiPolygon n = n
count Collection n = n

-- Whether a begin of a type and size may stand inside an open geometry: with this tag; or it has members that are too deep; or no such type
-- stands there.
pub data Place : Type 0 where
  here : Bool → Place
  too_deep : Place
  nowhere : Place

abbrev pub only_lines : GeometryType → Place
only_lines Point = nowhere
only_lines LineString = here false
only_lines Polygon = nowhere
only_lines MultiPoint = nowhere
only_lines MultiLineString = nowhere
only_lines MultiPolygon = nowhere
only_lines Collection = nowhere

abbrev pub only_polygons : GeometryType → Place
only_polygons Point = nowhere
only_polygons LineString = nowhere
only_polygons Polygon = here false
only_polygons MultiPoint = nowhere
only_polygons MultiLineString = nowhere
only_polygons MultiPolygon = nowhere
only_polygons Collection = nowhere

abbrev pub one_more : Frame → Frame
one_more f = frame f.type f.tagged f.idx f.size (f.done + 1)

-- An end repeats its begin's type, tag and idx, once all is there;
abbrev pub end_fits : Frame → GeometryType → Bool → ℕ → Bool
end_fits f type tagged idx = eqb (number type) (number f.type) && same tagged f.tagged && eqb idx f.idx && eqb f.done f.size

-- a pair has the next index, and numbers that a u64 holds.
abbrev pub pair_fits : Frame → ℕ → ℕ → ℕ → Bool
pair_fits f x y idx = of_pairs f.type && ltb f.done f.size && eqb idx f.done && ltb x limit64 && ltb y limit64

-- what is around an ended geometry has one more thing; the outermost has no end
abbrev pub end_at : Frame → List Frame → GeometryType → Bool → ℕ → Answer
end_at f [] type tagged idx = refused 21
end_at f (p ∷ fs) type tagged idx = cond (end_fits f type tagged idx) (taken (within (one_more p) fs)) (refused 21)

abbrev pub pair_at : Frame → List Frame → ℕ → ℕ → ℕ → Answer
pair_at f fs x y idx = cond (pair_fits f x y idx) (taken (within (one_more f) fs)) (refused 21)

-- a row of events goes on until one is refused
abbrev pub and_then : Answer → (State → Answer) → Answer
and_then (taken s) f = f s
and_then (refused n) f = refused n

module _ (R : Rules) where
  -- the sizes that a begin may have
  abbrev pub enough : GeometryType → ℕ → Bool
  enough type n = (R.may_be_empty type || leb 1 n) && ltb n limit

  abbrev pub allowed : GeometryType → ℕ → Bool
  allowed Point n = eqb n 0
  allowed LineString n = enough LineString n
  allowed Polygon n = enough Polygon n
  allowed MultiPoint n = enough MultiPoint n
  allowed MultiLineString n = enough MultiLineString n
  allowed MultiPolygon n = enough MultiPolygon n
  allowed Collection n = enough Collection n

  -- whether a type of n members at this level has them at a level that is too deep
  abbrev pub exceeds : GeometryType → ℕ → ℕ → Bool
  exceeds type level n = R.opens type && leb 1 n && R.too_deep (suc level)

  abbrev pub parts : GeometryType → ℕ → ℕ → Place
  parts type level n = cond (exceeds type level n) too_deep (here false)

  abbrev pub member : ℕ → GeometryType → ℕ → Place
  member level Point n = here false
  member level LineString n = here true
  member level Polygon n = here true
  member level MultiPoint n = parts MultiPoint level n
  member level MultiLineString n = parts MultiLineString level n
  member level MultiPolygon n = parts MultiPolygon level n
  member level Collection n = parts Collection level n

  -- inside `outer`, whose things are at this level
  abbrev pub place : GeometryType → ℕ → GeometryType → ℕ → Place
  place Point level type n = nowhere
  place LineString level type n = nowhere
  place Polygon level type n = only_lines type
  place MultiPoint level type n = nowhere
  place MultiLineString level type n = only_lines type
  place MultiPolygon level type n = only_polygons type
  place Collection level type n = member level type n

  -- a begin has the next index, the tag of its place and a size that its type may have
  abbrev pub begin_fits : Frame → Bool → GeometryType → Bool → ℕ → ℕ → Bool
  begin_fits f tag type tagged size idx = ltb f.done f.size && eqb idx f.done && same tagged tag && allowed type size

  -- 13 before 21: by level, type and size alone
  abbrev pub begin_at : Place → Frame → List Frame → GeometryType → Bool → ℕ → ℕ → Answer
  begin_at (here tag) f fs type tagged size idx = cond (begin_fits f tag type tagged size idx) (taken (within (frame type tagged idx (count type size) 0) (f ∷ fs))) (refused 21)
  begin_at too_deep f fs type tagged size idx = refused 13
  begin_at nowhere f fs type tagged size idx = refused 21

  -- the root, with no geometry around it, is at level 1
  abbrev pub step : State → Event → Answer
  step (within f fs) (begin type tagged size idx) = begin_at (place f.type (suc (length fs)) type size) f fs type tagged size idx
  step (within f fs) (end type tagged idx) = end_at f fs type tagged idx
  step (within f fs) (pair x y idx) = pair_at f fs x y idx
  step (within f fs) (strange kind) = refused 21

  abbrev pub run : List Event → State → Answer
  run [] s = taken s
  run (e ∷ es) s = and_then (step s e) (λ t. run es t)
