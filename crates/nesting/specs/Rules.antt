-- The rules of a geometry: how many things each type may hold, numbers that a u32 and a u64 hold, and levels that are not too deep.
use Rattle.std.specs.Prelude.{◌≡◌, Bool, true, false, List, ℕ, zero, suc, ◌<◌, ◌≤◌, length}
use Rattle.planar.specs.Geometry.{Coord, Line, Rings, Simple, point, line_string, polygon, multi_point, multi_line_string, multi_polygon, simple, collection, Geometry}
use Rattle.planar.specs.Fits.{Each, FitsCoord}
use Rattle.nesting.specs.declared.geometry_type.GeometryType.{GeometryType}
use Rattle.nesting.specs.declared.geometry_type.GeometryType.TheVariants.{Point, LineString, Polygon, MultiPoint, MultiLineString, MultiPolygon, Collection}

-- What a use of the machine chooses: which types may be empty, whose members lie one level deeper, and which levels are too deep.
pub record Rules : Type 0 where
  pub may_be_empty : GeometryType → Bool
  pub opens : GeometryType → Bool
  pub too_deep : ℕ → Bool

-- what a u32 and a u64 hold is below these
abbrev pub limit : ℕ
limit = 4294967296

abbrev pub limit64 : ℕ
limit64 = 18446744073709551616

abbrev pub PairRule : Coord → Type 0
PairRule = FitsCoord

module _ (R : Rules) where
  abbrev pub Enough : GeometryType → ℕ → Type 0
  Enough type n = (R.may_be_empty type ≡ false → 1 ≤ n) × (n < limit)

  -- a Point's begin says 0, and it holds one pair
  abbrev pub MayHold : GeometryType → ℕ → Type 0
  MayHold Point n = n ≡ 0
  MayHold LineString n = Enough LineString n
  MayHold Polygon n = Enough Polygon n
  MayHold MultiPoint n = Enough MultiPoint n
  MayHold MultiLineString n = Enough MultiLineString n
  MayHold MultiPolygon n = Enough MultiPolygon n
  MayHold Collection n = Enough Collection n

  -- a geometry at this level, with n members: those that lie one level deeper are not too deep
  abbrev pub Clear : GeometryType → ℕ → ℕ → Type 0
  Clear type level n = R.opens type ≡ true → 1 ≤ n → R.too_deep (suc level) ≡ false

  -- lines and polygons hold nothing that is a level
  abbrev pub ByRule : {A : Type 0} → GeometryType → (A → Type 0) → List A → Type 0
  ByRule type P xs = MayHold type (length xs) × Each P xs

  abbrev pub LevelRule : {A : Type 0} → GeometryType → ℕ → (A → Type 0) → List A → Type 0
  LevelRule type level P xs = MayHold type (length xs) × Clear type level (length xs) × Each P xs

  abbrev pub LineRule : Line → Type 0
  LineRule = ByRule LineString PairRule

  abbrev pub RingsRule : Rings → Type 0
  RingsRule = ByRule Polygon LineRule

  abbrev pub SimpleRule : ℕ → Simple → Type 0
  SimpleRule level (point c) = PairRule c
  SimpleRule level (line_string l) = LineRule l
  SimpleRule level (polygon rs) = RingsRule rs
  SimpleRule level (multi_point cs) = LevelRule MultiPoint level PairRule cs
  SimpleRule level (multi_line_string ls) = LevelRule MultiLineString level LineRule ls
  SimpleRule level (multi_polygon ps) = LevelRule MultiPolygon level RingsRule ps

  -- the root is at level 1
  abbrev pub GeometryRule : (n : ℕ) → ℕ → Geometry n → Type 0
  GeometryRule zero level s = SimpleRule level s
  GeometryRule (suc n) level (simple s) = SimpleRule level s
  GeometryRule (suc n) level (collection gs) = LevelRule Collection level (GeometryRule n (suc level)) gs
