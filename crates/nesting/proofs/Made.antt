-- The things that a begin, the things inside it and an end make.
use Rattle.std.specs.Prelude.{◌≡◌, refl, Bool, true, false, cond, ℕ, zero, suc, ◌+◌, ◌<◌, length, replicate}
use Rattle.std.proofs.Common.{ap, arith}
use Rattle.std.proofs.Math.Path.{subst⁻¹}
use mathlib.Core.List.{List, [], ◌∷◌}
use Rattle.std.proofs.lemmas.List.{length-replicate}
use Rattle.laws.specs.Every.{never}
use Rattle.planar.specs.Geometry.{Coord, point, line_string, polygon, multi_point, multi_line_string, multi_polygon}
use Rattle.planar.specs.Any.{Any, any, collect}
use Rattle.nesting.specs.declared.geometry_type.GeometryType.{GeometryType}
use Rattle.nesting.specs.declared.geometry_type.GeometryType.TheVariants.{Point, LineString, Polygon, MultiPoint, MultiLineString, MultiPolygon, Collection}
use Rattle.nesting.specs.Events.{Event, begin, end, pair, each, group}
use Rattle.planar.specs.Fits.{Each}
use Rattle.nesting.specs.Rules.{Rules, limit64, PairRule, MayHold, Clear, LevelRule}
use Rattle.nesting.specs.Machine.{Place, here, too_deep, nowhere, exceeds, member, place, count, of_pairs}
use Rattle.nesting.specs.Inside.{Inside, tells, Keeps, Left}
use Rattle.nesting.specs.Gathered.{collect-tells, collect_rule}
use Rattle.nesting.specs.Tests.{exceeds_false}

abbrev origin : Coord
origin = record { x = 0; y = 0 }

-- a thing of each type that keeps any rules: nothing in it is empty, or deep
abbrev pub some : (type : GeometryType) → Inside type
some Point = origin
some LineString = origin
some Polygon = origin ∷ []
some MultiPoint = origin
some MultiLineString = origin ∷ []
some MultiPolygon = (origin ∷ []) ∷ []
some Collection = any zero (point origin)

at-origin : PairRule origin
at-origin = (omega arith, omega arith)

each-replicate : {A : Type 0} (P : A → Type 0) (a : A) → P a → (n : ℕ) → Each P (replicate n a)
each-replicate P a p zero = tt
each-replicate P a p (suc n) = (p, each-replicate P a p n)

the_point : (xs : List Coord) → 0 + length xs ≡ 1 → Any
the_point [] e = absurd (omega arith)
the_point (c ∷ xs) e = any zero (point c)

the_point_tells : (xs : List Coord) (e : 0 + length xs ≡ 1) (i : ℕ) (k : List Event) → tells Collection (the_point xs e) i k ≡ begin Point false 0 i ∷ each (tells Point) xs 0 (end Point false i ∷ k)
unfolding the_point
the_point_tells [] e i k = absurd (omega arith)
the_point_tells (c ∷ []) e i k = refl
the_point_tells (c ∷ d ∷ xs) e i k = absurd (omega arith)

module _ (R : Rules) where
  -- A begin of `type` that stands inside `outer`: whatever comes inside it, the whole is one of the outer's things; and something can come.
  pub record Made (outer : GeometryType) (level : ℕ) (type : GeometryType) (tagged : Bool) (size : ℕ) : Type 0 where
    pub thing : Left R type (suc level) (count type size) 0 → Inside outer
    pub keeps : (r : Left R type (suc level) (count type size) 0) → Keeps R outer level (thing r)
    pub tell : (r : Left R type (suc level) (count type size) 0) (i : ℕ) (k : List Event) → tells outer (thing r) i k ≡ begin type tagged size i ∷ each (tells type) r.things 0 (end type tagged i ∷ k)
    pub default : Left R type (suc level) (count type size) 0

  abbrev pub OnPlace : GeometryType → ℕ → GeometryType → ℕ → Place → Type 0
  OnPlace outer level type size (here tagged) = MayHold R type size → Made outer level type tagged size
  OnPlace outer level type size too_deep = Unit {0}
  OnPlace outer level type size nowhere = Unit {0}

  -- a pair, where pairs stand
  pub record Pair (outer : GeometryType) (level x y : ℕ) : Type 0 where
    pub thing : Inside outer
    pub keeps : Keeps R outer level thing
    pub tell : (i : ℕ) (k : List Event) → tells outer thing i k ≡ pair x y i ∷ k

  pub paired : (outer : GeometryType) (level x y : ℕ) → of_pairs outer ≡ true → x < limit64 → y < limit64 → Pair outer level x y
  paired Point level x y e h k = record { thing = record { x = x; y = y }; keeps = (h, k); tell = λ i k. refl }
  paired LineString level x y e h k = record { thing = record { x = x; y = y }; keeps = (h, k); tell = λ i k. refl }
  paired Polygon level x y e h k = absurd (never e)
  paired MultiPoint level x y e h k = record { thing = record { x = x; y = y }; keeps = (h, k); tell = λ i k. refl }
  paired MultiLineString level x y e h k = absurd (never e)
  paired MultiPolygon level x y e h k = absurd (never e)
  paired Collection level x y e h k = absurd (never e)

  -- ---- as many as are asked for, all alike
  pub many : (type : GeometryType) (level : ℕ) (a : Inside type) → Keeps R type level a → (n : ℕ) → Left R type level n 0
  many type level a h n = record { things = replicate n a; fill = omega (arith, length-replicate n a); keep = each-replicate (Keeps R type level) a h n }

  pub some-keeps : (type : GeometryType) (level : ℕ) → Keeps R type level (some type)
  some-keeps Point level = at-origin
  some-keeps LineString level = at-origin
  some-keeps Polygon level = ((λ e. omega arith, omega arith), (at-origin, tt))
  some-keeps MultiPoint level = at-origin
  some-keeps MultiLineString level = ((λ e. omega arith, omega arith), (at-origin, tt))
  some-keeps MultiPolygon level = ((λ e. omega arith, omega arith), (((λ e. omega arith, omega arith), (at-origin, tt)), tt))
  some-keeps Collection level = at-origin

  -- ---- all types but Point: the size is the number of things
  module _ (outer : GeometryType) (level : ℕ) (type : GeometryType) (tagged : Bool) (size : ℕ) (counts : count type size ≡ size) where
    long : (r : Left R type (suc level) (count type size) 0) → length r.things ≡ size
    long r = omega (arith, r.fill, counts)

    -- `P` is what is known of the size
    grouped :
        (P : ℕ → Type 0)
        → P size
        → (put : List (Inside type) → Inside outer)
        → ((xs : List (Inside type)) → P (length xs) → Each (Keeps R type (suc level)) xs → Keeps R outer level (put xs))
        → ((xs : List (Inside type)) (i : ℕ) (k : List Event) → tells outer (put xs) i k ≡ group type tagged (tells type) xs i k)
        → Made outer level type tagged size
    grouped P ok put keep tell = record {
      thing = λ r. put r.things;
      keeps = λ r. keep r.things (rw (long r) ok) r.keep;
      tell = λ r i k. rw tell (ap (λ (n : ℕ). begin type tagged n i ∷ each (tells type) r.things 0 (end type tagged i ∷ k)) (long r));
      default = many type (suc level) (some type) (some-keeps type (suc level)) (count type size);
    }

  -- a line inside a Polygon or MultiLineString, a polygon inside a MultiPolygon
  line_in_polygon : (level size : ℕ) → MayHold R LineString size → Made Polygon level LineString false size
  line_in_polygon level size ok = grouped Polygon level LineString false size refl (MayHold R LineString) ok (λ xs. xs) (λ xs a h. (a, h)) (λ xs i k. refl)

  line_in_lines : (level size : ℕ) → MayHold R LineString size → Made MultiLineString level LineString false size
  line_in_lines level size ok = grouped MultiLineString level LineString false size refl (MayHold R LineString) ok (λ xs. xs) (λ xs a h. (a, h)) (λ xs i k. refl)

  polygon_in_polygons : (level size : ℕ) → MayHold R Polygon size → Made MultiPolygon level Polygon false size
  polygon_in_polygons level size ok = grouped MultiPolygon level Polygon false size refl (MayHold R Polygon) ok (λ xs. xs) (λ xs a h. (a, h)) (λ xs i k. refl)

  -- ---- members of a collection
  the_point_keeps : (level : ℕ) (xs : List Coord) (e : 0 + length xs ≡ 1) → Each PairRule xs → Keeps R Collection level (the_point xs e)
  unfolding the_point
  the_point_keeps level [] e h = absurd (omega arith)
  the_point_keeps level (c ∷ xs) e h = h.0

  point-member : (level size : ℕ) → size ≡ 0 → Made Collection level Point false size
  point-member level size e = record {
    thing = λ r. the_point r.things r.fill;
    keeps = λ r. the_point_keeps level r.things r.fill r.keep;
    tell = λ r i k. rw e (the_point_tells r.things r.fill i k);
    default = many Point (suc level) origin at-origin 1;
  }

  -- a type whose members may lie one level deeper, where that is not too deep
  module _ (level : ℕ) (type : GeometryType) (size : ℕ) (counts : count type size ≡ size)
      (put : List (Inside type) → Any)
      (keep : (xs : List (Inside type)) → LevelRule R type level (Keeps R type (suc level)) xs → Keeps R Collection level (put xs))
      (tell : (xs : List (Inside type)) (i : ℕ) (k : List Event) → tells Collection (put xs) i k ≡ group type false (tells type) xs i k) where
    opened : OnPlace Collection level type size (cond (exceeds R type level size) too_deep (here false))
    opened = go _ refl
      where
        go : (b : Bool) → exceeds R type level size ≡ b → OnPlace Collection level type size (cond b too_deep (here false))
        go true e = tt
        go false e = λ ok. grouped Collection level type false size counts (λ n. MayHold R type n × Clear R type level n) (ok, exceeds_false R type level size e) put (λ xs a h. keep xs (a.0, a.1, h)) tell

  members : (level : ℕ) (type : GeometryType) (size : ℕ) → OnPlace Collection level type size (member R level type size)
  members level Point size = λ ok. point-member level size ok
  members level LineString size = λ ok. grouped Collection level LineString true size refl (MayHold R LineString) ok (λ xs. any zero (line_string xs)) (λ xs a h. (a, h)) (λ xs i k. refl)
  members level Polygon size = λ ok. grouped Collection level Polygon true size refl (MayHold R Polygon) ok (λ xs. any zero (polygon xs)) (λ xs a h. (a, h)) (λ xs i k. refl)
  members level MultiPoint size = opened level MultiPoint size refl (λ xs. any zero (multi_point xs)) (λ xs h. h) (λ xs i k. refl)
  members level MultiLineString size = opened level MultiLineString size refl (λ xs. any zero (multi_line_string xs)) (λ xs h. h) (λ xs i k. refl)
  members level MultiPolygon size = opened level MultiPolygon size refl (λ xs. any zero (multi_polygon xs)) (λ xs h. h) (λ xs i k. refl)
  members level Collection size = opened level Collection size refl collect (λ xs h. subst⁻¹ (λ (X : Type 0). X) (collect_rule R xs level) h) collect-tells

  pub made : (outer : GeometryType) (level : ℕ) (type : GeometryType) (size : ℕ) → OnPlace outer level type size (place R outer level type size)
  made Point level type size = tt
  made LineString level type size = tt
  made Polygon level Point size = tt
  made Polygon level LineString size = line_in_polygon level size
  made Polygon level Polygon size = tt
  made Polygon level MultiPoint size = tt
  made Polygon level MultiLineString size = tt
  made Polygon level MultiPolygon size = tt
  made Polygon level Collection size = tt
  made MultiPoint level type size = tt
  made MultiLineString level Point size = tt
  made MultiLineString level LineString size = line_in_lines level size
  made MultiLineString level Polygon size = tt
  made MultiLineString level MultiPoint size = tt
  made MultiLineString level MultiLineString size = tt
  made MultiLineString level MultiPolygon size = tt
  made MultiLineString level Collection size = tt
  made MultiPolygon level Point size = tt
  made MultiPolygon level LineString size = tt
  made MultiPolygon level Polygon size = polygon_in_polygons level size
  made MultiPolygon level MultiPoint size = tt
  made MultiPolygon level MultiLineString size = tt
  made MultiPolygon level MultiPolygon size = tt
  made MultiPolygon level Collection size = tt
  made Collection level type size = members level type size
