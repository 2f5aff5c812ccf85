-- What is spelled of a geometry's events is its well-known binary, little-endian throughout; no event adds more than 21 bytes.
use Rattle.std.specs.Prelude.{◌≡◌, refl, Bool, true, false, not, cond, ◌&&◌, List, [], ◌∷◌, ◌++◌, ℕ, zero, suc, ◌+◌, ◌*◌, ◌≤◌, length}
use Rattle.std.proofs.Common.{sym, ◌∙◌, arith, length-append}
use Rattle.std.proofs.Math.Path.{ap}
use Rattle.laws.specs.Bytes.{le}
use Rattle.planar.specs.Geometry.{Coord, Line, Rings, Simple, point, line_string, polygon, multi_point, multi_line_string, multi_polygon, simple, collection, Geometry}
use Rattle.wkb.specs.Wkb.{Lays, uint32, head, pair_bytes, joined, ring_bytes, joined_in, wkb_point, wkb_line_string, wkb_polygon, own, Orders, wkb_simple, wkb, for_each, little_own, little_simple, little, little_bytes}
use Rattle.wkb.specs.declared.order.Order.TheVariants.{Little}
use Rattle.nesting.specs.declared.geometry_type.GeometryType.{GeometryType}
use Rattle.nesting.specs.declared.geometry_type.GeometryType.TheVariants.{Point, LineString, Polygon, MultiPoint, MultiLineString, MultiPolygon, Collection}
use Rattle.nesting.specs.Events.{Event, begin, end, pair, strange, Tells, each, group, coord_of, line_of, rings_of, simple_of, geometry_of, events_of}
use Rattle.wkb_written.specs.declared.around.Around.{Around}
use Rattle.wkb_written.specs.Spelling.{outermost, head_bytes, pair_of, after, begin_bytes, bytes_of, spelled}

-- ---- events before others are spelled as bytes before others, in every place that fits, and what follows stands in such a place too
record Follows (fits : Around → Type 0) (k : Around) (tells : List Event → List Event) (lays : Lays) : Type 0 where
  around : Around
  fitting : fits around
  is : (es : List Event) → spelled k (tells es) ≡ lays (spelled around es)

record Spells (fits : Around → Type 0) (tells : List Event → List Event) (lays : Lays) : Type 0 where
  goes : (k : Around) → fits k → Follows fits k tells lays

then_spells : {fits : Around → Type 0} {t u : List Event → List Event} {b c : Lays} → Spells fits t b → Spells fits u c → Spells fits (λ es. t (u es)) (λ l. b (c l))
then_spells {u = u} {b = b} p q = record {
  goes = λ k h.
      let first = p.goes k h in
      let second = q.goes first.around first.fitting in
      record { around = second.around; fitting = second.fitting; is = λ es. first.is (u es) ∙ ap b (second.is es) };
}

-- ---- the places: any, those where a line is a ring and where it is none, those where a pair is no Point and where it is one
abbrev Anywhere : Around → Type 0
Anywhere k = Unit {0}

abbrev Ring : Around → Type 0
Ring k = k.rings ≡ true

abbrev NoRing : Around → Type 0
NoRing k = k.rings ≡ false

abbrev Bare : (Around → Type 0) → Around → Type 0
Bare fits k = fits k × (k.points ≡ false)

abbrev Points : Around → Type 0
Points k = k.points ≡ true

-- ---- a list of things, and a begin, the things, an end
module _ {A : Type 0} (fits : Around → Type 0) (f : Tells A) (lays : A → Lays) (one : (a : A) (i : ℕ) → Spells fits (f a i) (lays a)) where
  each_spells : (xs : List A) (i : ℕ) → Spells fits (each f xs i) (joined lays xs)
  each_spells [] i = record { goes = λ k h. record { around = k; fitting = h; is = λ es. refl } }
  each_spells (a ∷ xs) i = then_spells (one a i) (each_spells xs (i + 1))

  -- what the begin adds, in a place `outer`; its things stand in places that fit, which are outer ones
  group_spells : (outer : Around → Type 0) (type : GeometryType) (tagged : Bool) (heads : Lays) (xs : List A) (i : ℕ)
      → ((k : Around) → outer k → fits (after k (begin type tagged (length xs) i))) → ((k : Around) → fits k → outer k)
      → ((k : Around) → outer k → (l : List ℕ) → begin_bytes k type tagged (length xs) ++ l ≡ heads l)
      → Spells outer (group type tagged f xs i) (λ l. heads (joined lays xs l))
  unfolding spelled
  group_spells outer type tagged heads xs i opens back adds = record {
    goes = λ k h.
        let things = (each_spells xs 0).goes (after k (begin type tagged (length xs) i)) (opens k h) in
        record {
          around = things.around;
          fitting = back things.around things.fitting;
          is = λ es. adds k h _ ∙ ap heads (things.is (end type tagged i ∷ es));
        };
  }

-- ---- pairs, lines and polygons
coord_spells : (fits : Around → Type 0) (c : Coord) (i : ℕ) → Spells (Bare fits) (coord_of c i) (pair_bytes Little c)
unfolding spelled
coord_spells fits c i = record { goes = λ k h. record { around = k; fitting = h; is = λ es. rw h.1 } }

point_spells : (c : Coord) (i : ℕ) → Spells Points (coord_of c i) (wkb_point c Little)
unfolding spelled
point_spells c i = record { goes = λ k h. record { around = k; fitting = h; is = λ es. rw h } }

ring_spells : (l : Line) (i : ℕ) → Spells Ring (line_of l i) (ring_bytes Little l)
ring_spells l i = group_spells (Bare Ring) coord_of (pair_bytes Little) (coord_spells Ring) Ring LineString false (uint32 Little (length l)) l i (λ k h. (h, refl)) (λ k h. h.0) (λ k h rest. rw h)

line_spells : (l : Line) (i : ℕ) → Spells NoRing (line_of l i) (wkb_line_string l Little)
line_spells l i = group_spells (Bare NoRing) coord_of (pair_bytes Little) (coord_spells NoRing) NoRing LineString false (λ k. head Little 2 (uint32 Little (length l) k)) l i (λ k h. (h, refl)) (λ k h. h.0) (λ k h rest. rw h)

polygon_spells : (tagged : Bool) (rs : Rings) (i : ℕ) → Spells Anywhere (group Polygon tagged line_of rs i) (wkb_polygon rs Little)
polygon_spells tagged rs i = group_spells Ring line_of (ring_bytes Little) ring_spells Anywhere Polygon tagged (λ k. head Little 3 (uint32 Little (length rs) k)) rs i (λ k h. refl) (λ k h. tt) (λ k h rest. refl)

-- ---- geometries, each with an order mark of its own, all little-endian
joined-little : {A : Type 0} (O : A → Type 0) (f : (a : A) → O a → Lays) (o : (a : A) → O a) (xs : List A) (l : List ℕ) → joined_in O f xs (for_each O o xs) l ≡ joined (λ a. f a (o a)) xs l
joined-little O f o [] l = refl
joined-little O f o (a ∷ xs) l = ap (f a (o a)) (joined-little O f o xs l)

-- the heads of a type that holds geometries stand for themselves in every place
module _ {A : Type 0} (fits : Around → Type 0) (f : Tells A) (O : A → Type 0) (lays : (a : A) → O a → Lays) (o : (a : A) → O a) (one : (a : A) (i : ℕ) → Spells fits (f a i) (lays a (o a))) where
  members_spell : (type : GeometryType) (kind : ℕ) (xs : List A) (i : ℕ) → ((k : Around) → fits (after k (begin type false (length xs) i))) → ((k : Around) (l : List ℕ) → begin_bytes k type false (length xs) ++ l ≡ head Little kind (uint32 Little (length xs) l))
      → Spells Anywhere (group type false f xs i) (λ l. head Little kind (uint32 Little (length xs) (joined_in O lays xs (for_each O o xs) l)))
  members_spell type kind xs i opens adds = record {
    goes = λ k h.
        let s = (group_spells fits f (λ a. lays a (o a)) one Anywhere type false (λ l. head Little kind (uint32 Little (length xs) l)) xs i (λ k h. opens k) (λ k h. tt) (λ k h. adds k)).goes k h in
        record {
          around = s.around;
          fitting = tt;
          is = λ es. s.is es ∙ ap (λ (l : List ℕ). head Little kind (uint32 Little (length xs) l)) (sym (joined-little O lays o xs (spelled s.around es)));
        };
  }

-- a line that is tagged is no ring, wherever it stands
tagged_line : (rings : Bool) (short long : List ℕ) → cond (rings && not true) short long ≡ long
tagged_line true short long = refl
tagged_line false short long = refl

simple_spells : (s : Simple) (i : ℕ) → Spells Anywhere (simple_of s i) (wkb_simple s (little_simple s))
unfolding spelled
simple_spells (point c) i = record { goes = λ k h. record { around = record { rings = k.rings; points = false }; fitting = tt; is = λ es. refl } }
simple_spells (line_string l) i =
    group_spells (Bare Anywhere) coord_of (pair_bytes Little) (coord_spells Anywhere) Anywhere LineString true (λ k. head Little 2 (uint32 Little (length l) k)) l i (λ k h. (tt, refl)) (λ k h. tt)
    (λ k h rest. ap (λ (b : List ℕ). b ++ rest) (tagged_line k.rings (le 4 (length l)) (head_bytes 2 ++ le 4 (length l))))
simple_spells (polygon rs) i = polygon_spells true rs i
simple_spells (multi_point cs) i = members_spell Points coord_of own wkb_point little_own point_spells MultiPoint 4 cs i (λ k. refl) (λ k l. refl)
simple_spells (multi_line_string ls) i = members_spell NoRing line_of own wkb_line_string little_own line_spells MultiLineString 5 ls i (λ k. refl) (λ k l. refl)
simple_spells (multi_polygon ps) i = members_spell Anywhere rings_of own wkb_polygon little_own (polygon_spells false) MultiPolygon 6 ps i (λ k. tt) (λ k l. refl)

geometry_spells : (n : ℕ) (g : Geometry n) (i : ℕ) → Spells Anywhere (geometry_of n g i) (wkb n g (little n g))
geometry_spells zero s i = simple_spells s i
geometry_spells (suc n) (simple s) i = simple_spells s i
geometry_spells (suc n) (collection gs) i = members_spell Anywhere (geometry_of n) (Orders n) (wkb n) (little n) (geometry_spells n) Collection 7 gs i (λ k. tt) (λ k l. refl)

pub spelled-little : (n : ℕ) (g : Geometry n) → spelled outermost (events_of n g) ≡ little_bytes n g
unfolding spelled little_bytes
spelled-little n g = ((geometry_spells n g 0).goes outermost tt).is []

-- ---- the most that an event adds is a Point inside a MultiPoint
line_bound : (ring : Bool) (size : ℕ) → length (cond ring (le 4 size) (head_bytes 2 ++ le 4 size)) ≤ 21
line_bound true size = omega arith
line_bound false size = omega arith

begin_bound : (k : Around) (type : GeometryType) (tagged : Bool) (size : ℕ) → length (begin_bytes k type tagged size) ≤ 21
begin_bound k Point tagged size = omega arith
begin_bound k LineString tagged size = line_bound (k.rings && not tagged) size
begin_bound k Polygon tagged size = omega arith
begin_bound k MultiPoint tagged size = omega arith
begin_bound k MultiLineString tagged size = omega arith
begin_bound k MultiPolygon tagged size = omega arith
begin_bound k Collection tagged size = omega arith

pair_bound : (points : Bool) (x y : ℕ) → length (cond points (head_bytes 1 ++ pair_of x y) (pair_of x y)) ≤ 21
pair_bound true x y = omega arith
pair_bound false x y = omega arith

pub event_bound : (k : Around) (e : Event) → length (bytes_of k e) ≤ 21
event_bound k (begin type tagged size idx) = begin_bound k type tagged size
event_bound k (end type tagged idx) = omega arith
event_bound k (pair x y idx) = pair_bound k.points x y
event_bound k (strange kind) = omega arith

pub spelled_length_bound : (k : Around) (es : List Event) → length (spelled k es) ≤ 21 * length es
unfolding spelled
spelled_length_bound k [] = omega arith
spelled_length_bound k (e ∷ es) = omega (arith, length-append (bytes_of k e) (spelled (after k e) es), event_bound k e, spelled_length_bound (after k e) es)
