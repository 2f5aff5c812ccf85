-- OGC Simple Features 1.2.1, 8.2: the bytes of a geometry. Each geometry has an order mark of its own, and its numbers lie in that order.
use Rattle.std.specs.Prelude.{Option, Some, None, List, [], ◌∷◌, ◌++◌, ◌≡◌, ℕ, zero, suc, ◌<◌, length}
use Rattle.planar.specs.Geometry.{Coord, Line, Rings, Simple, point, line_string, polygon, multi_point, multi_line_string, multi_polygon, simple, collection, Geometry}
use Rattle.planar.specs.Fits.{Each, Fits}
use Rattle.wkb.specs.Order.{number_bytes}
use Rattle.wkb.specs.declared.order.Order.{Order}
use Rattle.wkb.specs.declared.order.Order.TheVariants.{Big, Little}

-- ---- the bytes of a thing, before those that follow it
abbrev pub Lays : Type 0
Lays = List ℕ → List ℕ

-- wkbXDR = 0, wkbNDR = 1
abbrev pub mark : Order → ℕ
mark Big = 0
mark Little = 1

-- the order that a number marks
abbrev pub MarkedBy : ℕ → Option Order → Type 0
MarkedBy n (Some order) = mark order ≡ n
MarkedBy n None = 1 < n

abbrev pub uint32 : Order → ℕ → Lays
uint32 o v k = number_bytes o 4 v ++ k

abbrev pub double : Order → ℕ → Lays
double o v k = number_bytes o 8 v ++ k

-- byte byteOrder; uint32 wkbType
abbrev pub head : Order → ℕ → Lays
head o type k = mark o ∷ uint32 o type k

-- Point: double x; double y
abbrev pub pair_bytes : Order → Coord → Lays
pair_bytes o c k = double o c.x (double o c.y k)

-- one behind the other
abbrev pub joined : {A : Type 0} → (A → Lays) → List A → Lays
joined f [] k = k
joined f (a ∷ xs) k = f a (joined f xs k)

-- a count, and so many
abbrev pub counted : {A : Type 0} → Order → (A → Lays) → List A → Lays
counted o f xs k = uint32 o (length xs) (joined f xs k)

-- LinearRing, and a LineString behind its head: uint32 numPoints; Point points[numPoints]
abbrev pub ring_bytes : Order → Line → Lays
ring_bytes o l = counted o (pair_bytes o) l

abbrev pub wkb_point : Coord → Order → Lays
wkb_point c o k = head o 1 (pair_bytes o c k)

abbrev pub wkb_line_string : Line → Order → Lays
wkb_line_string l o k = head o 2 (ring_bytes o l k)

abbrev pub wkb_polygon : Rings → Order → Lays
wkb_polygon rs o k = head o 3 (counted o (ring_bytes o) rs k)

-- ---- geometries with orders of their own, one behind the other
abbrev pub joined_in : {A : Type 0} (O : A → Type 0) → ((a : A) → O a → Lays) → (xs : List A) → Each O xs → Lays
joined_in O f [] os k = k
joined_in O f (a ∷ xs) os k = f a os.0 (joined_in O f xs os.1 k)

-- an order, and one for each member
abbrev pub OrderAnd : {A : Type 0} → (A → Type 0) → List A → Type 0
OrderAnd O xs = Order × Each O xs

abbrev pub wkb_of : {A : Type 0} (O : A → Type 0) → ((a : A) → O a → Lays) → ℕ → (xs : List A) → OrderAnd O xs → Lays
wkb_of O f type xs os k = head os.0 type (uint32 os.0 (length xs) (joined_in O f xs os.1 k))

abbrev pub own : {A : Type 0} → A → Type 0
own a = Order

-- an order for each geometry, the outer one's first
abbrev pub SimpleOrders : Simple → Type 0
SimpleOrders (point c) = Order
SimpleOrders (line_string l) = Order
SimpleOrders (polygon rs) = Order
SimpleOrders (multi_point cs) = OrderAnd own cs
SimpleOrders (multi_line_string ls) = OrderAnd own ls
SimpleOrders (multi_polygon ps) = OrderAnd own ps

abbrev pub Orders : (n : ℕ) → Geometry n → Type 0
Orders zero s = SimpleOrders s
Orders (suc n) (simple s) = SimpleOrders s
Orders (suc n) (collection gs) = OrderAnd (Orders n) gs

abbrev pub wkb_simple : (s : Simple) → SimpleOrders s → Lays
wkb_simple (point c) o = wkb_point c o
wkb_simple (line_string l) o = wkb_line_string l o
wkb_simple (polygon rs) o = wkb_polygon rs o
wkb_simple (multi_point cs) os = wkb_of own wkb_point 4 cs os
wkb_simple (multi_line_string ls) os = wkb_of own wkb_line_string 5 ls os
wkb_simple (multi_polygon ps) os = wkb_of own wkb_polygon 6 ps os

abbrev pub wkb : (n : ℕ) (g : Geometry n) → Orders n g → Lays
wkb zero s os = wkb_simple s os
wkb (suc n) (simple s) os = wkb_simple s os
wkb (suc n) (collection gs) os = wkb_of (Orders n) (wkb n) 7 gs os

-- ---- what bytes mean
pub record Meaning (l : List ℕ) : Type 0 where
  pub n : ℕ
  pub geometry : Geometry n
  pub fits : Fits n geometry
  pub orders : Orders n geometry
  pub spelled : wkb n geometry orders [] ≡ l

-- ---- little-endian throughout: what is written
-- a value for each member of a list
abbrev pub for_each : {A : Type 0} (O : A → Type 0) → ((a : A) → O a) → (xs : List A) → Each O xs
for_each O f [] = tt
for_each O f (a ∷ xs) = (f a, for_each O f xs)

abbrev pub little_own : {A : Type 0} (a : A) → Order
little_own a = Little

abbrev pub little_simple : (s : Simple) → SimpleOrders s
little_simple (point c) = Little
little_simple (line_string l) = Little
little_simple (polygon rs) = Little
little_simple (multi_point cs) = (Little, for_each own little_own cs)
little_simple (multi_line_string ls) = (Little, for_each own little_own ls)
little_simple (multi_polygon ps) = (Little, for_each own little_own ps)

abbrev pub little : (n : ℕ) (g : Geometry n) → Orders n g
little zero s = little_simple s
little (suc n) (simple s) = little_simple s
little (suc n) (collection gs) = (Little, for_each (Orders n) (little n) gs)

unfoldable pub little_bytes : (n : ℕ) → Geometry n → List ℕ
little_bytes n g = wkb n g (little n g) []
