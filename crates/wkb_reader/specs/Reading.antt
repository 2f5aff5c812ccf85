-- SPEC 14.3 to 14.6: what is read of well-known binary, field by field: the events to say, and the number at the first fault. At each field 18 stands
-- first, then 19; 13 stands behind a member's type, 20 at the end. Saying a record to a log adds 9, where it finds no room.
use Rattle.std.specs.Prelude.{Bool, true, false, cond, ◌&&◌, List, ℕ, zero, suc, ◌+◌, ◌-◌, leb, eqb, length, take, drop}
use Rattle.laws.specs.Script.{Script, stop, say}
use Rattle.kinds.specs.Event.{begin_e, end_e, xy_e}
use Rattle.kinds.specs.declared.event.Event.{Event}
use Rattle.wkb.specs.Order.{value_of}
use Rattle.wkb.specs.declared.order.Order.{Order}
use Rattle.wkb.specs.declared.order.Order.TheVariants.{Big, Little}

-- what is said of the bytes that are left
abbrev pub Next : Type 0
Next = List ℕ → Script Event

-- a reading takes bytes off the front, and what is said of the others follows
abbrev pub Reads : Type 0
Reads = List ℕ → Next → Script Event

abbrev pub saying : Event → Reads
saying e l next = say e (next l)

abbrev pub refuse : ℕ → Reads
refuse number l next = stop number

infixr 25 ◌⊳◌
-- one behind the other
abbrev pub ◌⊳◌ : Reads → Reads → Reads
(r ⊳ s) l next = r l (λ rest. s rest next)

-- a field so wide, or 18 where it is cut short
unfoldable pub field : Order → ℕ → (ℕ → Reads) → Reads
field order wide f l next = cond (leb wide (length l)) (f (value_of order (take wide l)) (drop wide l) next) (stop 18)

-- so many things, numbered from i on
unfoldable pub several : (ℕ → Reads) → ℕ → ℕ → Reads
several f zero i l next = next l
several f (suc n) i l next = f i l (λ rest. several f n (i + 1) rest next)

-- ---- what has no order mark: it goes by the order of the geometry that it is in
unfoldable pub pair_r : Order → ℕ → Reads
pair_r order i = field order 8 (λ x. field order 8 (λ y. saying (xy_e x y i)))

-- a count; the begin is said behind it; so many things, numbered from 0; the end
unfoldable pub group_r : Order → ℕ → Bool → (ℕ → Reads) → ℕ → Reads
group_r order type tagged f i = field order 4 (λ n. saying (begin_e type tagged n i) ⊳ several f n 0 ⊳ saying (end_e type tagged i))

unfoldable pub line_r : Order → Bool → ℕ → Reads
line_r order tagged i = group_r order 2 tagged (pair_r order) i

unfoldable pub polygon_r : Order → Bool → ℕ → Reads
polygon_r order tagged i = group_r order 3 tagged (line_r order false) i

-- a Point's begin is said before its x is looked at
unfoldable pub point_r : Order → ℕ → Reads
point_r order i = saying (begin_e 1 false 0 i) ⊳ pair_r order 0 ⊳ saying (end_e 1 false i)

-- ---- an order mark, 0 or 1, and a type that may stand there
abbrev pub order_of : ℕ → Order
order_of zero = Big
order_of (suc n) = Little

unfoldable pub type_r : ℕ → ℕ → (Order → ℕ → Reads) → Order → Reads
type_r least most f order = field order 4 (λ type. cond (leb least type && leb type most) (f order type) (refuse 19))

unfoldable pub head_r : ℕ → ℕ → (Order → ℕ → Reads) → Reads
head_r least most f = field Little 1 (λ mark. cond (leb mark 1) (type_r least most f (order_of mark)) (refuse 19))

-- one level deeper, where one is left
abbrev pub below : ℕ → Reads → Reads
below zero r = refuse 13
below (suc left) r = r

-- a member of a Multi, by the order of its own mark: a point is a pair with the member's number, a line and a polygon are untagged
unfoldable pub part_r : Order → ℕ → ℕ → Reads
part_r order type i =
    cond (eqb type 1) (pair_r order i)
    (cond (eqb type 2) (line_r order false i)
    (polygon_r order false i))

-- it has the Multi's single type
unfoldable pub member_r : ℕ → ℕ → ℕ → Reads
member_r left single i = head_r single single (λ order type. below left (part_r order single i))

-- MultiPoint 4, MultiLineString 5 and MultiPolygon 6 are of Points 1, LineStrings 2 and Polygons 3
unfoldable pub multi_r : ℕ → Order → ℕ → ℕ → Reads
multi_r left order type i = group_r order type false (member_r left (type - 3)) i

-- what stands behind the head of any type but GeometryCollection
unfoldable pub simple_r : ℕ → Order → ℕ → ℕ → Reads
simple_r left order type i =
    cond (eqb type 1) (point_r order i)
    (cond (eqb type 2) (line_r order true i)
    (cond (eqb type 3) (polygon_r order true i)
    (multi_r left order type i)))

-- a geometry, with so many levels left, its own among them
unfoldable pub geometry_r : ℕ → ℕ → Reads
geometry_r zero i = head_r 1 7 (λ order type. refuse 13)
geometry_r (suc left) i = head_r 1 7 (λ order type. cond (eqb type 7) (group_r order 7 false (geometry_r left) i) (simple_r left order type i))

-- no byte is left over
abbrev pub at_end : Next
at_end rest = cond (eqb (length rest) 0) (stop 0) (stop 20)

-- the outermost is at level 1 of 16, and its index is 0
unfoldable pub reading_r : List ℕ → Script Event
reading_r l = geometry_r 16 0 l at_end
