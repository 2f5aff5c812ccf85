-- Reading says exactly what the bytes of a geometry mean.
use Rattle.std.specs.Prelude.{◌≡◌, Bool, ◌&&◌, List, [], ◌∷◌, map, ℕ, zero, suc, ◌<◌, ◌≤◌, leb, length}
use Rattle.std.proofs.Math.Path.{refl}
use Rattle.std.proofs.Common.{sym, ap, ◌∙◌, arith, lit<}
use Rattle.std.proofs.Math.Bool.{true, false}
use Rattle.std.proofs.Math.Dec.{eqb-suc-zero}
use Rattle.laws.specs.Script.{stop, say}
use Rattle.kinds.specs.Event.{begin_e, end_e, xy_e}
use Rattle.kinds.specs.declared.event.Event.{Event}
use Rattle.geometries.specs.Events as Told
use Rattle.geometries.specs.Told.{told}
use Rattle.planar.specs.Geometry.{Coord, Line, Rings, Simple, point, line_string, polygon, multi_point, multi_line_string, multi_polygon, simple, collection, Geometry}
use Rattle.planar.specs.Within.{coord_in, line_in, rings_in, simple_in, geometry_in, plain, planar_events}
use Rattle.planar.specs.Fits.{Row, FitsCoord, FitsLine, FitsRings, FitsSimple, Fits}
use Rattle.planar.specs.Levels.{alone, simple_levels, levels}
use Rattle.wkb.specs.Wkb.{Lays, uint32, head, counted, pair_bytes, ring_bytes, wkb_point, wkb_line_string, wkb_polygon, own, SimpleOrders, Orders, wkb_simple, wkb, little, little_bytes}
use Rattle.wkb.specs.declared.order.Order.{Order}
use Rattle.wkb_reader.specs.Reading.{Reads, pair_r, group_r, line_r, polygon_r, point_r, part_r, member_r, multi_r, simple_r, geometry_r, at_end, reading_r}
use Rattle.wkb_meaning.specs.Parts.{free, frees, joined_free, Within, row_within}
use Rattle.wkb_meaning.specs.Says.{said_then, Says, saying-says, then-says, field-says, head-says, group-says}

-- ---- what has no order mark goes by the order of the geometry that it is in
counted-says : {A B : Type 0} (P : A → Type 0) (f : A → Lays) (R : ℕ → Reads) (within : A → B) (tells : Told.Tells B) → ((a : A) → P a → (i : ℕ) → Says (R i) (f a) (tells (within a) i))
    → (o : Order) (type : ℕ) (tagged : Bool) (xs : List A) → Row P xs → (i : ℕ) → Says (group_r o type tagged R i) (counted o f xs) (Told.group type tagged tells (map within xs) i)
counted-says P f R within tells one o type tagged xs ps i =
    record {
      says = λ l next es s h.
          ap (λ (k : List ℕ). group_r o type tagged R i (uint32 o (length xs) k) next) (sym (joined_free f xs (frees xs) l))
          ∙ (group-says P free (λ a o. f a) R within tells (λ a o. one a) o type tagged xs (frees xs) ps i).says l next es s h;
    }

pair-says : (o : Order) (c : Coord) → FitsCoord c → (i : ℕ) → Says (pair_r o i) (pair_bytes o c) (Told.coord_of plain (coord_in c) i)
unfolding pair_r
pair-says o c fits i = field-says o 8 c.x _ fits.0 (field-says o 8 c.y _ fits.1 (saying-says (xy_e c.x c.y i)))

line-says : (o : Order) (tagged : Bool) (l : Line) → FitsLine l → (i : ℕ) → Says (line_r o tagged i) (ring_bytes o l) (Told.group 2 tagged (Told.coord_of plain) (line_in l) i)
unfolding line_r
line-says o tagged = counted-says FitsCoord (pair_bytes o) (pair_r o) coord_in (Told.coord_of plain) (pair-says o) o 2 tagged

polygon-says : (o : Order) (tagged : Bool) (rs : Rings) → FitsRings rs → (i : ℕ) → Says (polygon_r o tagged i) (counted o (ring_bytes o) rs) (Told.group 3 tagged (Told.line_of plain) (rings_in rs) i)
unfolding polygon_r
polygon-says o tagged = counted-says FitsLine (ring_bytes o) (line_r o false) line_in (Told.line_of plain) (line-says o false) o 3 tagged

point-says : (o : Order) (c : Coord) → FitsCoord c → (i : ℕ) → Says (point_r o i) (pair_bytes o c) (Told.simple_of plain (simple_in (point c)) i)
unfolding point_r
point-says o c fits i = then-says (saying-says (begin_e 1 false 0 i)) (then-says (pair-says o c fits 0) (saying-says (end_e 1 false i)))

-- ---- a member of a Multi is a geometry: it has a head, and lies one level deeper
member-says : (left single : ℕ) (o : Order) (i : ℕ) {b : Lays} {t : List Event → List Event} → single < 4294967296 → (leb single single && leb single single) ≡ true → 1 ≤ left → Says (part_r o single i) b t
    → Says (member_r left single i) (λ l. head o single (b l)) t
unfolding member_r
member-says zero single o i small there deep p = absurd (omega arith)
member-says (suc left) single o i small there deep p = head-says o single single single _ small there p

module _ (left : ℕ) where
  pub point-member : (c : Coord) (o : Order) → Within FitsCoord alone left c → (i : ℕ) → Says (member_r left 1 i) (wkb_point c o) (Told.coord_of plain (coord_in c) i)
  unfolding part_r
  point-member c o fits i = member-says left 1 o i (lit< tt) refl fits.1 (pair-says o c fits.0 i)

  pub line-member : (l : Line) (o : Order) → Within FitsLine alone left l → (i : ℕ) → Says (member_r left 2 i) (wkb_line_string l o) (Told.line_of plain (line_in l) i)
  unfolding part_r
  line-member l o fits i = member-says left 2 o i (lit< tt) refl fits.1 (line-says o false l fits.0 i)

  pub polygon-member : (rs : Rings) (o : Order) → Within FitsRings alone left rs → (i : ℕ) → Says (member_r left 3 i) (wkb_polygon rs o) (Told.group 3 false (Told.line_of plain) (rings_in rs) i)
  unfolding part_r
  polygon-member rs o fits i = member-says left 3 o i (lit< tt) refl fits.1 (polygon-says o false rs fits.0 i)

  -- ---- geometries
  simple_says : (s : Simple) (os : SimpleOrders s) → FitsSimple s → simple_levels s ≤ suc left → (i : ℕ) → Says (geometry_r (suc left) i) (wkb_simple s os) (Told.simple_of plain (simple_in s) i)
  unfolding geometry_r simple_r multi_r
  simple_says (point c) o fits deep i = head-says o 1 7 1 _ (lit< tt) refl (point-says o c fits i)
  simple_says (line_string l) o fits deep i = head-says o 1 7 2 _ (lit< tt) refl (line-says o true l fits i)
  simple_says (polygon rs) o fits deep i = head-says o 1 7 3 _ (lit< tt) refl (polygon-says o true rs fits i)
  simple_says (multi_point cs) os fits deep i =
      head-says os.0 1 7 4 _ (lit< tt) refl
      (group-says (Within FitsCoord alone left) own wkb_point (member_r left 1) coord_in (Told.coord_of plain) point-member os.0 4 false cs os.1 (row_within FitsCoord alone left cs fits deep) i)
  simple_says (multi_line_string ls) os fits deep i =
      head-says os.0 1 7 5 _ (lit< tt) refl
      (group-says (Within FitsLine alone left) own wkb_line_string (member_r left 2) line_in (Told.line_of plain) line-member os.0 5 false ls os.1 (row_within FitsLine alone left ls fits deep) i)
  simple_says (multi_polygon ps) os fits deep i =
      head-says os.0 1 7 6 _ (lit< tt) refl
      (group-says (Within FitsRings alone left) own wkb_polygon (member_r left 3) rings_in (Told.group 3 false (Told.line_of plain)) polygon-member os.0 6 false ps os.1 (row_within FitsRings alone left ps fits deep) i)

-- a geometry is a level by itself, so with none left there is none
some_level : (s : Simple) → 1 ≤ simple_levels s
some_level (point c) = omega arith
some_level (line_string l) = omega arith
some_level (polygon rs) = omega arith
some_level (multi_point cs) = omega arith
some_level (multi_line_string ls) = omega arith
some_level (multi_polygon ps) = omega arith

geometry_level : (n : ℕ) (g : Geometry n) → 1 ≤ levels n g
geometry_level zero s = some_level s
geometry_level (suc n) (simple s) = some_level s
geometry_level (suc n) (collection gs) = omega arith

pub geometry_says : (left n : ℕ) (g : Geometry n) (os : Orders n g) → Within (Fits n) (levels n) left g → (i : ℕ) → Says (geometry_r left i) (wkb n g os) (Told.geometry_of plain n (geometry_in n g) i)
unfolding geometry_r
geometry_says zero n g os fits i = absurd (omega (arith, geometry_level n g, fits.1))
geometry_says (suc left) zero s os fits i = simple_says left s os fits.0 fits.1 i
geometry_says (suc left) (suc n) (simple s) os fits i = simple_says left s os fits.0 fits.1 i
geometry_says (suc left) (suc n) (collection gs) os fits i =
    head-says os.0 1 7 7 _ (lit< tt) refl
    (group-says (Within (Fits n) (levels n) left) (Orders n) (wkb n) (geometry_r left) (geometry_in n) (Told.geometry_of plain n) (geometry_says left n) os.0 7 false gs os.1 (row_within (Fits n) (levels n) left gs fits.0 fits.1) i)

-- ---- the whole
told-then : (es : List Event) → said_then es (stop 0) ≡ told es
unfolding said_then
told-then [] = refl
told-then (e ∷ es) = ap (say e) (told-then es)

pub reading-says : (n : ℕ) (g : Geometry n) (os : Orders n g) → Fits n g → levels n g ≤ 16 → reading_r (wkb n g os []) ≡ told (planar_events n g)
unfolding reading_r planar_events Told.events_of said_then
reading-says n g os fits deep = (geometry_says 16 n g os (fits, deep) 0).says [] at_end [] (stop 0) refl ∙ told-then (planar_events n g)

-- bytes left over are refused behind the last event, so all that they stand behind is said
pub left_over : (n : ℕ) (g : Geometry n) (os : Orders n g) → Fits n g → levels n g ≤ 16 → (b : ℕ) (rest : List ℕ) → reading_r (wkb n g os (b ∷ rest)) ≡ said_then (planar_events n g) (stop 20)
unfolding reading_r planar_events Told.events_of said_then
left_over n g os fits deep b rest = (geometry_says 16 n g os (fits, deep) 0).says (b ∷ rest) at_end [] (stop 20) (rw (eqb-suc-zero (length rest)))

-- what is written is read as it was meant
pub written_read : (n : ℕ) (g : Geometry n) → Fits n g → levels n g ≤ 16 → reading_r (little_bytes n g) ≡ told (planar_events n g)
unfolding little_bytes
written_read n g fits deep = reading-says n g (little n g) fits deep
