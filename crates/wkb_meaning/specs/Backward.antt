-- Nothing but the bytes of a geometry is read to 0.
use Rattle.std.specs.Prelude.{◌≡◌, refl, Bool, cond, List, [], ◌∷◌, eqb, length}
use Rattle.std.proofs.Common.{sym, ap, ◌∙◌, arith}
use Rattle.std.proofs.Math.Bool.{true, false}
use Prim.Native.Nat.{ℕ, zero, suc, ◌≤◌}
use Rattle.std.proofs.Math.Dec.{eqb-suc-zero}
use Rattle.laws.specs.Bytes.{Bytes}
use Rattle.laws.specs.Cut.{number_of}
use Rattle.planar.specs.Geometry.{point, line_string, polygon, multi_point, multi_line_string, multi_polygon, simple, collection, Geometry}
use Rattle.planar.specs.Fits.{FitsCoord, FitsLine, FitsRings, Fits}
use Rattle.planar.specs.Levels.{alone, levels}
use Rattle.wkb.specs.Wkb.{Lays, head, counted, pair_bytes, ring_bytes, wkb_point, wkb_line_string, wkb_polygon, double, own, Orders, wkb, Meaning}
use Rattle.wkb.specs.declared.order.Order.{Order}
use Rattle.wkb_reader.specs.Reading.{Next, pair_r, group_r, line_r, polygon_r, point_r, part_r, member_r, multi_r, simple_r, geometry_r, at_end, reading_r}
use Rattle.wkb_meaning.specs.Parts.{free, Within, row-around}
use Rattle.wkb_meaning.specs.Finds.{behind, field_found, head-found, PartFound, Finds, group-found, counted-found}

-- ---- what has no order mark goes by the order of the geometry that it is in
pair_found : (o : Order) (i : ℕ) → Finds (pair_r o i) FitsCoord free (λ c u. pair_bytes o c)
unfolding pair_r number_of
pair_found o i l next bytes h =
    let first = field_found o 8 _ l next bytes h in
    let second = field_found o 8 _ first.rest next first.bytes first.goes in
    let x = first.thing in
    let y = second.thing in
    record {
      thing = record { part = record { x = x.0; y = y.0 }; fact = (x.1, y.1); order = tt };
      rest = second.rest;
      bytes = second.bytes;
      is = first.is ∙ ap (double o x.0) second.is;
      goes = second.goes;
    }

line-found : (o : Order) (tagged : Bool) (i : ℕ) → Finds (line_r o tagged i) FitsLine free (λ l u. ring_bytes o l)
unfolding line_r
line-found o tagged = counted-found FitsCoord (pair_bytes o) (pair_r o) (pair_found o) o 2 tagged

polygon-found : (o : Order) (tagged : Bool) (i : ℕ) → Finds (polygon_r o tagged i) FitsRings free (λ rs u. counted o (ring_bytes o) rs)
unfolding polygon_r
polygon-found o tagged = counted-found FitsLine (ring_bytes o) (line_r o false) (line-found o false) o 3 tagged

point-found : (o : Order) (i : ℕ) → Finds (point_r o i) FitsCoord free (λ c u. pair_bytes o c)
unfolding point_r number_of
point-found o i l next bytes h =
    let found = pair_found o 0 l _ bytes h in
    record { thing = found.thing; rest = found.rest; bytes = found.bytes; is = found.is; goes = found.goes }

-- ---- a member of a Multi is a geometry: it has a head, and lies one level deeper
member-found : {A : Type 0} (P : A → Type 0) (body : A → Order → Lays) (left single i : ℕ) → ((o : Order) → Finds (part_r o single i) P free (λ a u. body a o))
    → Finds (member_r left single i) (Within P alone left) own (λ a o k. head o single (body a o k))
unfolding member_r number_of
member-found P body zero single i one l next bytes h = let found = head-found single single _ l next bytes h in absurd (omega (arith, found.goes))
member-found P body (suc left) single i one l next bytes h =
    let found = head-found single single _ l next bytes h in
    let o = found.thing.order in
    let same : found.thing.type ≡ single = omega (arith, found.thing.from, found.thing.to) in
    behind (head o single) (λ x. record { part = x.part; fact = (x.fact, omega arith); order = o }) (found.is ∙ ap (λ (type : ℕ). head o type found.rest) same) (λ x k. refl) (one o found.rest next found.bytes found.goes)

-- ---- geometries: with so many levels left, no more collections than these lie in each other, so one number does for both
abbrev FitsIn : (left : ℕ) → Geometry left → Type 0
FitsIn left = Within (Fits left) (levels left) left

module _ (left i : ℕ) (l : List ℕ) (next : Next) where
  abbrev GeometryFound : Type 0
  GeometryFound = PartFound (FitsIn (suc left)) (Orders (suc left)) (wkb (suc left)) next l

  module _ (inner : (i : ℕ) → Finds (geometry_r left i) (FitsIn left) (Orders left) (wkb left)) (o : Order) (rest : List ℕ) (bytes : Bytes rest) where
    by_type : (type : ℕ) → 1 ≤ type → type ≤ 7 → l ≡ head o type rest → number_of (cond (eqb type 7) (group_r o 7 false (geometry_r left) i) (simple_r left o type i) rest next) ≡ 0 → GeometryFound
    unfolding simple_r multi_r part_r
    by_type zero from to e h = absurd (omega arith)
    by_type (suc zero) from to e h =
        behind (head o 1) (λ x. record { part = simple (point x.part); fact = (x.fact, omega arith); order = o }) e (λ x k. refl) (point-found o i rest next bytes h)
    by_type (suc (suc zero)) from to e h =
        behind (head o 2) (λ x. record { part = simple (line_string x.part); fact = (x.fact, omega arith); order = o }) e (λ x k. refl) (line-found o true i rest next bytes h)
    by_type (suc (suc (suc zero))) from to e h =
        behind (head o 3) (λ x. record { part = simple (polygon x.part); fact = (x.fact, omega arith); order = o }) e (λ x k. refl) (polygon-found o true i rest next bytes h)
    by_type (suc (suc (suc (suc zero)))) from to e h =
        behind (head o 4) (λ x. record { part = simple (multi_point x.part); fact = row-around FitsCoord alone left x.part x.fact; order = (o, x.order) }) e (λ x k. refl)
        (group-found (Within FitsCoord alone left) own wkb_point (member_r left 1) (λ i. member-found FitsCoord (λ c o. pair_bytes o c) left 1 i (λ o. pair_found o i)) o 4 false i rest next bytes h)
    by_type (suc (suc (suc (suc (suc zero))))) from to e h =
        behind (head o 5) (λ x. record { part = simple (multi_line_string x.part); fact = row-around FitsLine alone left x.part x.fact; order = (o, x.order) }) e (λ x k. refl)
        (group-found (Within FitsLine alone left) own wkb_line_string (member_r left 2) (λ i. member-found FitsLine (λ l o. ring_bytes o l) left 2 i (λ o. line-found o false i)) o 5 false i rest next bytes h)
    by_type (suc (suc (suc (suc (suc (suc zero)))))) from to e h =
        behind (head o 6) (λ x. record { part = simple (multi_polygon x.part); fact = row-around FitsRings alone left x.part x.fact; order = (o, x.order) }) e (λ x k. refl)
        (group-found (Within FitsRings alone left) own wkb_polygon (member_r left 3) (λ i. member-found FitsRings (λ rs o. counted o (ring_bytes o) rs) left 3 i (λ o. polygon-found o false i)) o 6 false i rest next bytes h)
    by_type (suc (suc (suc (suc (suc (suc (suc zero))))))) from to e h =
        behind (head o 7) (λ x. record { part = collection x.part; fact = row-around (Fits left) (levels left) left x.part x.fact; order = (o, x.order) }) e (λ x k. refl)
        (group-found (FitsIn left) (Orders left) (wkb left) (geometry_r left) inner o 7 false i rest next bytes h)
    by_type (suc (suc (suc (suc (suc (suc (suc (suc type)))))))) from to e h = absurd (omega arith)

geometry_found : (left i : ℕ) → Finds (geometry_r left i) (FitsIn left) (Orders left) (wkb left)
unfolding geometry_r number_of
geometry_found zero i l next bytes h = let found = head-found 1 7 _ l next bytes h in absurd (omega (arith, found.goes))
geometry_found (suc left) i l next bytes h =
    let found = head-found 1 7 _ l next bytes h in
    let x = found.thing in
    by_type left i l next (geometry_found left) x.order found.rest found.bytes x.type x.from x.to found.is found.goes

-- ---- the whole: what bytes mean, where it is no deeper than is read
pub record MeaningWithin (l : List ℕ) : Type 0 where
  pub meaning : Meaning l
  pub within : levels meaning.n meaning.geometry ≤ 16

-- at the end 0 says that no byte is left
ended : (rest : List ℕ) → number_of (at_end rest) ≡ 0 → rest ≡ []
unfolding number_of
ended [] h = refl
ended (b ∷ rest) h = absurd (omega (arith, rw (eqb-suc-zero (length rest)) at h))

pub reading_means : (l : List ℕ) → Bytes l → number_of (reading_r l) ≡ 0 → MeaningWithin l
unfolding reading_r
reading_means l bytes h =
    let found = geometry_found 16 0 l at_end bytes h in
    let x = found.thing in
    record {
      meaning =
          record {
            n = 16;
            geometry = x.part;
            fits = x.fact.0;
            orders = x.order;
            spelled = sym (found.is ∙ ap (wkb 16 x.part x.order) (ended found.rest found.goes));
          };
      within = x.fact.1;
    }
