-- A record's walk says what the definition says; and the turns of the loop over parts.
use Rattle.std.specs.Prelude.{◌≡◌, Option as OptionR, Some, None, Result, Bool, true, false, cond, ◌&&◌, List}
use Rattle.std.proofs.Math.Path.{refl, ap}
use Rattle.std.proofs.Common.{Err, Ok, sym, ◌∙◌}
use Rattle.std.proofs.Math.Bool.{not}
use Rattle.std.proofs.Math.Option.{Option, none, some}
use Prim.Native.Nat.{ℕ, zero, suc, ◌+◌, ◌-◌, ◌<◌, ◌≤◌}
use native.Mathlib.Omega.{arith}
use Rattle.std.proofs.Math.Dec.{eqb}
use Rattle.laws.specs.Script.{Script, Format, stop, one, ◌⨟◌}
use Rattle.event_log.specs.declared.log.Log.{Log}
use Rattle.event_log.specs.Says.{Says}
use Rattle.event_log.specs.SaysLaws.{both}
use Rattle.laws.specs.Framed.{framed, seq_seq}
use Rattle.kinds.specs.Event.{begin_e, end_e}
use Rattle.kinds.specs.declared.event.Event.{Event}
use Rattle.kinds.specs.declared.flags.Flags.{Flags}
use Rattle.kinds.specs.declared.geometry.Geometry.{Geometry}
use Rattle.kinds.specs.Geometry.{Span}
use Rattle.kinds.specs.declared.geometry.Stretch.{Stretch}
use Rattle.kinds.specs.declared.refusal.Refusal.{Refusal}
use Rattle.store.specs.Records.{record_at}
use Rattle.store.specs.RecordLaws.{within}
use Rattle.store.specs.Lists.{Rec, Pools, lent_of, parts_of, lists_of, record_with, with_good, with_bad}
use Rattle.own_lists.specs.declared.own.Own.TheVariants.{LineString, CircularString, Polygon}
use Rattle.lines.specs.Lines.{polygon_s}
use Rattle.own_lists.specs.Own.{own_s, InPools}
use Rattle.walks.specs.declared.walk.Role.{Role}
use Rattle.walks.specs.declared.walk.Role.TheVariants.{Geometry as AnyGeometry, Polygon as AsPolygon, Curve}
use Rattle.walks.specs.declared.walk.Walk.{Walk}
use Rattle.walks.specs.declared.walk.Walk.TheVariants.{Own, Parts}
use Rattle.reader.specs.Reading.{parts_s, span_s, found, polygon_part, curve_of, curve_s, kind_s, geometry_s, root_s, read_s}
use Rattle.walks.specs.Walks.{walk_under, walk_named, curve_walk, WalkOf, WalkIn}
use Rattle.kinds.specs.GeometryType.{number, TypeOf}
use Rattle.kinds.specs.declared.geometry_type.GeometryType.{GeometryType}
use Rattle.kinds.specs.declared.geometry_type.GeometryType.TheVariants.{Unknown as UnknownT, Point as PointT, LineString as LineStringT, Polygon as PolygonT, MultiPoint as MultiPointT, MultiLineString as MultiLineStringT, MultiPolygon, GeometryCollection, CircularString as CircularStringT, CompoundCurve, CurvePolygon, MultiCurve, MultiSurface, Curve as CurveT, Surface as SurfaceT, PolyhedralSurface, Tin as TinT, Triangle as TriangleT}
use Rattle.kinds.specs.declared.geometry_type.NoGeometryType.{NoGeometryType}
use borrow.Author.Tests.{ne_eqb, le-leb, lt-leb}
use Rattle.reader.specs.Roles.{in_role, part_s, walk_s, walked}

module _ (F : Flags) where
  -- ---- laws: a record's walk says what the definition says
  -- by one test after the other
  module _ (left : ℕ) (get : ℕ → Option Rec) (r : Rec) (idx : ℕ) where
    then : (b : Bool) (w : Walk) (v : Result Walk Refusal) {s t : Script Event} → s ≡ walk_s F left get r w idx → t ≡ walked F left get r v idx → cond b s t ≡ walked F left get r (cond b (Ok w) v) idx
    then true w v p q = p
    then false w v p q = q

  curve_parts : (left : ℕ) (get : ℕ → Option Rec) (r : Rec) (type idx : ℕ) → curve_s F left get r type idx ≡ span_s (part_s F (Curve r.kind) left get) r.parts type idx
  unfolding curve_s part_s in_role
  curve_parts zero get r type idx = refl
  curve_parts (suc left) get r type idx = refl

  polygon-parts : (left : ℕ) (get : ℕ → Option Rec) (r : Rec) (type idx : ℕ) → span_s (polygon_part F left get) r.parts type idx ≡ span_s (part_s F AsPolygon left get) r.parts type idx
  unfolding polygon_part part_s in_role
  polygon-parts zero get r type idx = refl
  polygon-parts (suc left) get r type idx = refl

  module _ (deeper : ℕ → ℕ → Script Event) (left : ℕ) (get : ℕ → Option Rec) (r : Rec) (idx : ℕ) where
    kind_under : (type : GeometryType) → span_s deeper r.parts 7 idx ≡ span_s (part_s F AnyGeometry left get) r.parts 7 idx → kind_s F deeper left get r (number type) idx ≡ walked F left get r (walk_under type r.kind) idx
    unfolding kind_s walk_s own_s polygon_s
    kind_under UnknownT d = refl
    kind_under PointT d = refl
    kind_under LineStringT d = refl
    kind_under PolygonT d = refl
    kind_under MultiPointT d = refl
    kind_under MultiLineStringT d = refl
    kind_under MultiPolygon d = polygon-parts left get r 6 idx
    kind_under GeometryCollection d = d
    kind_under CircularStringT d = refl
    kind_under CompoundCurve d = curve_parts left get r 9 idx
    kind_under CurvePolygon d = curve_parts left get r 10 idx
    kind_under MultiCurve d = curve_parts left get r 11 idx
    kind_under MultiSurface d = curve_parts left get r 12 idx
    kind_under CurveT d = refl
    kind_under SurfaceT d = refl
    kind_under PolyhedralSurface d = polygon-parts left get r 15 idx
    kind_under TinT d = refl
    kind_under TriangleT d = refl

    kind_none : (type : ℕ) → 17 < type → kind_s F deeper left get r type idx ≡ stop 3
    unfolding kind_s
    kind_none type h =
        let other : (k : ℕ) → k < 18 → eqb type k ≡ false = λ k l. ne_eqb type k (λ e. omega (arith, e)) in
        rw (
          other 1 (omega arith),
          other 2 (omega arith),
          other 3 (omega arith),
          other 4 (omega arith),
          other 5 (omega arith),
          other 6 (omega arith),
          other 15 (omega arith),
          other 7 (omega arith),
          other 8 (omega arith),
          le-leb 9 type (omega arith),
          lt-leb type 12 (omega arith),
          other 16 (omega arith),
          other 17 (omega arith),
        )

    kind_is : (type : ℕ) {walk : Result Walk Refusal} → WalkOf type r.kind walk → span_s deeper r.parts 7 idx ≡ span_s (part_s F AnyGeometry left get) r.parts 7 idx → kind_s F deeper left get r type idx ≡ walked F left get r walk idx
    kind_is type {walk} w d = by_type w.type w.type_is ∙ ap (λ (v : Result Walk Refusal). walked F left get r v idx) (sym w.walk_is)
      where
        by_type : (named : Result GeometryType NoGeometryType) → TypeOf type named → kind_s F deeper left get r type idx ≡ walked F left get r (walk_named named r.kind) idx
        by_type (Ok t) e = rw (← e) (kind_under t d)
        by_type (Err _) h = kind_none type h

  geometry_is : (left : ℕ) (get : ℕ → Option Rec) (r : Rec) (type idx : ℕ) {walk : Result Walk Refusal} → WalkOf type r.kind walk → geometry_s F left get r type idx ≡ walked F left get r walk idx
  unfolding geometry_s part_s in_role
  geometry_is zero get r type idx w = kind_is (λ n i. stop 13) zero get r idx type w refl
  geometry_is (suc left) get r type idx w = kind_is (λ n i. found (get n) (λ p. geometry_s F left get p p.kind i)) (suc left) get r idx type w refl

  role_is : (role : Role) (left : ℕ) (get : ℕ → Option Rec) (p : Rec) (i : ℕ) (walk : Result Walk Refusal) → WalkIn role p.kind walk → in_role F role left get p i ≡ walked F left get p walk i
  unfolding in_role walk_s own_s polygon_s curve_of curve_walk
  role_is AnyGeometry left get p i walk w = geometry_is left get p p.kind i w
  role_is AsPolygon left get p i walk w = ap (λ (v : Result Walk Refusal). walked F left get p v i) (sym w)
  role_is (Curve above) left get p i walk w =
      then left get p i (eqb p.kind 2) (Own (LineString false)) _ refl
      (then left get p i (eqb p.kind 8) (Own CircularString) _ refl
      (then left get p i (eqb p.kind 9 && not (eqb above 9)) (Parts CompoundCurve (Curve p.kind)) _ (curve_parts left get p 9 i)
      (then left get p i (eqb p.kind 3 && eqb above 12) (Own (Polygon true)) _ refl
      (then left get p i (eqb p.kind 10 && eqb above 12) (Parts CurvePolygon (Curve p.kind)) _ (curve_parts left get p 10 i) refl))))
      ∙ ap (λ (v : Result Walk Refusal). walked F left get p v i) (sym w)

  -- ---- parts
  module _ (role : Role) (left : ℕ) (get : ℕ → Option Rec) (n i : ℕ) where
    pub part_deep : left ≡ 0 → part_s F role left get n i ≡ stop 13
    unfolding part_s
    part_deep h = ap (λ (k : ℕ). part_s F role k get n i) h

    part_found : (left ≡ 0 → ⊥) → part_s F role left get n i ≡ found (get n) (λ p. in_role F role (left - 1) get p i)
    unfolding part_s
    part_found h = go left h
      where
        go : (k : ℕ) → (k ≡ 0 → ⊥) → part_s F role k get n i ≡ found (get n) (λ p. in_role F role (k - 1) get p i)
        go zero h = absurd (h refl)
        go (suc k) h = let e : suc k - 1 ≡ k = omega arith in rw e

    pub part_bad : (left ≡ 0 → ⊥) → get n ≡ none → part_s F role left get n i ≡ stop 10
    part_bad h e = part_found h ∙ ap (λ (o : Option Rec). found o (λ p. in_role F role (left - 1) get p i)) e

    pub part_good : (left ≡ 0 → ⊥) → (p : Rec) → get n ≡ some p → (walk : Result Walk Refusal) → WalkIn role p.kind walk → part_s F role left get n i ≡ walked F (left - 1) get p walk i
    part_good h p e walk w = part_found h ∙ ap (λ (o : Option Rec). found o (λ p. in_role F role (left - 1) get p i)) e ∙ role_is role (left - 1) get p i walk w

  module _ (get : ℕ → Option Rec) (declared : ℕ) where
    pub read_bad : get 0 ≡ none → read_s F get declared ≡ stop 10
    unfolding read_s root_s
    read_bad e = ap (λ (o : Option Rec). root_s F get o declared) e

    pub read_good : (r : Rec) {walk : Result Walk Refusal} → get 0 ≡ some r → WalkOf (cond (eqb declared 0) r.kind declared) r.kind walk → read_s F get declared ≡ walked F 15 get r walk 0
    unfolding read_s root_s
    read_good r e w = ap (λ (o : Option Rec). root_s F get o declared) e ∙ geometry_is 15 get r (cond (eqb declared 0) r.kind declared) 0 w

module _ (part : ℕ → ℕ → Script Event) where
  parts-end : (k n i : ℕ) → k ≡ 0 → parts_s part k n i ≡ stop 0
  unfolding parts_s
  parts-end k n i h = rw h

  parts_next : (k n i : ℕ) → 0 < k → parts_s part k n i ≡ part n i ⨟ parts_s part (k - 1) (n + 1) (i + 1)
  unfolding parts_s
  parts_next zero n i h = absurd (omega arith)
  parts_next (suc k) n i h = let e : suc k - 1 ≡ k = omega arith in rw e

-- ---- what the code finds, as the definition has it
module _ (table : List ℕ) (P : Pools) (n : ℕ) {o : OptionR Geometry} (at : o ≡ record_at table (lent_of P) n) where
  pub good_record : {g : Geometry} → o ≡ Some g → record_with table P n ≡ some (lists_of P g)
  good_record {g} e = with_good table P n g (sym at ∙ e)

  pub good_lists : {g : Geometry} → o ≡ Some g → InPools P g
  good_lists {g} e = (within table (lent_of P) n g (sym at ∙ e)).lists

  pub bad_record : o ≡ None → record_with table P n ≡ none
  bad_record e = with_bad table P n (sym at ∙ e)

module _ (part : ℕ → ℕ → Script Event) (type idx : ℕ) {parts : Span} where
  pub span_absent : parts ≡ None → span_s part (parts_of parts) type idx ≡ stop 2
  unfolding span_s
  span_absent e = ap (λ (s : Span). span_s part (parts_of s) type idx) e

  pub span_there : {s : Stretch} → parts ≡ Some s → span_s part (parts_of parts) type idx ≡ framed (begin_e type false s.count idx) (parts_s part s.count s.start 0) (end_e type false idx)
  unfolding span_s
  span_there e = ap (λ (s : Span). span_s part (parts_of s) type idx) e

-- ---- parts from number i on, and then what follows them
module _ (part : ℕ → ℕ → Script Event) (u : Script Event) (start : ℕ) {size i : ℕ} where
  pub parts-step : i < size → parts_s part (size - i) (start + i) i ⨟ u ≡ part (start + i) i ⨟ (parts_s part (size - (i + 1)) (start + (i + 1)) (i + 1) ⨟ u)
  parts-step h =
      let k : size - i - 1 ≡ size - (i + 1) = omega arith in
      let n : start + i + 1 ≡ start + (i + 1) = omega arith in
      rw (← k, ← n)
      (ap (λ (s : Script Event). s ⨟ u) (parts_next part (size - i) (start + i) i (omega arith)) ∙ seq_seq (part (start + i) i) (parts_s part (size - i - 1) (start + i + 1) (i + 1)) u)

  pub parts-over : size ≤ i → parts_s part (size - i) (start + i) i ⨟ u ≡ u
  unfolding ◌⨟◌
  parts-over h = ap (λ (s : Script Event). s ⨟ u) (parts-end part (size - i) (start + i) i (omega arith))

-- a begin, and what follows it up to the end
pub framed_by : {L A R R' : Type 0} (format : L → Format A) {x y : A} (m : Script A) (z : A) {a b c : Log L} {u : R} {r : Result R' Refusal} → y ≡ x → Says format (one y) a b (Ok u) → Says format (m ⨟ one z) b c r → Says format (framed x m z) a c r
unfolding framed ◌⨟◌
framed_by format {x} m z p h k = both format {s = one x} {t = m ⨟ one z} (rw p at h) k
