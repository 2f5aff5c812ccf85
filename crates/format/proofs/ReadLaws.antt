-- Reading a tree that means a geometry tells of that geometry.
use Rattle.std.specs.Prelude.{◌≡◌, refl, Bool, cond, not, ◌&&◌, ◌||◌, length, eqb}
use Rattle.std.proofs.Common.{sym, ◌∙◌, arith, eqb-true}
use Rattle.std.proofs.Math.Bool.{true, false}
use mathlib.Core.List.{List, [], ◌∷◌}
use Rattle.std.proofs.Math.Option.{Option, some}
use Prim.Native.Nat.{ℕ, zero, suc, ◌+◌, ◌<◌, ◌≤◌}
use Rattle.laws.specs.Script.{Script, stop, ◌⨟◌}
use Rattle.laws.specs.Framed.{seq_seq}
use Rattle.kinds.specs.Event.{end_e}
use Rattle.kinds.specs.declared.event.Event.{Event}
use Rattle.kinds.specs.declared.flags.Flags.{Flags}
use Rattle.store.specs.Lists.{Rec}
use Rattle.coords.specs.Coords.{coords_of}
use Rattle.lines.specs.Lines.{or_none, polygon_s, triangle_s}
use Rattle.reader.specs.Reading.{parts_s, span_s, polygon_part, curve_of as curve_of_s, curve_s, kind_s, geometry_s, root_s, read_s}
use Rattle.geometries.specs.Geometry.{Line, Coord, Segment, straight, arc, Curve, segment, compound, Surface, flat, curved, Simple, point, line_string, polygon, multi_point, multi_line_string, multi_polygon, circular_string, compound_curve, curve_polygon, multi_curve, multi_surface, polyhedral_surface, tin, triangle, simple, collection, Geometry, type_of, deep, flatly, curve_depth, surface_depth, simple_depth, depth}
use Rattle.geometries.specs.Events.{Tells, each, group, line_of, triangle_of, segment_of, curve_of, surface_of, simple_of, geometry_of, events_of}
use Rattle.format.specs.Format.{Coords, Lines, Each, Parts, IsSegment, IsCurve, IsSurface, Is, Means, Tree}
use Rattle.geometries.specs.Told.{told, then-done, framed_then}
use Rattle.format.specs.FormatLaws.{xy_length, Cut, whole, split, cut}
use Rattle.format.proofs.ReadsLines.{shows, flat-read, stretches-read, multi-read, one_triangle, tin_read, point-read}
use Rattle.format.specs.Reads.{Small, AllSmall, agrees}

-- which walk read_curve chooses
module _ (stored above : ℕ) (a b c d e : Script Event) where
  abbrev chosen : Script Event
  chosen = cond (eqb stored 2) a (cond (eqb stored 8) b (cond (eqb stored 9 && not (eqb above 9)) c (cond (eqb stored 3 && eqb above 12) d (cond (eqb stored 10 && eqb above 12) e (stop 4)))))

  line-chosen : stored ≡ 2 → chosen ≡ a
  line-chosen h = rw h

  arc_chosen : stored ≡ 8 → chosen ≡ b
  arc_chosen h = rw h

  compound_chosen : stored ≡ 9 → not (eqb above 9) ≡ true → chosen ≡ c
  compound_chosen h q = rw (h, q)

  polygon-chosen : stored ≡ 3 → above ≡ 12 → chosen ≡ d
  polygon-chosen h q = rw (h, q)

  curved_chosen : stored ≡ 10 → above ≡ 12 → chosen ≡ e
  curved_chosen h q = rw (h, q)

-- ---- parts
parts_cons : (part : ℕ → ℕ → Script Event) (k n i : ℕ) (t : Script Event) → parts_s part (suc k) n i ⨟ t ≡ part n i ⨟ parts_s part k (n + 1) (i + 1) ⨟ t
unfolding parts_s
parts_cons part k n i t = seq_seq (part n i) _ t

parts_nil : (part : ℕ → ℕ → Script Event) (n i : ℕ) (t : Script Event) → parts_s part 0 n i ⨟ t ≡ t
unfolding parts_s ◌⨟◌
parts_nil part n i t = refl

agrees-same : (n : ℕ) → agrees n n ≡ true
agrees-same n = go (eqb n 9) refl
  where
    both : (a b : Bool) → cond a a (cond b true true) ≡ true
    both true b = refl
    both false true = refl
    both false false = refl

    go : (c : Bool) → eqb n 9 ≡ c → agrees n n ≡ true
    go true e = rw (eqb-true n 9 e)
    go false e = rw e (both (eqb n 12) (eqb n 10 || eqb n 11))

under : (type stored : ℕ) → agrees type stored ≡ true → agrees (cond (eqb type 0) stored type) stored ≡ true
under type stored h = go (eqb type 0)
  where
    go : (b : Bool) → agrees (cond b stored type) stored ≡ true
    go true = agrees-same stored
    go false = h

small : (r : Rec) (cs : List Coord) → Coords r cs → Small r → length cs < 2147483648
small r cs h b = omega (arith, xy_length cs, rw h.xy at b)

module _ (F : Flags) (get : ℕ → Option Rec) where
  module _ {A : Type 0} (M : Rec → A → Type 0) (part : ℕ → ℕ → Script Event) (f : Tells A) (d : A → ℕ) (l : ℕ) (one : (n i : ℕ) (p : Rec) (a : A) (k : List Event) → get n ≡ some p → d a < l → M p a → part n i ⨟ told k ≡ told (f a i k)) where
    parts-read : (xs : List A) (n i : ℕ) (k : List Event) → Each get M n xs → deep d xs ≤ l → parts_s part (length xs) n i ⨟ told k ≡ told (each f xs i k)
    parts-read [] n i k h b = parts_nil part n i (told k)
    parts-read (a ∷ xs) n i k h b =
        rw (parts_cons part (length xs) n i (told k), parts-read xs (n + 1) (i + 1) k h.1 (omega arith))
        (one n i h.0.0 a _ h.0.1 (omega arith) h.0.2)

    span_read : (r : Rec) (xs : List A) (type i : ℕ) (k : List Event) → Parts get M r xs → deep d xs ≤ l → span_s part r.parts type i ⨟ told k ≡ told (group type false f xs i k)
    unfolding span_s
    span_read r xs type i k h b = rw (h.parts, framed_then, parts-read xs h.from 0 (end_e type false i ∷ k) h.each b)

  polygon-read : (r : Rec) (ls : List Line) (tagged : Bool) (i : ℕ) (k : List Event) → Lines r ls → Small r → polygon_s F r tagged i ⨟ told k ≡ told (group 3 tagged (line_of F) ls i k)
  unfolding polygon_s
  polygon-read r ls tagged i k h b = stretches-read F (coords_of F r) 3 tagged i _ ls k (shows F r _ h.coords) (cut _ ls h.ends) (small r _ h.coords b)

  module _ (room : AllSmall get) where
    polygon_part_lem : (l n i : ℕ) (p : Rec) (ls : List Line) (k : List Event) → get n ≡ some p → 0 < l → Lines p ls → polygon_part F l get n i ⨟ told k ≡ told (group 3 false (line_of F) ls i k)
    unfolding polygon_part
    polygon_part_lem zero n i p ls k e b h = absurd (omega arith)
    polygon_part_lem (suc l) n i p ls k e b h = rw e (polygon-read p ls false i k h (room n p e))

    -- ---- curves: `above` is the stored type of what the part stands in
    segment_read : (deeper : Rec → ℕ → ℕ → Script Event) (above : ℕ) (p : Rec) (s : Segment) (i : ℕ) (k : List Event) → IsSegment get p s → curve_of_s F deeper above p i ⨟ told k ≡ told (segment_of F s i k)
    unfolding curve_of_s
    segment_read deeper above p (straight l) i k h = rw (line-chosen p.kind above _ _ _ _ _ h.0) (flat-read F (coords_of F p) l 2 false i k (shows F p l h.1))
    segment_read deeper above p (arc l) i k h = rw (arc_chosen p.kind above _ _ _ _ _ h.0) (flat-read F (coords_of F p) l 8 false i k (shows F p l h.1))

    curve_span : {A : Type 0} (M : Rec → A → Type 0) (f : Tells A) (d : A → ℕ) (r : Rec) → ((l : ℕ) (p : Rec) (a : A) (i : ℕ) (k : List Event) → Small p → d a ≤ l → M p a → curve_of_s F (curve_s F l get) r.kind p i ⨟ told k ≡ told (f a i k)) → (l : ℕ) (xs : List A) (type i : ℕ) (k : List Event) → Parts get M r xs → deep d xs ≤ l → curve_s F l get r type i ⨟ told k ≡ told (group type false f xs i k)
    unfolding curve_s
    curve_span M f d r one zero xs type i k h b = span_read M _ f d 0 (λ n j p a k' e q m. absurd (omega arith)) r xs type i k h b
    curve_span M f d r one (suc l) xs type i k h b = span_read M _ f d (suc l) (λ n j p a k' e q m. rw e (one l p a j k' (room n p e) (omega arith) m)) r xs type i k h b

    compound_read : (l : ℕ) (r : Rec) (ss : List Segment) (type i : ℕ) (k : List Event) → Parts get (IsSegment get) r ss → deep flatly ss ≤ l → curve_s F l get r type i ⨟ told k ≡ told (group type false (segment_of F) ss i k)
    compound_read l r ss type i k h b = curve_span (IsSegment get) (segment_of F) flatly r (λ l' p s j k' q d m. segment_read _ _ p s j k' m) l ss type i k h b

    curve_read : (above l : ℕ) (p : Rec) (c : Curve) (i : ℕ) (k : List Event) → not (eqb above 9) ≡ true → curve_depth c ≤ l → IsCurve get p c → curve_of_s F (curve_s F l get) above p i ⨟ told k ≡ told (curve_of F c i k)
    unfolding curve_of_s
    curve_read above l p (segment s) i k n d h = segment_read (curve_s F l get) above p s i k h
    curve_read above l p (compound ss) i k n d h = rw (compound_chosen p.kind above _ _ _ _ _ h.0 n) (compound_read l p ss 9 i k h.1 d)

    curves_read : (l : ℕ) (r : Rec) (cs : List Curve) (type i : ℕ) (k : List Event) → not (eqb r.kind 9) ≡ true → Parts get (IsCurve get) r cs → deep curve_depth cs ≤ l → curve_s F l get r type i ⨟ told k ≡ told (group type false (curve_of F) cs i k)
    curves_read l r cs type i k n h b = curve_span (IsCurve get) (curve_of F) curve_depth r (λ l' p c j k' q d m. curve_read r.kind l' p c j k' n d m) l cs type i k h b

    surface_read : (above l : ℕ) (p : Rec) (s : Surface) (i : ℕ) (k : List Event) → above ≡ 12 → Small p → surface_depth s ≤ l → IsSurface get p s → curve_of_s F (curve_s F l get) above p i ⨟ told k ≡ told (surface_of F s i k)
    unfolding curve_of_s
    surface_read above l p (flat rs) i k n b d h = rw (polygon-chosen p.kind above _ _ _ _ _ h.0 n) (polygon-read p rs true i k h.1 b)
    surface_read above l p (curved cs) i k n b d h = rw (curved_chosen p.kind above _ _ _ _ _ h.0 n) (curves_read l p cs 10 i k (rw h.0) h.1 d)

    -- ---- a geometry under its type
    simple_read : (deeper : ℕ → ℕ → Script Event) (l : ℕ) (r : Rec) (s : Simple) (i : ℕ) (k : List Event) → Is get r s → agrees (type_of s) r.kind ≡ true → Small r → simple_depth s ≤ l → kind_s F deeper l get r (type_of s) i ⨟ told k ≡ told (simple_of F s i k)
    unfolding kind_s
    simple_read deeper l r (point c) i k h a b d = point-read F (coords_of F r) c i k (shows F r _ h)
    simple_read deeper l r (line_string cs) i k h a b d = flat-read F (coords_of F r) cs 2 true i k (shows F r cs h)
    simple_read deeper l r (polygon rs) i k h a b d = polygon-read r rs true i k h b
    simple_read deeper l r (multi_point cs) i k h a b d = flat-read F (coords_of F r) cs 4 false i k (shows F r cs h)
    simple_read deeper l r (multi_line_string ls) i k h a b d = multi-read F (coords_of F r) _ ls i k (shows F r _ h.coords) (cut _ ls h.ends) (small r _ h.coords b)
    simple_read deeper l r (multi_polygon ps) i k h a b d = span_read Lines _ (group 3 false (line_of F)) flatly l (λ n j p ls k' e q m. polygon_part_lem l n j p ls k' e q m) r ps 6 i k h d
    simple_read deeper l r (circular_string cs) i k h a b d = flat-read F (coords_of F r) cs 8 false i k (shows F r cs h)
    simple_read deeper l r (compound_curve ss) i k h a b d = compound_read l r ss 9 i k h d
    simple_read deeper l r (curve_polygon cs) i k h a b d = curves_read l r cs 10 i k a h d
    simple_read deeper l r (multi_curve cs) i k h a b d = curves_read l r cs 11 i k a h d
    simple_read deeper l r (multi_surface ss) i k h a b d = curve_span (IsSurface get) (surface_of F) surface_depth r (λ l' p s j k' q e m. surface_read r.kind l' p s j k' (eqb-true _ 12 a) q e m) l ss 12 i k h d
    simple_read deeper l r (polyhedral_surface ps) i k h a b d = span_read Lines _ (group 3 false (line_of F)) flatly l (λ n j p ls k' e q m. polygon_part_lem l n j p ls k' e q m) r ps 15 i k h d
    simple_read deeper l r (tin ts) i k h a b d = tin_read F (coords_of F r) _ ts i k (shows F r _ h.coords) (cut _ ts h.ends) (small r _ h.coords b)
    simple_read deeper l r (triangle t) i k h a b d = go (cut _ (t ∷ []) h.ends)
      where
        go : Cut (or_none r.ends) (t ∷ []) → triangle_s (coords_of F r) (or_none r.ends) true i ⨟ told k ≡ told (triangle_of F true t i k)
        go (whole l e q) = one_triangle F (coords_of F r) _ t true i k (shows F r _ h.coords) q (small r _ h.coords b)
        go (split e n) = absurd (omega arith)

    collection_part : (n : ℕ) → ((l type : ℕ) (r : Rec) (g : Geometry n) (i : ℕ) (k : List Event) → Means get n type r g → agrees type r.kind ≡ true → Small r → depth n g ≤ l → geometry_s F l get r type i ⨟ told k ≡ told (geometry_of F n g i k)) → (l : ℕ) (r : Rec) (gs : List (Geometry n)) (i : ℕ) (k : List Event) → Parts get (λ p g. Means get n p.kind p g) r gs → deep (depth n) gs ≤ l → geometry_s F l get r 7 i ⨟ told k ≡ told (group 7 false (geometry_of F n) gs i k)
    unfolding geometry_s kind_s
    collection_part n ih zero r gs i k h b = span_read (λ p g. Means get n p.kind p g) _ (geometry_of F n) (depth n) 0 (λ m j p g k' e q w. absurd (omega arith)) r gs 7 i k h b
    collection_part n ih (suc l) r gs i k h b = span_read (λ p g. Means get n p.kind p g) _ (geometry_of F n) (depth n) (suc l) (λ m j p g k' e q w. rw e (ih l p.kind p g j k' w (agrees-same p.kind) (room m p e) (omega arith))) r gs 7 i k h b

    simple_geometry : (l type : ℕ) (r : Rec) (s : Simple) (i : ℕ) (k : List Event) → (type ≡ type_of s) × Is get r s → agrees type r.kind ≡ true → Small r → simple_depth s ≤ l → geometry_s F l get r type i ⨟ told k ≡ told (simple_of F s i k)
    unfolding geometry_s
    simple_geometry zero type r s i k h a b d = rw h.0 (simple_read _ zero r s i k h.1 (rw h.0 at a) b d)
    simple_geometry (suc l) type r s i k h a b d = rw h.0 (simple_read _ (suc l) r s i k h.1 (rw h.0 at a) b d)

    pub geometry_read : (n l type : ℕ) (r : Rec) (g : Geometry n) (i : ℕ) (k : List Event) → Means get n type r g → agrees type r.kind ≡ true → Small r → depth n g ≤ l → geometry_s F l get r type i ⨟ told k ≡ told (geometry_of F n g i k)
    geometry_read zero l type r s i k h a b d = simple_geometry l type r s i k h a b d
    geometry_read (suc n) l type r (simple s) i k h a b d = simple_geometry l type r s i k h a b d
    geometry_read (suc n) l type r (collection gs) i k h a b d = rw h.0 (collection_part n (geometry_read n) l r gs i k h.1 d)

    -- a tree that means a geometry of at most sixteen levels is read as that geometry
    pub reads : (n type : ℕ) (g : Geometry n) (t : Tree get n type g) → agrees type t.root.kind ≡ true → depth n g ≤ 15 → read_s F get type ≡ told (events_of F n g)
    unfolding read_s root_s events_of
    reads n type g t a d = rw t.has (sym (then-done _) ∙ geometry_read n 15 _ t.root g 0 [] t.means (under type t.root.kind a) (room 0 _ t.has) d)
