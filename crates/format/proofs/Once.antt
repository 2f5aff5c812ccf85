-- A table means at most one geometry under a type.
use Rattle.std.specs.Prelude.{◌≡◌, refl, true, false, cond, List, [], ◌∷◌, ◌++◌, ℕ, zero, suc, ◌+◌, ◌≤◌, length, eqb}
use Rattle.std.proofs.Common.{sym, ap, ◌∙◌, subst, append-nil, arith, leb-true}
use Rattle.std.proofs.Math.Option.{Option, some}
use Rattle.std.proofs.lemmas.Bool.{eqb-false}
use Rattle.laws.specs.Every.{never}
use Rattle.store.specs.Lists.{Rec}
use Rattle.coords.specs.Coords.{tail_of}
use Rattle.lines.specs.Lines.{or_none, single}
use Rattle.geometries.specs.Geometry.{Coord, Line, Segment, straight, arc, Curve, segment, compound, Surface, flat, curved, Simple, point, line_string, polygon, multi_point, multi_line_string, multi_polygon, circular_string, compound_curve, curve_polygon, multi_curve, multi_surface, polyhedral_surface, tin, triangle, simple, collection, Geometry, type_of}
use Rattle.format.specs.Format.{xy_of, ByCoord, Coords, joined, ends_from, Lines, Each, Parts, IsSegment, IsCurve, IsSurface, Is, Means, Tree}
use Rattle.format.specs.FormatLaws.{lane_first, lane_rest, ends-length, Cut, whole, split, cut}
use Rattle.format.specs.Once.{OfType, as_type, of_point, of_line, of_polygon, of_points, of_lines, of_polygons, of_arc, of_compound, of_curved, of_curves, of_surfaces, of_faces, of_tin, of_triangle}

-- ---- coordinates
record Fed (o : Option (List ℕ)) (f : Coord → Option ℕ) (cs ds : List Coord) : Type 0 where
  one : ByCoord o f cs
  two : ByCoord o f ds

fed_head : {o : Option (List ℕ)} {f : Coord → Option ℕ} {c d : Coord} {cs ds : List Coord} → Fed o f (c ∷ cs) (d ∷ ds) → f c ≡ f d
fed_head h = lane_first h.one ∙ sym (lane_first h.two)

fed_tail : {o : Option (List ℕ)} {f : Coord → Option ℕ} {c d : Coord} {cs ds : List Coord} → Fed o f (c ∷ cs) (d ∷ ds) → Fed (tail_of o) f cs ds
fed_tail h = record { one = lane_rest h.one; two = lane_rest h.two }

list_same : (cs ds : List Coord) (z m t tm : Option (List ℕ)) → xy_of cs ≡ xy_of ds → Fed z (λ c. c.z) cs ds → Fed m (λ c. c.m) cs ds → Fed t (λ c. c.t) cs ds → Fed tm (λ c. c.tm) cs ds → cs ≡ ds
list_same [] [] z m t tm e a b c d = refl
list_same [] (q ∷ ds) z m t tm e a b c d = absurd (never (cc))
list_same (p ∷ cs) [] z m t tm e a b c d = absurd (never (cc))
list_same (p ∷ cs) (q ∷ ds) z m t tm e a b c d =
    let hx : p.x ≡ q.x = cc in
    let hy : p.y ≡ q.y = cc in
    let r : xy_of cs ≡ xy_of ds = cc in
    let ih : cs ≡ ds = list_same cs ds (tail_of z) (tail_of m) (tail_of t) (tail_of tm) r (fed_tail a) (fed_tail b) (fed_tail c) (fed_tail d) in
    let h : p ≡ q = λ i. record { x = hx i; y = hy i; z = fed_head a i; m = fed_head b i; t = fed_head c i; tm = fed_head d i } in
    λ i. h i ∷ ih i

coords_same : (r : Rec) (cs ds : List Coord) → Coords r cs → Coords r ds → cs ≡ ds
coords_same r cs ds a b =
    let e : some (xy_of cs) ≡ some (xy_of ds) = sym a.xy ∙ b.xy in
    let q : xy_of cs ≡ xy_of ds = cc in
    list_same cs ds r.z r.m r.t r.tm q (record { one = a.z; two = b.z }) (record { one = a.m; two = b.m }) (record { one = a.t; two = b.t }) (record { one = a.tm; two = b.tm })

-- ---- lines
append-same : (l m t u : List Coord) → length l ≡ length m → l ++ t ≡ m ++ u → (l ≡ m) × (t ≡ u)
append-same [] [] t u n e = (refl, e)
append-same [] (b ∷ m) t u n e = absurd (omega arith)
append-same (a ∷ l) [] t u n e = absurd (omega arith)
append-same (a ∷ l) (b ∷ m) t u n e =
    let h : a ≡ b = cc in
    let q = append-same l m t u (omega arith) (cc) in
    (λ i. h i ∷ q.0 i, q.1)

ends_same : (n : ℕ) (ls ms : List Line) → ends_from n ls ≡ ends_from n ms → joined ls ≡ joined ms → ls ≡ ms
ends_same n [] [] e j = refl
ends_same n [] (m ∷ ms) e j = absurd (never (cc))
ends_same n (l ∷ ls) [] e j = absurd (never (cc))
ends_same n (l ∷ ls) (m ∷ ms) e j =
    let a : n + length l ≡ n + length m = cc in
    let b : ends_from (n + length l) ls ≡ ends_from (n + length m) ms = cc in
    let q = append-same l m (joined ls) (joined ms) (omega arith) j in
    let ih = ends_same (n + length m) ls ms (rw a at b) q.1 in
    λ i. q.0 i ∷ ih i

lines_same : (r : Rec) (ls ms : List Line) → Lines r ls → Lines r ms → ls ≡ ms
lines_same r ls ms a b = go (cut _ ls a.ends) (cut _ ms b.ends) (coords_same r _ _ a.coords b.coords)
  where
    few : (ls : List Line) → single (or_none r.ends) ≡ true → or_none r.ends ≡ ends_from 0 ls → 2 ≤ length ls → ⊥
    few ls q e n = omega (arith, leb-true (length (or_none r.ends)) 1 q, ends-length 0 ls, ap (λ (l : List ℕ). length l) e)

    go : Cut (or_none r.ends) ls → Cut (or_none r.ends) ms → joined ls ≡ joined ms → ls ≡ ms
    go (whole l e q) (whole m f p) j =
        let k : l ≡ m = sym (append-nil l) ∙ (rw (e, f) at j) ∙ append-nil m in
        cc
    go (whole l e q) (split f n) j = absurd (few ms q f n)
    go (split e n) (whole m f q) j = absurd (few ls q e n)
    go (split e n) (split f p) j = ends_same 0 ls ms (sym e ∙ f) j

-- ---- parts
module _ (get : ℕ → Option Rec) where
  module _ {A : Type 0} (M : Rec → A → Type 0) (same : (p : Rec) (a b : A) → M p a → M p b → a ≡ b) where
    each_same : (xs ys : List A) (n : ℕ) → length xs ≡ length ys → Each get M n xs → Each get M n ys → xs ≡ ys
    each_same [] [] n e a b = refl
    each_same [] (y ∷ ys) n e a b = absurd (omega arith)
    each_same (x ∷ xs) [] n e a b = absurd (omega arith)
    each_same (x ∷ xs) (y ∷ ys) n e a b =
        let f : some a.0.0 ≡ some b.0.0 = sym a.0.1 ∙ b.0.1 in
        let p : a.0.0 ≡ b.0.0 = cc in
        let h : x ≡ y = same b.0.0 x y (subst (λ (r : Rec). M r x) p a.0.2) b.0.2 in
        let ih = each_same xs ys (n + 1) (omega arith) a.1 b.1 in
        λ i. h i ∷ ih i

    parts_same : (r : Rec) (xs ys : List A) → Parts get M r xs → Parts get M r ys → xs ≡ ys
    parts_same r xs ys a b =
        let f : ◌≡◌ {A = Option (ℕ × ℕ)} (some (a.from, length xs)) (some (b.from, length ys)) = sym a.parts ∙ b.parts in
        let q : ◌≡◌ {A = ℕ × ℕ} (a.from, length xs) (b.from, length ys) = cc in
        let n : a.from ≡ b.from = ap (λ (p : ℕ × ℕ). p.0) q in
        each_same xs ys b.from (ap (λ (p : ℕ × ℕ). p.1) q) (subst (λ (k : ℕ). Each get M k xs) n a.each) b.each

  apart : {A : Type 0} (k m n : ℕ) → k ≡ m → k ≡ n → eqb m n ≡ false → A
  apart k m n a b e = absurd (eqb-false m n e (sym a ∙ b))

  segment_same : (r : Rec) (s t : Segment) → IsSegment get r s → IsSegment get r t → s ≡ t
  segment_same r (straight l) (straight m) a b = ap straight (coords_same r l m a.1 b.1)
  segment_same r (straight l) (arc m) a b = apart _ 2 8 a.0 b.0 refl
  segment_same r (arc l) (straight m) a b = apart _ 8 2 a.0 b.0 refl
  segment_same r (arc l) (arc m) a b = ap arc (coords_same r l m a.1 b.1)

  not_nine : (r : Rec) (s : Segment) → IsSegment get r s → r.kind ≡ 9 → ⊥
  not_nine r (straight l) a e = apart _ 2 9 a.0 e refl
  not_nine r (arc l) a e = apart _ 8 9 a.0 e refl

  curve_same : (r : Rec) (s t : Curve) → IsCurve get r s → IsCurve get r t → s ≡ t
  curve_same r (segment s) (segment t) a b = ap segment (segment_same r s t a b)
  curve_same r (segment s) (compound ts) a b = absurd (not_nine r s a b.0)
  curve_same r (compound ss) (segment t) a b = absurd (not_nine r t b a.0)
  curve_same r (compound ss) (compound ts) a b = ap compound (parts_same (IsSegment get) segment_same r ss ts a.1 b.1)

  surface_same : (r : Rec) (s t : Surface) → IsSurface get r s → IsSurface get r t → s ≡ t
  surface_same r (flat rs) (flat qs) a b = ap flat (lines_same r rs qs a.1 b.1)
  surface_same r (flat rs) (curved cs) a b = apart _ 3 10 a.0 b.0 refl
  surface_same r (curved cs) (flat rs) a b = apart _ 10 3 a.0 b.0 refl
  surface_same r (curved cs) (curved ds) a b = ap curved (parts_same (IsCurve get) curve_same r cs ds a.1 b.1)

  form-same : (r : Rec) (type : ℕ) (s t : Simple) → OfType type s → OfType type t → Is get r s → Is get r t → s ≡ t
  form-same r type s t (of_point c) (of_point d) a b = let e = coords_same r (c ∷ []) (d ∷ []) a b in let h : c ≡ d = cc in ap point h
  form-same r type s t (of_line l) (of_line m) a b = ap line_string (coords_same r l m a b)
  form-same r type s t (of_polygon l) (of_polygon m) a b = ap polygon (lines_same r l m a b)
  form-same r type s t (of_points l) (of_points m) a b = ap multi_point (coords_same r l m a b)
  form-same r type s t (of_lines l) (of_lines m) a b = ap multi_line_string (lines_same r l m a b)
  form-same r type s t (of_polygons l) (of_polygons m) a b = ap multi_polygon (parts_same Lines lines_same r l m a b)
  form-same r type s t (of_arc l) (of_arc m) a b = ap circular_string (coords_same r l m a b)
  form-same r type s t (of_compound l) (of_compound m) a b = ap compound_curve (parts_same (IsSegment get) segment_same r l m a b)
  form-same r type s t (of_curved l) (of_curved m) a b = ap curve_polygon (parts_same (IsCurve get) curve_same r l m a b)
  form-same r type s t (of_curves l) (of_curves m) a b = ap multi_curve (parts_same (IsCurve get) curve_same r l m a b)
  form-same r type s t (of_surfaces l) (of_surfaces m) a b = ap multi_surface (parts_same (IsSurface get) surface_same r l m a b)
  form-same r type s t (of_faces l) (of_faces m) a b = ap polyhedral_surface (parts_same Lines lines_same r l m a b)
  form-same r type s t (of_tin l) (of_tin m) a b = ap tin (lines_same r l m a b)
  form-same r type s t (of_triangle l) (of_triangle m) a b = let e = lines_same r (l ∷ []) (m ∷ []) a b in let h : l ≡ m = cc in ap triangle h

  simple_same : (r : Rec) (type : ℕ) (s t : Simple) → (type ≡ type_of s) × Is get r s → (type ≡ type_of t) × Is get r t → s ≡ t
  simple_same r type s t a b = form-same r type s t (as_type type s a.0) (as_type type t b.0) a.1 b.1

  not_seven : (s : Simple) → 7 ≡ type_of s → ⊥
  not_seven s e = elim (as_type 7 s e) [ ]

  pub means_once : (n type : ℕ) (r : Rec) (g g' : Geometry n) → Means get n type r g → Means get n type r g' → g ≡ g'
  means_once zero type r s t a b = simple_same r type s t a b
  means_once (suc n) type r (simple s) (simple t) a b = ap simple (simple_same r type s t a b)
  means_once (suc n) type r (simple s) (collection hs) a b = absurd (not_seven s (sym b.0 ∙ a.0))
  means_once (suc n) type r (collection gs) (simple t) a b = absurd (not_seven t (sym a.0 ∙ b.0))
  means_once (suc n) type r (collection gs) (collection hs) a b = ap collection (parts_same (λ p g. Means get n p.kind p g) (λ p g h. means_once n p.kind p g h) r gs hs a.1 b.1)

  pub tree_once : (n type : ℕ) (g g' : Geometry n) → Tree get n type g → Tree get n type g' → g ≡ g'
  tree_once n type g g' t t' =
      let f : some t.root ≡ some t'.root = sym t.has ∙ t'.has in
      let p : t.root ≡ t'.root = cc in
      means_once n _ t'.root g g' (subst (λ (r : Rec). Means get n (cond (eqb type 0) r.kind type) r g) p t.means) t'.means
