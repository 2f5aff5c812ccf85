-- What a table of the published format means: header.fbs for the type numbers, feature.fbs for the Geometry table. Its words stand before each definition.
use Rattle.std.specs.Prelude.{◌≡◌, cond, List, [], ◌∷◌, ◌++◌, map, ℕ, zero, suc, ◌+◌, length, eqb}
use Rattle.std.proofs.Math.Option.{Option, none, some}
use Rattle.store.specs.Lists.{Rec}
use Rattle.lines.specs.Lines.{or_none}
use Rattle.geometries.specs.Geometry.{Coord, Line, Segment, straight, arc, Curve, segment, compound, Surface, flat, curved, Simple, point, line_string, polygon, multi_point, multi_line_string, multi_polygon, circular_string, compound_curve, curve_polygon, multi_curve, multi_surface, polyhedral_surface, tin, triangle, simple, collection, Geometry, type_of}

-- xy: flat x and y coordinate array (flat pairs)
abbrev pub xy_of : List Coord → List ℕ
xy_of [] = []
xy_of (c ∷ cs) = c.x ∷ c.y ∷ xy_of cs

-- z, m, t, tm: flat arrays by coordinate. Absent: no coordinate has a value; present: each has one
abbrev pub values_of : Option (List ℕ) → List Coord → List (Option ℕ)
values_of none cs = map (λ c. none) cs
values_of (some vs) cs = map some vs

pub record ByCoord (o : Option (List ℕ)) (f : Coord → Option ℕ) (cs : List Coord) : Type 0 where
  pub is : map f cs ≡ values_of o cs

-- the table's coordinates
pub record Coords (r : Rec) (cs : List Coord) : Type 0 where
  pub xy : r.xy ≡ some (xy_of cs)
  pub z : ByCoord r.z (λ c. c.z) cs
  pub m : ByCoord r.m (λ c. c.m) cs
  pub t : ByCoord r.t (λ c. c.t) cs
  pub tm : ByCoord r.tm (λ c. c.tm) cs

abbrev pub joined : List Line → List Coord
joined [] = []
joined (l ∷ ls) = l ++ joined ls

-- ends: array of end index in flat coordinates per geometry part
abbrev pub ends_from : ℕ → List Line → List ℕ
ends_from n [] = []
ends_from n (l ∷ ls) = (n + length l) ∷ ends_from (n + length l) ls

-- without ends there is one part
abbrev pub Ends : List ℕ → List Line → Type 0
Ends [] ls = length ls ≡ 1
Ends (e ∷ es) ls = e ∷ es ≡ ends_from 0 ls

-- the table's lines, or rings
pub record Lines (r : Rec) (ls : List Line) : Type 0 where
  pub coords : Coords r (joined ls)
  pub ends : Ends (or_none r.ends) ls

module _ (get : ℕ → Option Rec) where
  abbrev pub Each : {A : Type 0} → (Rec → A → Type 0) → ℕ → List A → Type 0
  Each M n [] = Unit {0}
  Each M n (a ∷ xs) = ((p : Rec) × (get n ≡ some p) × M p a) × Each M (n + 1) xs

  -- parts: array of parts
  pub record Parts {A : Type 0} (M : Rec → A → Type 0) (r : Rec) (xs : List A) : Type 0 where
    pub from : ℕ
    pub parts : r.parts ≡ some (from, length xs)
    pub each : Each M from xs

  -- type: type of geometry, for the elements of heterogeneous collection types
  abbrev pub IsSegment : Rec → Segment → Type 0
  IsSegment r (straight l) = (r.kind ≡ 2) × Coords r l
  IsSegment r (arc l) = (r.kind ≡ 8) × Coords r l

  abbrev pub IsCurve : Rec → Curve → Type 0
  IsCurve r (segment s) = IsSegment r s
  IsCurve r (compound ss) = (r.kind ≡ 9) × Parts IsSegment r ss

  abbrev pub IsSurface : Rec → Surface → Type 0
  IsSurface r (flat rs) = (r.kind ≡ 3) × Lines r rs
  IsSurface r (curved cs) = (r.kind ≡ 10) × Parts IsCurve r cs

  abbrev pub Is : Rec → Simple → Type 0
  Is r (point c) = Coords r (c ∷ [])
  Is r (line_string l) = Coords r l
  Is r (polygon rs) = Lines r rs
  Is r (multi_point cs) = Coords r cs
  Is r (multi_line_string ls) = Lines r ls
  Is r (multi_polygon ps) = Parts Lines r ps
  Is r (circular_string l) = Coords r l
  Is r (compound_curve ss) = Parts IsSegment r ss
  Is r (curve_polygon cs) = Parts IsCurve r cs
  Is r (multi_curve cs) = Parts IsCurve r cs
  Is r (multi_surface ss) = Parts IsSurface r ss
  Is r (polyhedral_surface ps) = Parts Lines r ps
  Is r (tin ts) = Lines r ts
  Is r (triangle l) = Lines r (l ∷ [])

  -- a table, taken as of a type, is a geometry
  abbrev pub Means : (n : ℕ) → ℕ → Rec → Geometry n → Type 0
  Means zero type r s = (type ≡ type_of s) × Is r s
  Means (suc n) type r (simple s) = (type ≡ type_of s) × Is r s
  Means (suc n) type r (collection gs) = (type ≡ 7) × Parts (λ p g. Means n p.kind p g) r gs

  -- the root, under the header's type; where that is Unknown, under its own
  pub record Tree (n type : ℕ) (g : Geometry n) : Type 0 where
    pub root : Rec
    pub has : get 0 ≡ some root
    pub means : Means n (cond (eqb type 0) root.kind type) root g
