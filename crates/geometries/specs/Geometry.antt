-- SPEC 11.6: geometries as data, with the type numbers of header.fbs.
use Rattle.std.specs.Prelude.{List, [], ◌∷◌, ℕ, zero, suc, max}
use Rattle.std.proofs.Math.Option.{Option}

-- a position, with height, measure and times where it has them
pub record Coord : Type 0 where
  pub x : ℕ
  pub y : ℕ
  pub z : Option ℕ
  pub m : Option ℕ
  pub t : Option ℕ
  pub tm : Option ℕ

abbrev pub Line : Type 0
Line = List Coord

-- a polygon: its rings, the outer one first
abbrev pub Rings : Type 0
Rings = List Line

pub data Segment : Type 0 where
  straight : Line → Segment
  arc : Line → Segment

pub data Curve : Type 0 where
  segment : Segment → Curve
  compound : List Segment → Curve

pub data Surface : Type 0 where
  flat : Rings → Surface
  curved : List Curve → Surface

pub data Simple : Type 0 where
  point : Coord → Simple
  line_string : Line → Simple
  polygon : Rings → Simple
  multi_point : List Coord → Simple
  multi_line_string : List Line → Simple
  multi_polygon : List Rings → Simple
  circular_string : Line → Simple
  compound_curve : List Segment → Simple
  curve_polygon : List Curve → Simple
  multi_curve : List Curve → Simple
  multi_surface : List Surface → Simple
  polyhedral_surface : List Rings → Simple
  tin : List Line → Simple
  triangle : Line → Simple

pub data Shape (Part : Type 0) : Type 0 where
  simple : Simple → Shape Part
  collection : List Part → Shape Part

-- a geometry, with collections at most n deep
abbrev pub Geometry : ℕ → Type 0
Geometry zero = Simple
Geometry (suc n) = Shape (Geometry n)

-- the numbers of header.fbs
abbrev pub type_of : Simple → ℕ
type_of (point c) = 1
type_of (line_string l) = 2
type_of (polygon rs) = 3
type_of (multi_point cs) = 4
type_of (multi_line_string ls) = 5
type_of (multi_polygon ps) = 6
type_of (circular_string l) = 8
type_of (compound_curve ss) = 9
type_of (curve_polygon cs) = 10
type_of (multi_curve cs) = 11
type_of (multi_surface ss) = 12
type_of (polyhedral_surface ps) = 15
type_of (tin ts) = 16
type_of (triangle l) = 17

-- ---- levels below a geometry
abbrev pub deep : {A : Type 0} → (A → ℕ) → List A → ℕ
deep d [] = 0
deep d (a ∷ xs) = max (suc (d a)) (deep d xs)

abbrev pub flatly : {A : Type 0} → A → ℕ
flatly a = 0

abbrev pub curve_depth : Curve → ℕ
curve_depth (segment s) = 0
curve_depth (compound ss) = deep flatly ss

abbrev pub surface_depth : Surface → ℕ
surface_depth (flat rs) = 0
surface_depth (curved cs) = deep curve_depth cs

abbrev pub simple_depth : Simple → ℕ
simple_depth (point c) = 0
simple_depth (line_string l) = 0
simple_depth (polygon rs) = 0
simple_depth (multi_point cs) = 0
simple_depth (multi_line_string ls) = 0
simple_depth (multi_polygon ps) = deep flatly ps
simple_depth (circular_string l) = 0
simple_depth (compound_curve ss) = deep flatly ss
simple_depth (curve_polygon cs) = deep curve_depth cs
simple_depth (multi_curve cs) = deep curve_depth cs
simple_depth (multi_surface ss) = deep surface_depth ss
simple_depth (polyhedral_surface ps) = deep flatly ps
simple_depth (tin ts) = 0
simple_depth (triangle l) = 0

abbrev pub depth : (n : ℕ) → Geometry n → ℕ
depth zero s = simple_depth s
depth (suc n) (simple s) = simple_depth s
depth (suc n) (collection gs) = deep (depth n) gs
