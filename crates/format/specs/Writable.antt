-- The geometries that a writer keeps, and what it has of each at the end of its events.
use Rattle.std.specs.Prelude.{◌≡◌, List, [], ◌∷◌}
use Rattle.kinds.specs.declared.flags.Flags.{Flags}
use Rattle.geometries.specs.Coordinate.{is}
use Rattle.geometries.specs.Geometry.{Coord, Line, Rings, Simple, point, line_string, polygon, multi_point, multi_line_string, multi_polygon, circular_string, polyhedral_surface, tin, triangle}

abbrev pub All : {A : Type 0} → (A → Type 0) → List A → Type 0
All P [] = Unit {0}
All P (a ∷ xs) = P a × All P xs

abbrev pub Some : {A : Type 0} → List A → Type 0
Some [] = ⊥
Some (a ∷ xs) = Unit {0}

-- exactly the values that the flags name
pub record Has (F : Flags) (c : Coord) : Type 0 where
  pub z : is c.z ≡ F.z
  pub m : is c.m ≡ F.m
  pub t : is c.t ≡ F.t
  pub tm : is c.tm ≡ F.tm

-- at least one line or ring
abbrev pub HasRings : Flags → List Line → Type 0
HasRings F ls = Some ls × All (All (Has F)) ls

-- coordinates; lines that are split by ends; polygons, each a part
pub data Held : Type 0 where
  coords : List Coord → Held
  lines : List Line → Held
  polygons : List Rings → Held

-- ten of the fourteen types: no part is made for the elements of a CompoundCurve, CurvePolygon, MultiCurve or MultiSurface
pub data Writable (F : Flags) : Simple → Held → Type 0 where
  a_point : (c : Coord) → Has F c → Writable F (point c) (coords (c ∷ []))
  a_line : (l : Line) → All (Has F) l → Writable F (line_string l) (coords l)
  a_polygon : (rs : Rings) → HasRings F rs → Writable F (polygon rs) (lines rs)
  many_points : (cs : List Coord) → All (Has F) cs → Writable F (multi_point cs) (coords cs)
  many_lines : (ls : List Line) → HasRings F ls → Writable F (multi_line_string ls) (lines ls)
  many_polygons : (ps : List Rings) → Some ps → All (HasRings F) ps → Writable F (multi_polygon ps) (polygons ps)
  an_arc : (l : Line) → All (Has F) l → Writable F (circular_string l) (coords l)
  a_surface : (ps : List Rings) → Some ps → All (HasRings F) ps → Writable F (polyhedral_surface ps) (polygons ps)
  a_tin : (ts : List Line) → HasRings F ts → Writable F (tin ts) (lines ts)
  a_triangle : (l : Line) → All (Has F) l → Writable F (triangle l) (lines (l ∷ []))
