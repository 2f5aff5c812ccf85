-- A table means at most one geometry under a type.
use Rattle.std.specs.Prelude.{◌≡◌, List, ℕ}
use Rattle.geometries.specs.Geometry.{Coord, Line, Rings, Segment, Curve, Surface, Simple, point, line_string, polygon, multi_point, multi_line_string, multi_polygon, circular_string, compound_curve, curve_polygon, multi_curve, multi_surface, polyhedral_surface, tin, triangle, type_of}

-- a geometry of a type has that type's form
pub data OfType : ℕ → Simple → Type 0 where
  of_point : (c : Coord) → OfType 1 (point c)
  of_line : (l : Line) → OfType 2 (line_string l)
  of_polygon : (rs : Rings) → OfType 3 (polygon rs)
  of_points : (cs : List Coord) → OfType 4 (multi_point cs)
  of_lines : (ls : List Line) → OfType 5 (multi_line_string ls)
  of_polygons : (ps : List Rings) → OfType 6 (multi_polygon ps)
  of_arc : (l : Line) → OfType 8 (circular_string l)
  of_compound : (ss : List Segment) → OfType 9 (compound_curve ss)
  of_curved : (cs : List Curve) → OfType 10 (curve_polygon cs)
  of_curves : (cs : List Curve) → OfType 11 (multi_curve cs)
  of_surfaces : (ss : List Surface) → OfType 12 (multi_surface ss)
  of_faces : (ps : List Rings) → OfType 15 (polyhedral_surface ps)
  of_tin : (ts : List Line) → OfType 16 (tin ts)
  of_triangle : (l : Line) → OfType 17 (triangle l)

of_type : (s : Simple) → OfType (type_of s) s
of_type (point c) = of_point c
of_type (line_string l) = of_line l
of_type (polygon rs) = of_polygon rs
of_type (multi_point cs) = of_points cs
of_type (multi_line_string ls) = of_lines ls
of_type (multi_polygon ps) = of_polygons ps
of_type (circular_string l) = of_arc l
of_type (compound_curve ss) = of_compound ss
of_type (curve_polygon cs) = of_curved cs
of_type (multi_curve cs) = of_curves cs
of_type (multi_surface ss) = of_surfaces ss
of_type (polyhedral_surface ps) = of_faces ps
of_type (tin ts) = of_tin ts
of_type (triangle l) = of_triangle l

pub as_type : (type : ℕ) (s : Simple) → type ≡ type_of s → OfType type s
as_type type s e = rw e (of_type s)
