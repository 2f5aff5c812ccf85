-- Levels as well-known binary has them: a geometry by itself is one, and every geometry inside another lies one deeper, the members of MultiPoint, MultiLineString and
-- MultiPolygon too. Rings and the pairs of a line are no geometries.
use Rattle.std.specs.Prelude.{List, [], ◌∷◌, ℕ, zero, suc, max}
use Rattle.planar.specs.Geometry.{Simple, point, line_string, polygon, multi_point, multi_line_string, multi_polygon, simple, collection, Geometry}

abbrev pub deepest : {A : Type 0} → (A → ℕ) → List A → ℕ
deepest d [] = 0
deepest d (a ∷ xs) = max (d a) (deepest d xs)

abbrev pub alone : {A : Type 0} → A → ℕ
alone a = 1

abbrev pub simple_levels : Simple → ℕ
simple_levels (point c) = 1
simple_levels (line_string l) = 1
simple_levels (polygon rs) = 1
simple_levels (multi_point cs) = suc (deepest alone cs)
simple_levels (multi_line_string ls) = suc (deepest alone ls)
simple_levels (multi_polygon ps) = suc (deepest alone ps)

abbrev pub levels : (n : ℕ) → Geometry n → ℕ
levels zero s = simple_levels s
levels (suc n) (simple s) = simple_levels s
levels (suc n) (collection gs) = suc (deepest (levels n) gs)
