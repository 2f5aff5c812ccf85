-- The least that a tree of a geometry holds, geometries and numbers together.
use Rattle.std.specs.Prelude.{cond, List, [], ◌∷◌, ℕ, ◌+◌, length, leb}
use Rattle.std.proofs.Math.Option.{Option}
use Rattle.kinds.specs.declared.flags.Flags.{Flags}
use Rattle.geometries.specs.Coordinate.{is}
use Rattle.geometries.specs.Geometry.{Coord, Line, Rings, Simple, point, line_string, polygon, multi_point, multi_line_string, multi_polygon, circular_string, compound_curve, curve_polygon, multi_curve, multi_surface, polyhedral_surface, tin, triangle}
use Rattle.geometries.specs.Events.{shown}
use Rattle.format.specs.Format.{joined}

abbrev pub sum : {A : Type 0} → (A → ℕ) → List A → ℕ
sum f [] = 0
sum f (a ∷ l) = f a + sum f l

abbrev pub there : Option ℕ → ℕ
there o = cond (is o) 1 0

-- an end for each line where there are two or more
abbrev pub ends : List Line → ℕ
ends ls = cond (leb (length ls) 1) 0 (length ls)

module _ (F : Flags) where
  -- two words a pair, and a word for each value that the flags show
  abbrev pub words : Coord → ℕ
  words c = 2 + there (shown F.z c.z) + there (shown F.m c.m) + there (shown F.t c.t) + there (shown F.tm c.tm)

  -- a record with its pairs, or its lines
  abbrev pub of_pairs : List Coord → ℕ
  of_pairs cs = 1 + sum words cs

  abbrev pub of_lines : List Line → ℕ
  of_lines ls = of_pairs (joined ls) + ends ls

  -- a root, and a record for each polygon
  abbrev pub of_polygons : List Rings → ℕ
  of_polygons ps = 1 + sum of_lines ps

  -- 0, no bound, for the four types whose elements the writer makes no parts of
  unfoldable pub least_of : Simple → ℕ
  least_of (point c) = of_pairs (c ∷ [])
  least_of (line_string l) = of_pairs l
  least_of (polygon rs) = of_lines rs
  least_of (multi_point cs) = of_pairs cs
  least_of (multi_line_string ls) = of_lines ls
  least_of (multi_polygon ps) = of_polygons ps
  least_of (circular_string l) = of_pairs l
  least_of (compound_curve ss) = 0
  least_of (curve_polygon cs) = 0
  least_of (multi_curve cs) = 0
  least_of (multi_surface ss) = 0
  least_of (polyhedral_surface ps) = of_polygons ps
  least_of (tin ts) = of_lines ts
  least_of (triangle l) = of_lines (l ∷ [])
