-- Promoted: a LineString or Polygon given to a writer of the multi type, or of none yet, is kept as a multi of one.
use Rattle.std.specs.Prelude.{Bool, cond, ℕ}
use mathlib.Core.List.{[], ◌∷◌}
use Rattle.kinds.specs.declared.flags.Flags.{Flags}
use Rattle.geometries.specs.Geometry.{Line, Rings, Simple, line_string, polygon, multi_line_string, multi_polygon, type_of}
use Rattle.format.specs.Writable.{All, Has, HasRings, Held, lines, polygons}

-- what is given, the multi of it, and what the writer then has
pub data Lifts (F : Flags) : Simple → Simple → Held → Type 0 where
  line : (l : Line) → All (Has F) l → Lifts F (line_string l) (multi_line_string (l ∷ [])) (lines (l ∷ []))
  rings : (rs : Rings) → HasRings F rs → Lifts F (polygon rs) (multi_polygon (rs ∷ [])) (polygons (rs ∷ []))

-- where the multi type is declared, or else none
abbrev pub declaring : Bool → Simple → ℕ
declaring known s = cond known (type_of s) 0
