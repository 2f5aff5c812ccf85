-- Rows there are: heights and several types with nothing declared, promoted ones among them; a declared collection.
use Rattle.std.specs.Prelude.{refl, true, false, List, [], ◌∷◌, ℕ}
use Rattle.std.proofs.Math.Option.{none, some}
use Rattle.kinds.specs.declared.flags.Flags.{Flags}
use Rattle.writer_model.specs.Writer.{fresh}
use Rattle.geometries.specs.Geometry.{Coord, Line, point, line_string, polygon, multi_point, multi_line_string, multi_polygon, triangle, simple, collection, Geometry}
use Rattle.format.specs.Writable.{All, Has, a_polygon, many_points, many_polygons}
use Rattle.format.specs.Writes.{unknown}
use Rattle.format.specs.Promoted.{line}
use Rattle.format.specs.Collections.{a_point, a_line, a_triangle, Elements, more, declared}
use Rattle.format.specs.Rows.{Row, itself, multi, together}
use Rattle.format.specs.RoundTrip.{EachReads}
use Rattle.format.proofs.RoundTrip.{round_trip}

abbrev high : Flags
high = record { z = true; m = false; t = false; tm = false }

abbrev at : ℕ → ℕ → ℕ → Coord
at x y z = record { x = x; y = y; z = some z; m = none; t = none; tm = none }

has_height : (x y z : ℕ) → Has high (at x y z)
has_height x y z = record { z = refl; m = refl; t = refl; tm = refl }

abbrev edge : Line
edge = at 1 2 3 ∷ at 4 5 6 ∷ []

edge-has : All (Has high) edge
edge-has = (has_height 1 2 3, (has_height 4 5 6, tt))

abbrev as_given : Geometry 1 → Row
as_given g = record { given = g; kept = g }

-- undeclared
abbrev several : List Row
several = as_given (simple (polygon (edge ∷ edge ∷ []))) ∷ as_given (simple (multi_point edge)) ∷ as_given (simple (multi_polygon ((edge ∷ []) ∷ []))) ∷ []

pub several-read : EachReads high (fresh 0 false false) several
several-read =
    round_trip high false false several 0 (
      itself _ _ (unknown refl refl) (a_polygon (edge ∷ edge ∷ []) (tt, (edge-has, (edge-has, tt)))),
      (itself _ _ (unknown refl refl) (many_points edge edge-has), (itself _ _ (unknown refl refl) (many_polygons ((edge ∷ []) ∷ []) tt ((tt, (edge-has, tt)), tt)), tt)),
    )

-- the first line is promoted and its multi type detected; the second is promoted because it is declared
abbrev lifted : Row
lifted = record { given = simple (line_string edge); kept = simple (multi_line_string (edge ∷ [])) }

pub lifted-read : EachReads high (fresh 0 true true) (lifted ∷ lifted ∷ [])
lifted-read = round_trip high true true (lifted ∷ lifted ∷ []) 0 (multi _ _ _ false refl refl (line edge edge-has), (multi _ _ _ true refl refl (line edge edge-has), tt))

-- declared
abbrev mixed : List Row
mixed = as_given (collection (point (at 1 2 3) ∷ line_string edge ∷ triangle edge ∷ [])) ∷ []

pub mixed-read : EachReads high (fresh 7 false false) mixed
mixed-read =
    round_trip high false false mixed 7
    (together _ _ (declared refl) tt (more _ _ _ _ (a_point (at 1 2 3) (has_height 1 2 3)) (more _ _ _ _ (a_line edge edge-has) (more _ _ _ _ (a_triangle edge edge-has) Elements.none))), tt)
