-- Small tables and coordinates, read and written by computing: what the differences are shown on.
use Rattle.std.specs.Prelude.{Bool, true, false, cond, ◌&&◌, List, [], ◌∷◌, ℕ, eqb}
use Rattle.std.proofs.Math.Option.{Option, none, some}
use Rattle.std.proofs.Math.ListN.{get_elem?}
use Rattle.laws.specs.Script.{Script, ◌⨟◌}
use Rattle.laws.specs.Framed.{framed}
use Rattle.kinds.specs.Event.{begin_e, end_e, xy_e, coordinate_e}
use Rattle.kinds.specs.declared.event.Event.{Event}
use Rattle.kinds.specs.declared.flags.Flags.{Flags}
use Rattle.store.specs.Lists.{Rec}
use Rattle.geometries.specs.Coordinate.{coord_e}
use Rattle.coords.specs.Coords.{taken, coordinate_s, pair_s, coords_s, between_s}
use Rattle.lines.specs.Lines.{stretch_s, lines_s, flat_o, flat_s, rings_s, stretches_s, polygon_s, multi_line_s, triangle_at, triangles_s, triangle_s, tin_s, point_s}
use Rattle.reader.specs.Reading.{parts_s, span_s, polygon_part, curve_of, curve_s, kind_s, geometry_s, root_s, read_s}
use Rattle.asking.specs.SetType.{unknown_type, collected, set_type}
use Rattle.asking.specs.Ask.{begun}
use Rattle.writer_model.specs.Writer.{Writer, fresh, longer, part_of, finish_part, coordinate, end_pushed, line_end, polygon_end, after, after_all, nay, finish, tree, next}
use Rattle.geometries.specs.Geometry.{Coord, Geometry}
use Rattle.geometries.specs.Events.{events_of}

abbrev pub plain : Flags
plain = record { z = false; m = false; t = false; tm = false }

abbrev pub high : Flags
high = record { z = true; m = false; t = false; tm = false }

abbrev pub here : Coord
here = record { x = 1; y = 2; z = none; m = none; t = none; tm = none }

abbrev pub there : Coord
there = record { x = 3; y = 4; z = none; m = none; t = none; tm = none }

abbrev pub raised : Coord
raised = record { x = 1; y = 2; z = some 9; m = none; t = none; tm = none }

abbrev pub table : ℕ → List ℕ → Option (List ℕ) → Rec
table kind xy ends = record { kind = kind; xy = some xy; ends = ends; z = none; m = none; t = none; tm = none; parts = none }

abbrev pub heights : List ℕ → Rec
heights z = record { kind = 2; xy = some (1 ∷ 2 ∷ []); ends = none; z = some z; m = none; t = none; tm = none; parts = none }

abbrev pub empty : ℕ → Option (ℕ × ℕ) → Rec
empty kind parts = record { kind = kind; xy = none; ends = none; z = none; m = none; t = none; tm = none; parts = parts }

-- read under a type
unfoldable pub read_under : Flags → List Rec → ℕ → Script Event
unfolding framed taken coordinate_s pair_s coords_s between_s stretch_s lines_s flat_o flat_s rings_s stretches_s polygon_s multi_line_s triangle_at triangles_s triangle_s tin_s point_s parts_s span_s polygon_part curve_of curve_s kind_s geometry_s root_s read_s ◌⨟◌ begin_e end_e xy_e coord_e coordinate_e
read_under F recs type = read_s F (get_elem? recs) type

-- no event is refused
abbrev all_taken : Writer → List Event → Bool
all_taken w [] = true
all_taken w (e ∷ es) = eqb (nay w e) 0 && all_taken (after w e) es

-- the writer after a geometry's events, with d declared and nothing detected
unfoldable pub written : Flags → (n : ℕ) → ℕ → Bool → Geometry n → Writer
unfolding fresh after_all after begun set_type unknown_type collected coordinate end_pushed line_end polygon_end finish_part part_of longer finish next events_of begin_e end_e xy_e coord_e coordinate_e
written F n d promote g = after_all (fresh d false promote) (events_of F n g)

-- written and then read under what is declared; none where an event is refused
unfoldable pub there_and_back : Flags → (n : ℕ) → ℕ → Bool → Geometry n → Option (Script Event)
unfolding read_under written nay
there_and_back F n d promote g = cond (all_taken (fresh d false promote) (events_of F n g)) (some (read_under F (tree (written F n d promote g)) d)) none
