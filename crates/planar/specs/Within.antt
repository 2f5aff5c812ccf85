-- A geometry of the seven types as one of `geometries`: a pair has no height, measure or times.
use Rattle.std.specs.Prelude.{false, List, map, ℕ, zero, suc}
use Rattle.std.proofs.Math.Option.{none}
use Rattle.kinds.specs.declared.event.Event.{Event}
use Rattle.kinds.specs.declared.flags.Flags.{Flags}
use Rattle.geometries.specs.Geometry as Whole
use Rattle.geometries.specs.Events as Told
use Rattle.planar.specs.Geometry.{Coord, Line, Rings, Simple, point, line_string, polygon, multi_point, multi_line_string, multi_polygon, simple, collection, Geometry}

abbrev pub coord_in : Coord → Whole.Coord
coord_in c = record { x = c.x; y = c.y; z = none; m = none; t = none; tm = none }

abbrev pub line_in : Line → Whole.Line
line_in l = map coord_in l

abbrev pub rings_in : Rings → Whole.Rings
rings_in rs = map line_in rs

abbrev pub simple_in : Simple → Whole.Simple
simple_in (point c) = Whole.point (coord_in c)
simple_in (line_string l) = Whole.line_string (line_in l)
simple_in (polygon rs) = Whole.polygon (rings_in rs)
simple_in (multi_point cs) = Whole.multi_point (map coord_in cs)
simple_in (multi_line_string ls) = Whole.multi_line_string (map line_in ls)
simple_in (multi_polygon ps) = Whole.multi_polygon (map rings_in ps)

abbrev pub geometry_in : (n : ℕ) → Geometry n → Whole.Geometry n
geometry_in zero s = simple_in s
geometry_in (suc n) (simple s) = Whole.simple (simple_in s)
geometry_in (suc n) (collection gs) = Whole.collection (map (geometry_in n) gs)

-- no flag is set
abbrev pub plain : Flags
plain = record { z = false; m = false; t = false; tm = false }

-- its events: without flags a pair is kind 64
unfoldable pub planar_events : (n : ℕ) → Geometry n → List Event
planar_events n g = Told.events_of plain n (geometry_in n g)
