use Rattle.std.proofs.Common.{drop}
use Rattle.event_log.specs.Says.{Going, of_events}
use Rattle.coords.specs.Views.{coords_in}
use Rattle.lines.specs.Lines.{triangles_s}
use Rattle.triangles.proofs.read_triangles.Given as goal

abbrev pub invariant-loop-i : goal.invariant-loop-i
invariant-loop-i l = Going of_events (triangles_s (coords_in l.lists) l.ends l.tagged 0 0) (triangles_s (coords_in l.lists) (drop l.i l.ends) l.tagged l.before l.i) l.initial.log l.log
