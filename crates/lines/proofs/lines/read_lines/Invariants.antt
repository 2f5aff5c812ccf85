use Rattle.std.proofs.Common.{drop}
use Rattle.event_log.specs.Says.{Going, of_events}
use Rattle.coords.specs.Views.{coords_in}
use Rattle.lines.specs.Lines.{lines_s}
use Rattle.lines.proofs.lines.read_lines.Given as goal

abbrev pub invariant-loop-i : goal.invariant-loop-i
invariant-loop-i l = Going of_events (lines_s (coords_in l.lists) l.ends 0 0) (lines_s (coords_in l.lists) (drop l.i l.ends) l.before l.i) l.initial.log l.log
