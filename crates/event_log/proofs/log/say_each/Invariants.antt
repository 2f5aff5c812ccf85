use Rattle.std.proofs.Common.{◌*◌, drop}
use Rattle.event_log.specs.Pairs.{xy_s}
use Rattle.event_log.specs.Says.{Going, of_events}
use Rattle.event_log.proofs.log.say_each.Given as goal

abbrev pub invariant-loop-i : goal.invariant-loop-i
invariant-loop-i l = Going of_events (xy_s l.words 0 0) (xy_s (drop (2 * l.i) l.words) l.i 0) l.initial.log l.log
