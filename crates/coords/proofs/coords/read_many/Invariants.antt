use Rattle.event_log.specs.Says.{Going, of_events}
use Rattle.coords.specs.Views.{coords_in, pairs_in}
use Rattle.coords.specs.CoordLaws.{pairs_s}
use Rattle.coords.proofs.coords.read_many.Given as goal

abbrev pub invariant-loop-i : goal.invariant-loop-i
invariant-loop-i l = Going of_events (pairs_in (coords_in l.lists) l.initial.from l.words) (pairs_s l.lists.many (coords_in l.lists).lanes l.words l.from 0 l.i) l.initial.log l.log
