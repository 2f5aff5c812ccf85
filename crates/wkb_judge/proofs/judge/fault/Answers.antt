use mathlib.Core.Bool.{not}
use mathlib.Core.Path.{ap}
use Rattle.wkb_judge.specs.Searched.{none_searched, one_searched, one-malformed, all_searched}
use Rattle.wkb_judge.proofs.judge.fault.Goals as goal

pub loop-i-init : goal.loop-i-init
loop-i-init c = none_searched _ _

pub returns-then-not-is_event : goal.returns-then-not-is_event
returns-then-not-is_event c = one-malformed c.args.events.now c.args.from c.loop-i.i c.requires c.loop-i.invariant _ c.loop-i-test.true c.is_event.ensures (ap not c.if-not-is_event.true)

pub loop-i-preserved : goal.loop-i-preserved
loop-i-preserved c = one_searched c.args.events.now c.args.from c.loop-i.i c.requires c.loop-i.invariant _ c.loop-i-test.true c.is_event.ensures (ap not c.if-not-is_event.false)

pub returns : goal.returns
returns c = all_searched c.args.events.now c.args.from c.loop-i.i c.requires c.loop-i.invariant c.loop-i-test.false
