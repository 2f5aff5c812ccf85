use mathlib.Core.Path.{◌≡◌, sym, subst}
use Prim.Native.Nat.{◌/◌}
use lib.ListN.{length}
use Rattle.wkb_put.specs.Put.{RunLaid}
use native.Mathlib.Omega.{arith}
use Rattle.wkb_put.specs.PutLeft.{pair-room, run_on, run-stopped, run_ended}
use Rattle.wkb_put.proofs.put.put_pairs.Goals as goal

pub pair-requires : goal.pair-requires
pair-requires c = omega (arith, pair-room c.loop-next-test.true c.loop-next.invariant c.event_at-e.ensures c.if-e-ne-XY.false, c.requires.2, c.loop-next.invariant.long)

pub loop-next-preserved : goal.loop-next-preserved
loop-next-preserved c = run_on c.loop-next-test.true c.loop-next.invariant c.event_at-e.ensures c.if-e-ne-XY.false c.pair.ensures

pub returns-then-e-ne-XY : goal.returns-then-e-ne-XY
returns-then-e-ne-XY c = run-stopped c.loop-next-test.true c.loop-next.invariant c.event_at-e.ensures c.if-e-ne-XY.true

pub returns : goal.returns
returns c =
    let l = c.loop-next in
    let end : length c.args.events.now / 64 ≡ l.next = omega (arith, c.requires.0, c.loop-next-test.false, l.auto.next-end) in
    subst (RunLaid c.args.events.now c.args.from c.args.output.now l.output) (sym end) (run_ended (omega arith) l.invariant)
