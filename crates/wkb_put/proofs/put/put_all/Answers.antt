use mathlib.Core.Path.{refl, ap, ◌∙◌}
use lib.ListN.{length}
use Prim.Native.Nat.{◌+◌}
use native.Mathlib.Omega.{arith}
use borrow.Author.Rules.{rules}
use Rattle.wkb_put.specs.PutLeft.{Left, began, ended, event-room, event_on, pairs-room, pairs_on}
use Rattle.wkb_put.proofs.put.put_all.Goals as goal

pub loop-next-init : goal.loop-next-init
loop-next-init c = record { memory = refl; left = began c.requires.0 refl c.new-output.ensures.at }

pub put_event-around-requires : goal.put_event-around-requires
put_event-around-requires c =
    let r = c.loop-next.invariant.left in
    omega (arith, event-room c.loop-next-test.true r c.event_at-e.ensures, c.requires.1, r.long, ap length c.new-output.ensures.bytes)

pub loop-next-preserved-then-around : goal.loop-next-preserved-then-around
loop-next-preserved-then-around c =
    let l = c.loop-next in
    let put = c.put_event-around in
    record { memory = put.ensures.laid.memory ∙ l.invariant.memory; left = event_on c.loop-next-test.true l.invariant.left c.event_at-e.ensures put.ensures.later put.ensures.laid }

pub put_pairs-next-requires : goal.put_pairs-next-requires
put_pairs-next-requires c =
    let l = c.loop-next in
    let put = c.put_event-around in
    let r : Left c.args.events.now c.new-output.result.bytes.now put.result put.new.output (l.next + 1) = event_on c.loop-next-test.true l.invariant.left c.event_at-e.ensures put.ensures.later put.ensures.laid in
    (omega (arith, c.loop-next-test.true), r.heard, omega (arith, pairs-room c.if-around.false r, c.requires.1, r.long, ap length c.new-output.ensures.bytes))

pub loop-next-preserved : goal.loop-next-preserved
loop-next-preserved c =
    let l = c.loop-next in
    let put = c.put_event-around in
    let ran = c.put_pairs-next in
    record {
      memory = ran.ensures.laid.memory ∙ (put.ensures.laid.memory ∙ l.invariant.memory);
      left = pairs_on c.if-around.false (event_on c.loop-next-test.true l.invariant.left c.event_at-e.ensures put.ensures.later put.ensures.laid) ran.ensures;
    }

pub returns : goal.returns
returns c =
    let laid = ended c.loop-next-test.false c.loop-next.invariant.left in
    let same = c.loop-next.invariant.memory ∙ c.new-output.ensures.memory in
    let first = c.new-output.ensures.bytes in
    search rules
