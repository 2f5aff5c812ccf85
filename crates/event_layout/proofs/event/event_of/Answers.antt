use lib.ListN.{get_or}
use lib.Dec.{eqb}
use Rattle.event_layout.specs.Event.{event_of}
use Rattle.event_layout.proofs.event.event_of.Goals as goal

pub returns : goal.returns
returns c =
    let l = c.args.bytes.now in
    unfold event_of in λ i. record {
      kind = get_or l 0 0;
      tagged = eqb (get_or l 1 0) 1;
      present = get_or l 2 0;
      size = c.u32_at.ensures i;
      idx = c.u32_at-2.ensures i;
      x = c.u64_at.ensures i;
      y = c.u64_at-2.ensures i;
      z = c.u64_at-3.ensures i;
      m = c.u64_at-4.ensures i;
      t = c.u64_at-5.ensures i;
      tm = c.u64_at-6.ensures i;
    }
