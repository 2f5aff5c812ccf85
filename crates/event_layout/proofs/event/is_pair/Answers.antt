use native.Mathlib.Omega.{arith}
use Rattle.event_layout.specs.EventLaws.{own_pair}
use Rattle.event_layout.proofs.event.is_pair.Goals as goal

pub returns : goal.returns
returns c =
    λ h.
    let sized = c.struct_known-1.given in
    own_pair c.args.bytes.now c.requires c.event_of-e.result c.event_of-e.ensures c.u64_at-head.ensures c.u64_at-numbers.ensures (omega (arith, c.ranges)) (omega (arith, sized)) (omega (arith, sized)) (omega (arith, sized)) h
