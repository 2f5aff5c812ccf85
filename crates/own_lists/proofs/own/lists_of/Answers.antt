use Rattle.std.proofs.Common.{refl, length}
use Rattle.kinds.specs.Lanes.{xyL, endsL, zL, mL, tL, tmL}
use Rattle.own_lists.specs.OwnLaws.{in_pool, seen_in_pool, lent-is, seen-is, short, ends-is, few_ends}
use Rattle.own_lists.proofs.own.lists_of.Goals as goal

pub list-requires : goal.list-requires
list-requires c = let g = c.args.g.now in let p = c.args.pools.now in in_pool g.xy (length p.xy.now) 131072 (c.requires xyL)

pub list-requires-2 : goal.list-requires-2
list-requires-2 c = let g = c.args.g.now in let p = c.args.pools.now in seen_in_pool c.args.flags.z g.z (length p.z.now) 65536 c.seen.ensures (c.requires zL)

pub list-requires-3 : goal.list-requires-3
list-requires-3 c = let g = c.args.g.now in let p = c.args.pools.now in seen_in_pool c.args.flags.m g.m (length p.m.now) 65536 c.seen-2.ensures (c.requires mL)

pub list-requires-4 : goal.list-requires-4
list-requires-4 c = let g = c.args.g.now in let p = c.args.pools.now in seen_in_pool c.args.flags.t g.t (length p.t.now) 65536 c.seen-3.ensures (c.requires tL)

pub list-requires-5 : goal.list-requires-5
list-requires-5 c = let g = c.args.g.now in let p = c.args.pools.now in seen_in_pool c.args.flags.tm g.tm (length p.tm.now) 65536 c.seen-4.ensures (c.requires tmL)

pub list-requires-6 : goal.list-requires-6
list-requires-6 c = let g = c.args.g.now in let p = c.args.pools.now in in_pool g.ends (length p.ends.now) 65536 (c.requires endsL)

pub invariant_of-result-clause-few_words : goal.invariant_of-result-clause-few_words
invariant_of-result-clause-few_words c = let g = c.args.g.now in let p = c.args.pools.now in short p.xy.now c.list.result g.xy (length p.xy.now) 131072 c.list.ensures (c.requires xyL)

pub invariant_of-result-clause-few_ends : goal.invariant_of-result-clause-few_ends
invariant_of-result-clause-few_ends c = let g = c.args.g.now in let p = c.args.pools.now in few_ends p.ends.now c.list-6.result g.ends _ c.list-6.ensures refl c.unwrap_or.ensures (length p.ends.now) 65536 (c.requires endsL)

pub returns-clause-coords : goal.returns-clause-coords
returns-clause-coords c =
    let f = c.args.flags in
    let g = c.args.g.now in
    let p = c.args.pools.now in
    λ i. record {
      many = c.multi.ensures i;
      xy = lent-is p.xy.now c.list.result g.xy c.list.ensures i;
      lanes = record {
        z = seen-is p.z.now c.list-2.result f.z g.z c.seen.ensures c.list-2.ensures i;
        m = seen-is p.m.now c.list-3.result f.m g.m c.seen-2.ensures c.list-3.ensures i;
        t = seen-is p.t.now c.list-4.result f.t g.t c.seen-3.ensures c.list-4.ensures i;
        tm = seen-is p.tm.now c.list-5.result f.tm g.tm c.seen-4.ensures c.list-5.ensures i;
      };
    }

pub returns-clause-ends : goal.returns-clause-ends
returns-clause-ends c = let g = c.args.g.now in let p = c.args.pools.now in ends-is p.ends.now c.list-6.result g.ends _ c.list-6.ensures refl c.unwrap_or.ensures
