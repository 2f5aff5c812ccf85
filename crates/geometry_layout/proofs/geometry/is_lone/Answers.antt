use mathlib.Core.Bool.{◌&&◌}
use lib.ListN.{get_or}
use lib.Dec.{eqb}
use Rattle.geometry_layout.specs.Lone.{is_lone}
use Rattle.geometry_layout.proofs.geometry.is_lone.Goals as goal

pub returns : goal.returns
returns c =
    let l = c.args.bytes.now in
    unfold is_lone in λ i. eqb (get_or l 1 0) 1 && eqb (get_or l 2 0) 0 && eqb (get_or l 3 0) 0 && eqb (c.u64_at.ensures i) 0 && eqb (c.u64_at-2.ensures i) 0 && eqb (c.u64_at-3.ensures i) 0 && eqb (c.u64_at-4.ensures i) 0 && eqb (c.u64_at-5.ensures i) 0 && eqb (c.u64_at-6.ensures i) 0 && eqb (c.u32_at.ensures i) 0
