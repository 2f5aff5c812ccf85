use Rattle.std.proofs.Common.{rules, ◌≡◌}
use Rattle.kinds.specs.Lanes.{Lane, xyL, endsL, zL, mL, tL, tmL, lane}
use Rattle.kinds.specs.LaneLaws.{by_lane}
use Rattle.pending.specs.Growth.{more}
use Rattle.pending.proofs.growth.counts.Goals as goal

pub returns : goal.returns
returns c =
    let h = c.zip_with.ensures in
    by_lane (λ (n : Lane). lane c.zip_with.result n ≡ more c.args.a n)
    (search (rules, h xyL)) (search (rules, h endsL)) (search (rules, h zL)) (search (rules, h mL)) (search (rules, h tL)) (search (rules, h tmL))
