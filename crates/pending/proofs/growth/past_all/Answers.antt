use Rattle.std.proofs.Common.{rules, ◌≡◌}
use Rattle.kinds.specs.Lanes.{Lane, xyL, endsL, zL, mL, tL, tmL, lane}
use Rattle.kinds.specs.LaneLaws.{by_lane, lanes_are}
use Rattle.pending.specs.Words.{words_in}
use Rattle.pending.specs.Growth.{past, omitted, past_all}
use Rattle.pending.proofs.growth.past_all.Goals as goal

pub returns : goal.returns
returns c =
    let h = c.zip_with.ensures in
    unfold past_all in lanes_are c.zip_with.result (λ n. past (words_in c.args.p n) (omitted n))
    (by_lane (λ (n : Lane). lane c.zip_with.result n ≡ past (words_in c.args.p n) (omitted n))
    (search (rules, h xyL)) (search (rules, h endsL)) (search (rules, h zL)) (search (rules, h mL)) (search (rules, h tL)) (search (rules, h tmL)))
