use Rattle.kinds.specs.Lanes.{xyL, endsL, zL, mL, tL, tmL}
use Rattle.kinds.proofs.lanes.Lanes.map.Goals as goal

pub f-requires : goal.f-requires
f-requires g c = c.requires xyL

pub f-requires-2 : goal.f-requires-2
f-requires-2 g c = c.requires endsL

pub f-requires-3 : goal.f-requires-3
f-requires-3 g c = c.requires zL

pub f-requires-4 : goal.f-requires-4
f-requires-4 g c = c.requires mL

pub f-requires-5 : goal.f-requires-5
f-requires-5 g c = c.requires tL

pub f-requires-6 : goal.f-requires-6
f-requires-6 g c = c.requires tmL
