use mathlib.Core.Bool.{◌&&◌}
use lib.ListN.{get_or}
use lib.Dec.{ltb, eqb}
use Rattle.geometry_layout.specs.Geometry.{sound_geometry}
use Rattle.geometry_layout.proofs.geometry.sound_geometry.Goals as goal

pub returns : goal.returns
returns c =
    let l = c.args.bytes.now in
    unfold sound_geometry in λ i. eqb (get_or l 2 0) 0 && eqb (get_or l 3 0) 0 && eqb (c.u32_at.ensures i) 0 && ltb (get_or l 1 0) 128 && c.absent_zero.ensures i && c.absent_zero-2.ensures i && c.absent_zero-3.ensures i && c.absent_zero-4.ensures i && c.absent_zero-5.ensures i && c.absent_zero-6.ensures i && c.absent_zero-7.ensures i
