use mathlib.Core.List.{◌++◌}
use mathlib.Core.Path.{refl, ◌∙◌}
use Rattle.laws.specs.Bytes.{le}
use Rattle.laws.specs.Runs.{then, sets_whole}
use Rattle.geometry_layout.specs.Geometry.{head_bytes, present_of, span_bytes, geometry_bytes}
use Rattle.geometry_layout.proofs.geometry.put_geometry.Goals as goal

pub returns : goal.returns
returns c =
    unfold geometry_bytes in let a = c.args in
    let l = a.bytes.now in
    let g = a.g in
    let head = head_bytes g.kind (present_of g) in
    let xy = head ++ span_bytes g.xy in
    let ends = xy ++ span_bytes g.ends in
    let z = ends ++ span_bytes g.z in
    let m = z ++ span_bytes g.m in
    let t = m ++ span_bytes g.t in
    let tm = t ++ span_bytes g.tm in
    let parts = tm ++ span_bytes g.parts in
    then l parts (le 4 0) 0 60
    (then l tm (span_bytes g.parts) 0 52
    (then l t (span_bytes g.tm) 0 44
    (then l m (span_bytes g.t) 0 36
    (then l z (span_bytes g.m) 0 28
    (then l ends (span_bytes g.z) 0 20
    (then l xy (span_bytes g.ends) 0 12
    (then l head (span_bytes g.xy) 0 4 (rw c.present_of.ensures at c.put_head.ensures) refl c.put_list.ensures)
    refl c.put_list-2.ensures)
    refl c.put_list-3.ensures)
    refl c.put_list-4.ensures)
    refl c.put_list-5.ensures)
    refl c.put_list-6.ensures)
    refl c.put_list-7.ensures)
    refl c.put_u32.ensures
    ∙ sets_whole l (parts ++ le 4 0) c.requires
