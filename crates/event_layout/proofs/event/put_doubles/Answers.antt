use mathlib.Core.List.{◌++◌}
use mathlib.Core.Path.{refl}
use Rattle.laws.specs.Bytes.{le}
use Rattle.laws.specs.Runs.{then}
use Rattle.event_layout.proofs.event.put_doubles.Goals as goal

pub returns : goal.returns
returns c =
    let a = c.args in
    let l = a.bytes.now in
    let e = a.e in
    let x = le 8 e.x in
    let y = x ++ le 8 e.y in
    let z = y ++ le 8 e.z in
    let m = z ++ le 8 e.m in
    let t = m ++ le 8 e.t in
    then l t (le 8 e.tm) 16 40
    (then l m (le 8 e.t) 16 32
    (then l z (le 8 e.m) 16 24
    (then l y (le 8 e.z) 16 16
    (then l x (le 8 e.y) 16 8 c.put_u64.ensures refl c.put_u64-2.ensures)
    refl c.put_u64-3.ensures)
    refl c.put_u64-4.ensures)
    refl c.put_u64-5.ensures)
    refl c.put_u64-6.ensures
