use mathlib.Core.Path.{◌≡◌}
use Prim.Native.Nat.{suc, ◌+◌, ◌≤◌}
use native.Mathlib.Nat.{add-zero}
use native.Mathlib.Omega.{arith}
use lib.ListN.{length, drop_of_length-le}
use lib.Seq.{drop-cons}
use Rattle.property_writer.proofs.lay.put_bytes.Goals as goal

pub loop-i-init : goal.loop-i-init
loop-i-init c = rw add-zero

pub loop-i-preserved : goal.loop-i-preserved
loop-i-preserved c =
    let a = c.args in
    let i = c.loop-i.i in
    let next : a.at + (i + 1) ≡ suc (a.at + i) = omega arith in
    let more : i + 1 ≡ suc i = omega arith in
    rw (next, more) (rw (drop-cons a.bytes.now i 0 (omega arith)) at c.loop-i.invariant)

pub returns : goal.returns
returns c =
    let done : length c.args.bytes.now ≤ c.loop-i.i = omega arith in
    rw (drop_of_length-le c.args.bytes.now done) at c.loop-i.invariant
