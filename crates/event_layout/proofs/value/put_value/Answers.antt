use mathlib.Core.List.{◌++◌}
use mathlib.Core.Path.{◌≡◌, refl, ◌∙◌}
use Prim.Native.Nat.{◌%◌, ◌/◌}
use native.Mathlib.Omega.{arith}
use Rattle.laws.specs.Bytes.{le}
use Rattle.laws.specs.Runs.{then, sets_whole}
use Rattle.event_layout.specs.Value.{value_bytes}
use Rattle.event_layout.proofs.value.put_value.Goals as goal

pub returns : goal.returns
returns c =
    unfold value_bytes in let a = c.args in
    let l = a.bytes.now in
    let v = a.v in
    let column = le 2 v.column in
    let kind = column ++ le 2 v.kind in
    let len = kind ++ le 4 v.len in
    let low : v.kind % 256 ≡ v.kind = omega arith in
    let high : v.kind / 256 % 256 ≡ 0 = omega arith in
    then l len (le 8 v.word) 0 8
    (then l kind (le 4 v.len) 0 4
    (then l column (le 2 v.kind) 0 2 c.put_u16.ensures refl c.put_u16-2.ensures)
    refl c.put_u32.ensures)
    refl c.put_u64.ensures
    ∙ sets_whole l (len ++ le 8 v.word) c.requires
    ∙ rw (low, high)
