use mathlib.Core.List.{List}
use mathlib.Core.Path.{refl, sym, ap, ◌∙◌}
use Prim.Native.Nat.{ℕ, ◌%◌, ◌/◌}
use lib.Seq.{sets}
use Rattle.laws.specs.Runs.{then}
use Rattle.laws.specs.Bytes.{le, halves}
use Rattle.numbers.proofs.little_endian.put_u64.Goals as goal

pub returns : goal.returns
returns c =
    let a = c.args in
    then a.s.now (le 4 (a.v % 4294967296)) (le 4 (a.v / 4294967296)) a.at 4 c.put_u32.ensures refl c.put_u32-2.ensures
    ∙ ap (λ (vs : List ℕ). sets a.s.now a.at vs) (sym (halves a.v))
