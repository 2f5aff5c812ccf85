use mathlib.Core.Path.{◌≡◌, refl, sym, ap, ◌∙◌}
use Prim.Native.Nat.{ℕ, ◌+◌, ◌-◌}
use native.Mathlib.Omega.{arith}
use lib.ListN.{take, drop}
use Rattle.laws.specs.Cond.{if_so}
use Rattle.bbox.specs.Box.{box_from}
use Rattle.record_box.proofs.own_once.Goals as goal

pub returns-then-is_clear : goal.returns-then-is_clear
returns-then-is_clear c = if_so _ (sym c.is_clear.ensures ∙ c.if-is_clear.true) refl

pub slice_bounds-widened_by-end : goal.slice_bounds-widened_by-end
slice_bounds-widened_by-end c = omega (arith, (rw c.in-Some.is at c.requires).0)

pub returns-in-None : goal.returns-in-None
returns-in-None c = unfold box_from in rw (sym c.is_clear.ensures ∙ c.if-is_clear.false, c.in-None.is)

pub returns-in-Some : goal.returns-in-Some
returns-in-Some c =
    let from = c.in-Some.field-0.start in
    let count = c.in-Some.field-0.count in
    let wide : from + count - from ≡ count = omega arith in
    let a = c.args in
    rw (sym c.is_clear.ensures ∙ c.if-is_clear.false, c.in-Some.is) (c.widened_by.ensures ∙ ap (λ (n : ℕ). box_from a.around (take n (drop from a.xy.now))) wide)
