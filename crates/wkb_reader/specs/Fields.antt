-- What is taken off the front of what is left, or cut short: a field, or the two fields of a pair.
use Rattle.std.specs.Prelude.{◌≡◌, ℕ, ◌<◌, ◌≤◌, length, take, drop, Result}
use Rattle.std.proofs.Common.{Ok, Err}
use Rattle.kinds.specs.declared.event.Xy.{Xy}
use Rattle.kinds.specs.declared.refusal.Refusal.{Refusal}
use Rattle.kinds.specs.declared.refusal.Refusal.TheVariants.{WkbCut}
use Rattle.wkb.specs.Order.{value_of, value_at}
use Rattle.wkb.specs.declared.order.Order.{Order}
use Rattle.wkb_reader.specs.declared.input.Input.{Input}

abbrev pub FieldIs : Order → ℕ → Input → Input → Result ℕ Refusal → Type 0
FieldIs order wide i j (Ok v) = (wide ≤ length i.left.now) × (v ≡ value_of order (take wide i.left.now)) × (j.left.now ≡ drop wide i.left.now)
FieldIs order wide i j (Err e) = (length i.left.now < wide) × (e ≡ WkbCut)

abbrev pub PairIs : Order → Input → Input → Result Xy Refusal → Type 0
PairIs order i j (Ok p) = (16 ≤ length i.left.now) × (p.x ≡ value_at order 8 i.left.now 0) × (p.y ≡ value_at order 8 i.left.now 8) × (j.left.now ≡ drop 16 i.left.now)
PairIs order i j (Err e) = (length i.left.now < 16) × (e ≡ WkbCut)
