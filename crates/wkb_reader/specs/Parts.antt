-- What each function of the reader answers for.
use Rattle.std.specs.Prelude.{◌≡◌, ℕ, ◌≤◌, Result}
use Rattle.std.proofs.Common.{Ok, Err}
use Rattle.laws.specs.Script.{stop}
use Rattle.kinds.specs.declared.refusal.Refusal.{Refusal}
use Rattle.kinds.specs.Refusal.{number_of}
use Rattle.wkb.specs.declared.order.Order.{Order}
use Rattle.wkb_reader.specs.Reading.{Next, Reads, type_r, head_r}
use Rattle.wkb_reader.specs.declared.input.Input.{Input}
use Rattle.wkb_reader.specs.declared.head.Head.{Head}

-- a type: what it is refused with, or itself
abbrev pub TypeIs : Order → ℕ → ℕ → Input → Input → Result ℕ Refusal → Type 0
TypeIs order least most i j (Ok type) =
    (least ≤ type) × (type ≤ most)
    × ((f : Order → ℕ → Reads) (next : Next) → type_r least most f order i.left.now next ≡ f order type j.left.now next)
TypeIs order least most i j (Err e) = (f : Order → ℕ → Reads) (next : Next) → type_r least most f order i.left.now next ≡ stop (number_of e)

-- a head: what it is refused with, or its order and type
abbrev pub HeadIs : ℕ → ℕ → Input → Input → Result Head Refusal → Type 0
HeadIs least most i j (Ok head) =
    (least ≤ head.kind) × (head.kind ≤ most)
    × ((f : Order → ℕ → Reads) (next : Next) → head_r least most f i.left.now next ≡ f head.order head.kind j.left.now next)
HeadIs least most i j (Err e) = (f : Order → ℕ → Reads) (next : Next) → head_r least most f i.left.now next ≡ stop (number_of e)
