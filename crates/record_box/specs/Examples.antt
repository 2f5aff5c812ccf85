-- Boxes that are easily mistaken, computed on the definition. Words are patterns, and small ones are doubles in their order.
use Rattle.std.specs.Prelude.{◌≡◌, refl, cond, List, [], ◌∷◌, ℕ, ◌+◌, eqb, leb}
use Rattle.std.proofs.Math.Option.{Option, none, some}
use Rattle.std.specs.Float.Ieee.{of_bits, lt}
use Rattle.store.specs.Lists.{Rec}
use Rattle.tree_walk.specs.Tree.{parts, through}
use Rattle.tree_walk.specs.Records.{parts_by}
use Rattle.bbox.specs.Box.{double, beginning, widen, box_from}
use Rattle.record_box.specs.Boxed.{Boxed, own_box, box_of}

-- the type is not looked at, not even one that no reading follows
abbrev listed : Option (List ℕ) → Option (ℕ × ℕ) → Option Rec
listed xy parts = some (record { kind = 200; xy = xy; ends = none; z = none; m = none; t = none; tm = none; parts = parts })

-- so many parts, from a number on
abbrev group : ℕ → ℕ → Option Rec
group first count = listed none (some (first, count))

abbrev leaf : List ℕ → Option Rec
leaf words = listed (some words) none

abbrev around : ℕ → ℕ → ℕ → ℕ → Boxed
around a b c d = record { number = 0; bbox = record { least_x = double a; least_y = double b; greatest_x = double c; greatest_y = double d } }

abbrev refused_with : ℕ → Boxed
refused_with c = record { number = c; bbox = beginning }

-- a field in two blocks
abbrev blocks : ℕ → Option Rec
blocks n = cond (eqb n 0) (group 1 2) (cond (eqb n 1) (leaf (3 ∷ 4 ∷ 5 ∷ 2 ∷ [])) (leaf (1 ∷ 6 ∷ [])))

pub two_blocks : box_of blocks 0 ≡ around 1 2 5 6
unfolding box_of through parts parts_by own_box box_from widen beginning of_bits lt
two_blocks = refl

-- its own pairs come first: of two zeros the first stays; and an odd last word is left out in every record
abbrev zeros : ℕ → Option Rec
zeros n = cond (eqb n 0) (listed (some (0x8000_0000_0000_0000 ∷ 0 ∷ 9 ∷ [])) (some (1, 1))) (leaf (0 ∷ 0x8000_0000_0000_0000 ∷ 9 ∷ []))

pub first-zero : box_of zeros 0 ≡ around 0x8000_0000_0000_0000 0 0x8000_0000_0000_0000 0
unfolding box_of through parts parts_by own_box box_from widen beginning of_bits lt
first-zero = refl

-- a chain, each record the only part of the one before, and the last of a number
abbrev chain : ℕ → Option Rec → ℕ → Option Rec
chain last end n = cond (leb last n) end (group (n + 1) 1)

pub level_16 : box_of (chain 15 (leaf (1 ∷ 2 ∷ []))) 0 ≡ around 1 2 1 2
unfolding box_of through parts parts_by own_box box_from widen beginning of_bits lt
level_16 = refl

pub level_17 : box_of (chain 16 (leaf (1 ∷ 2 ∷ []))) 0 ≡ refused_with 13
unfolding box_of through parts parts_by
level_17 = refl

-- by record number: from the second record on there are but sixteen
pub from_the_second : box_of (chain 16 (leaf (1 ∷ 2 ∷ []))) 1 ≡ around 1 2 1 2
unfolding box_of through parts parts_by own_box box_from widen beginning of_bits lt
from_the_second = refl

pub bad_at_16 : box_of (chain 15 none) 0 ≡ refused_with 10
unfolding box_of through parts parts_by
bad_at_16 = refl

pub bad_at_17 : box_of (chain 16 none) 0 ≡ refused_with 13
unfolding box_of through parts parts_by
bad_at_17 = refl

-- a bad record beside a chain that is too deep: the first met counts, and what was met before it is not handed out
abbrev beside : ℕ → ℕ → Option Rec
beside bad n = cond (eqb n 0) (group 1 3) (cond (eqb n bad) none (cond (eqb n 2) (group 4 1) (cond (leb n 3) (leaf (1 ∷ 2 ∷ [])) (group (n + 1) 1))))

pub bad_before : box_of (beside 1) 0 ≡ refused_with 10
unfolding box_of through parts parts_by
bad_before = refl

pub bad_behind : box_of (beside 3) 0 ≡ refused_with 13
unfolding box_of through parts parts_by
bad_behind = refl

-- record 20 is clear below record 1, and met again below record 15 its part is at level 17
abbrev again : ℕ → Option Rec
again n = cond (eqb n 0) (group 1 2) (cond (eqb n 1) (group 20 1) (cond (eqb n 15) (group 20 1) (cond (eqb n 21) (leaf []) (group (n + 1) 1))))

pub met_again : box_of again 0 ≡ refused_with 13
unfolding box_of through parts parts_by
met_again = refl
