-- SPEC 11.18: a tree's size, the records reached from its root and the counts of their lists other than parts. A record that is reached twice counts once.
use Rattle.std.specs.Prelude.{◌≡◌, Bool, false, cond, ◌&&◌, ◌||◌, List, ℕ, zero, suc, ◌+◌, ◌<◌, ◌≤◌, length, leb, ltb, eqb}
use Rattle.std.proofs.Math.Option.{Option, none, some}
use Rattle.store.specs.Lists.{Rec}
use Rattle.lines.specs.Lines.{or_none}

abbrev pub count : Option (List ℕ) → ℕ
count o = length (or_none o)

-- the counts of a record's lists other than parts
unfoldable pub numbers : Rec → ℕ
numbers r = count r.xy + count r.ends + count r.z + count r.m + count r.t + count r.tm

-- a geometry and its numbers; a bad record has none
abbrev pub weight : Option Rec → ℕ
weight none = 1
weight (some r) = 1 + numbers r

abbrev pub in_span : Option (ℕ × ℕ) → ℕ → Bool
in_span none n = false
in_span (some p) n = leb p.0 n && ltb n (p.0 + p.1)

abbrev pub is_part : Option Rec → ℕ → Bool
is_part none n = false
is_part (some r) n = in_span r.parts n

abbrev pub any_below : ℕ → (ℕ → Bool) → Bool
any_below zero f = false
any_below (suc n) f = f n || any_below n f

abbrev pub sum_below : ℕ → (ℕ → ℕ) → ℕ
sum_below zero f = 0
sum_below (suc n) f = f n + sum_below n f

module _ (get : ℕ → Option Rec) where
  -- record n is the root, or a part of a record that is reached in fewer steps; parts stand above their record
  unfoldable pub reached : ℕ → ℕ → Bool
  reached zero n = eqb n 0
  reached (suc steps) n = eqb n 0 || any_below n (λ m. is_part (get m) n && reached steps m)

  unfoldable pub share : ℕ → ℕ → ℕ
  share steps n = cond (reached steps n) (weight (get n)) 0

-- the size of the tree in a table of N records
unfoldable pub size_of : ℕ → (ℕ → Option Rec) → ℕ
size_of N get = sum_below N (share get N)

-- the parts of every record stand above it and within the table
unfoldable pub Sound : ℕ → (ℕ → Option Rec) → Type 0
Sound N get = (n : ℕ) (r : Rec) (p : ℕ × ℕ) → get n ≡ some r → r.parts ≡ some p → (n < p.0) × (p.0 + p.1 ≤ N)
