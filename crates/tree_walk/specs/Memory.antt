-- The walk with a memory: for each record a mark, the levels that were left, its own among them, when it was last walked through without refusal; at
-- first a number that is none of 1 to 16. A record that was walked through as deep as this, or deeper, is skipped; so each walk through it is deeper
-- than the one before. Of a record that was walked through at all, what is its own is skipped.
use Rattle.std.specs.Prelude.{Bool, cond, ◌&&◌, List, ℕ, zero, suc, ◌+◌, leb, ltb, get_or, set}
use Rattle.std.proofs.Math.Option.{Option, none, some}
use Rattle.tree_walk.specs.declared.Parts.{Parts}

-- a number, the value so far, the marks, and how many records were entered
pub data Left (S : Type 0) : Type 0 where
  left : ℕ → S → List ℕ → ℕ → Left S

-- the second after the first, unless the first refuses
abbrev pub next : {S : Type 0} → Left S → (S → List ℕ → ℕ → Left S) → Left S
next (left zero b m v) f = f b m v
next (left (suc c) b m v) f = left (suc c) b m v

-- whether a record with such a mark was walked through with so many levels left, or fewer
abbrev pub skips : ℕ → ℕ → Bool
skips mark levels = ltb 0 mark && leb mark levels

-- whether it was walked through at all
abbrev pub is_mark : ℕ → Bool
is_mark mark = skips mark 16

unfoldable pub parts_kept : {S : Type 0} → (ℕ → S → List ℕ → ℕ → Left S) → ℕ → ℕ → S → List ℕ → ℕ → Left S
parts_kept part zero n b m v = left 0 b m v
parts_kept part (suc c) n b m v = next (part n b m v) (parts_kept part c (n + 1))

abbrev pub found_kept : {S : Type 0} → Option Parts → S → List ℕ → ℕ → (Parts → Left S) → Left S
found_kept none b m v f = left 10 b m v
found_kept (some r) b m v f = f r

abbrev pub own_once : {S : Type 0} → (ℕ → S → S) → ℕ → ℕ → S → S
own_once own mark n b = cond (is_mark mark) b (own n b)

-- behind the parts the mark is set
abbrev pub marking : {S : Type 0} → ℕ → ℕ → S → List ℕ → ℕ → Left S
marking n levels b m v = left 0 b (set m n levels) v

-- a record that is not skipped, its parts walked by `part`
unfoldable pub walked : {S : Type 0} → (ℕ → Option Parts) → (ℕ → S → S) → (ℕ → S → List ℕ → ℕ → Left S) → ℕ → ℕ → S → List ℕ → ℕ → Left S
walked get own part levels n b m v =
    found_kept (get n) b m v (λ r. next (parts_kept part r.count r.first (own_once own (get_or m n 0) n b) m v) (marking n levels))

-- `tick` counts a record that is entered, good or bad, skipped or not
unfoldable pub kept : {S : Type 0} → (ℕ → ℕ) → (ℕ → Option Parts) → (ℕ → S → S) → ℕ → ℕ → S → List ℕ → ℕ → Left S
kept tick get own zero n b m v = left 13 b m (tick v)
kept tick get own (suc k) n b m v =
    cond (skips (get_or m n 0) (suc k)) (left 0 b m (tick v)) (walked get own (kept tick get own k) (suc k) n b m (tick v))

-- no count is kept
abbrev pub uncounted : ℕ → ℕ
uncounted v = 0
