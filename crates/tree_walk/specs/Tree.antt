-- The order in which a walk goes through a tree of records, over any value: the plain recursion. Nothing is remembered.
use Rattle.std.proofs.Math.Option.{Option, none, some}
use Rattle.std.specs.Prelude.{ℕ, zero, suc, ◌+◌}
use Rattle.tree_walk.specs.declared.Parts.{Parts}

-- a refusal's number, or the value after the walk
pub data Out (S : Type 0) : Type 0 where
  refused : ℕ → Out S
  went : S → Out S

-- the second after the first, unless the first refuses
abbrev pub then : {S : Type 0} → Out S → (S → Out S) → Out S
then (refused c) f = refused c
then (went b) f = f b

-- a record's parts, or 10 for a bad record
abbrev pub found : {S : Type 0} → Option Parts → (Parts → Out S) → Out S
found none f = refused 10
found (some r) f = f r

-- so many parts in order, from number n on
unfoldable pub parts : {S : Type 0} → (ℕ → S → Out S) → ℕ → ℕ → S → Out S
parts part zero n b = went b
parts part (suc c) n b = then (part n b) (parts part c (n + 1))

-- Record n with so many levels left, its own among them: with none 13, before 10 is judged; then what is its own, then each part.
unfoldable pub through : {S : Type 0} → (ℕ → Option Parts) → (ℕ → S → S) → ℕ → ℕ → S → Out S
through get own zero n b = refused 13
through get own (suc k) n b = found (get n) (λ r. parts (through get own k) r.count r.first (own n b))
