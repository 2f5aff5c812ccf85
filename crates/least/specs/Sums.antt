-- Sums over the records of a table.
use Rattle.std.specs.Prelude.{◌≡◌, ℕ, zero, suc, ◌+◌, ◌-◌, ◌≤◌}
use Rattle.std.proofs.Common.{ap, ◌∙◌, arith}
use Rattle.std.proofs.Math.Option.{Option, none, some}
use Rattle.store.specs.Lists.{Rec}
use Rattle.least.specs.Size.{weight, sum_below}

-- the sum of c numbers from n on
abbrev pub sum_from : (ℕ → ℕ) → ℕ → ℕ → ℕ
sum_from f zero n = 0
sum_from f (suc c) n = f n + sum_from f c (n + 1)

pub sum_split : (f : ℕ → ℕ) (c n : ℕ) → sum_below (c + n) f ≡ sum_below n f + sum_from f c n
sum_split f zero n = let e : 0 + n ≡ n = omega arith in rw e (omega arith)
sum_split f (suc c) n =
    let e : suc c + n ≡ c + suc n = omega arith in
    let i : n + 1 ≡ suc n = omega arith in
    rw (e, i) (omega (arith, sum_split f c (suc n)))

pub sum_to : (f : ℕ → ℕ) (n N : ℕ) → n ≤ N → sum_below N f ≡ sum_below n f + sum_from f (N - n) n
sum_to f n N h =
    let e : N ≡ N - n + n = omega arith in
    ap (λ (k : ℕ). sum_below k f) e ∙ sum_split f (N - n) n

abbrev pub weights : (ℕ → Option Rec) → ℕ → ℕ → ℕ
weights get c n = sum_from (λ m. weight (get m)) c n

abbrev pub span_weight : (ℕ → Option Rec) → Option (ℕ × ℕ) → ℕ
span_weight get none = 0
span_weight get (some p) = weights get p.1 p.0
