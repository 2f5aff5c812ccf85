-- No record's own words are looked at twice: a walk whose value is how often each record's words were looked at.
use Rattle.std.specs.Prelude.{cond, eqb}
use Prim.Native.Nat.{ℕ, ◌+◌}

-- how often each record's own words were looked at
abbrev pub Looks : Type 0
Looks = ℕ → ℕ

unfoldable pub look : ℕ → Looks → Looks
look n f = λ x. cond (eqb x n) (f x + 1) (f x)
