-- Something said of each member of a list, numbered from a number on.
use Rattle.std.specs.Prelude.{List, [], ◌∷◌, ◌++◌, ◌≡◌, ℕ, ◌+◌, ◌≤◌, ◌<◌, length}
use Rattle.std.proofs.Common.{arith}

abbrev pub Each : {A : Type 0} → (ℕ → A → Type 0) → ℕ → List A → Type 0
Each P n [] = Unit {0}
Each P n (a ∷ l) = P n a × Each P (n + 1) l

pub each-still : {A : Type 0} (P Q : ℕ → A → Type 0) (n : ℕ) (l : List A) → ((i : ℕ) (a : A) → n ≤ i → i < n + length l → P i a → Q i a) → Each P n l → Each Q n l
each-still P Q n [] f h = tt
each-still P Q n (a ∷ l) f h =
    (f n a (omega arith) (omega arith) h.0, each-still P Q (n + 1) l (λ i b p q. f i b (omega arith) (omega arith)) h.1)

pub each_snoc : {A : Type 0} (P : ℕ → A → Type 0) (n m : ℕ) (l : List A) (a : A) → m ≡ n + length l → Each P n l → P m a → Each P n (l ++ (a ∷ []))
each_snoc P n m [] a e h p = let z : m ≡ n = omega arith in (rw z at p, tt)
each_snoc P n m (b ∷ l) a e h p = (h.0, each_snoc P (n + 1) m l a (omega arith) h.1 p)
