-- The parts of a geometry: those without an order mark, and how deep they may be.
use Rattle.std.specs.Prelude.{◌≡◌, refl, List, [], ◌∷◌, ℕ, suc, ◌≤◌}
use Rattle.std.proofs.Common.{ap, arith}
use Rattle.planar.specs.Fits.{Each, Row}
use Rattle.planar.specs.Levels.{deepest}
use Rattle.wkb.specs.Wkb.{Lays, joined, joined_in}

-- ---- what has no order mark: one law for things with orders serves it too, where the orders are units
abbrev pub free : {A : Type 0} → A → Type 0
free a = Unit {0}

abbrev pub frees : {A : Type 0} (xs : List A) → Each free xs
frees [] = tt
frees (a ∷ xs) = (tt, frees xs)

pub joined_free : {A : Type 0} (f : A → Lays) (xs : List A) (os : Each free xs) (l : List ℕ) → joined_in free (λ a o. f a) xs os l ≡ joined f xs l
joined_free f [] os l = refl
joined_free f (a ∷ xs) os l = ap (f a) (joined_free f xs os.1 l)

-- ---- with so many levels left: the parts of a geometry have one less
abbrev pub Within : {A : Type 0} → (A → Type 0) → (A → ℕ) → ℕ → A → Type 0
Within P depth left a = P a × (depth a ≤ left)

module _ {A : Type 0} (P : A → Type 0) (depth : A → ℕ) (left : ℕ) where
  all_within : (xs : List A) → Each P xs → deepest depth xs ≤ left → Each (Within P depth left) xs
  all_within [] ps h = tt
  all_within (a ∷ xs) ps h = ((ps.0, omega arith), all_within xs ps.1 (omega arith))

  pub row_within : (xs : List A) → Row P xs → suc (deepest depth xs) ≤ suc left → Row (Within P depth left) xs
  row_within xs ps h = (ps.0, all_within xs ps.1 (omega arith))

  each_fits : (xs : List A) → Each (Within P depth left) xs → Each P xs
  each_fits [] ps = tt
  each_fits (a ∷ xs) ps = (ps.0.0, each_fits xs ps.1)

  each_below : (xs : List A) → Each (Within P depth left) xs → deepest depth xs ≤ left
  each_below [] ps = omega arith
  each_below (a ∷ xs) ps = omega (arith, ps.0.1, each_below xs ps.1)

  pub row-around : (xs : List A) → Row (Within P depth left) xs → Row P xs × (suc (deepest depth xs) ≤ suc left)
  row-around xs ps = ((ps.0, each_fits xs ps.1), omega (arith, each_below xs ps.1))
