-- How a loop over a list takes its pairs, by the place that it has come to.
use Rattle.std.specs.Prelude.{◌≡◌, refl, List, [], ◌∷◌, ℕ, zero, suc, ◌+◌, ◌*◌, ◌<◌, ◌≤◌, length, get_or, drop}
use Rattle.std.specs.Simd.{first_chunks}
use Rattle.std.proofs.Common.{arith, length-drop, drop-cons}
use Rattle.bbox.specs.declared.Box.{Box}
use Rattle.bbox.specs.Box.{widen, box_from}

pub pair-taken : (b : Box) (ws : List ℕ) (i : ℕ) → i + 1 < length ws
    → box_from b (drop i ws) ≡ box_from (widen b (get_or ws i 0) (get_or ws (i + 1) 0)) (drop (i + 2) ws)
unfolding box_from
pair-taken b ws i h =
    let h₀ : i < length ws = omega arith in
    let h₁ : suc i < length ws = omega arith in
    let e : i + 1 ≡ suc i = omega arith in
    let e₂ : i + 2 ≡ suc (suc i) = omega arith in
    rw (drop-cons ws i 0, drop-cons ws (suc i) 0, e, e₂)

no_pair_lem : (b : Box) (ws : List ℕ) → length ws < 2 → box_from b ws ≡ b
unfolding box_from
no_pair_lem b [] h = refl
no_pair_lem b (x ∷ []) h = refl
no_pair_lem b (x ∷ y ∷ ws) h = absurd (too_long h)
  where
    too_long : suc (suc (length ws)) < 2 → ⊥
    too_long h = omega arith

pub pairs-done : (b : Box) (ws : List ℕ) (i : ℕ) → length ws ≤ i + 1 → box_from b (drop i ws) ≡ b
pairs-done b ws i h = no_pair_lem b (drop i ws) (omega (arith, length-drop i ws))

-- where the list is cut into pairs, each has the two words at its place
pub pair-cut : (ws : List ℕ) (k i : ℕ) → i < k → 2 * i + 1 < length ws
    → (get_or (get_or (first_chunks 2 k ws) i []) 0 0 ≡ get_or ws (2 * i) 0) × (get_or (get_or (first_chunks 2 k ws) i []) 1 0 ≡ get_or ws (2 * i + 1) 0)
pair-cut ws zero i h l = absurd (omega arith)
pair-cut [] (suc k) i h l = absurd (omega arith)
pair-cut (x ∷ []) (suc k) i h l = absurd (omega arith)
pair-cut (x ∷ y ∷ ws) (suc k) zero h l = (refl, refl)
pair-cut (x ∷ y ∷ ws) (suc k) (suc i) h l =
    let first : 2 * suc i ≡ suc (suc (2 * i)) = omega arith in
    let second : 2 * suc i + 1 ≡ suc (suc (2 * i + 1)) = omega arith in
    rw (second, first) (pair-cut ws k i (omega arith) (omega arith))
