-- The steps of the walk with a memory, as code takes them.
use Rattle.std.specs.Prelude.{◌≡◌, refl, Bool, true, false, List, get_or}
use Rattle.std.proofs.Common.{sym, ◌∙◌}
use Rattle.std.proofs.Math.Path.{ap}
use Rattle.std.proofs.Math.Bool.{cond}
use Rattle.std.proofs.Math.Option.{Option, none, some}
use Prim.Native.Nat.{ℕ, zero, suc, ◌+◌, ◌-◌, ◌<◌, ◌≤◌}
use native.Mathlib.Omega.{arith}
use Rattle.tree_walk.specs.declared.Parts.{Parts}
use Rattle.tree_walk.specs.Memory.{Left, left, next, skips, parts_kept, found_kept, own_once, marking, walked, kept}

-- ---- a record is entered
module _ {S : Type 0} (tick : ℕ → ℕ) (get : ℕ → Option Parts) (own : ℕ → S → S) (levels n : ℕ) (b : S) (m : List ℕ) (v : ℕ) where
  pub at-depth : levels ≡ 0 → kept tick get own levels n b m v ≡ left 13 b m (tick v)
  unfolding kept
  at-depth h = ap (λ (k : ℕ). kept tick get own k n b m v) h

  module _ (h : levels ≡ 0 → ⊥) where
    abbrev by_mark : Bool → Left S
    by_mark t = cond t (left 0 b m (tick v)) (walked get own (kept tick get own (levels - 1)) levels n b m (tick v))

    entered : kept tick get own levels n b m v ≡ by_mark (skips (get_or m n 0) levels)
    unfolding kept
    entered = go levels h
      where
        go : (k : ℕ) → (k ≡ 0 → ⊥)
            → kept tick get own k n b m v ≡ cond (skips (get_or m n 0) k) (left 0 b m (tick v)) (walked get own (kept tick get own (k - 1)) k n b m (tick v))
        go zero h = absurd (h refl)
        go (suc k) h = let e : suc k - 1 ≡ k = omega arith in rw e

    pub at_skip : skips (get_or m n 0) levels ≡ true → kept tick get own levels n b m v ≡ left 0 b m (tick v)
    at_skip f = entered ∙ ap by_mark f

    pub at_record : skips (get_or m n 0) levels ≡ false
        → kept tick get own levels n b m v ≡ walked get own (kept tick get own (levels - 1)) levels n b m (tick v)
    at_record f = entered ∙ ap by_mark f

-- ---- a record that is not skipped
module _ {S : Type 0} (get : ℕ → Option Parts) (own : ℕ → S → S) (part : ℕ → S → List ℕ → ℕ → Left S) (levels n : ℕ) (b : S) (m : List ℕ) (v : ℕ) where
  abbrev in_record : Option Parts → Left S
  in_record o = found_kept o b m v (λ r. next (parts_kept part r.count r.first (own_once own (get_or m n 0) n b) m v) (marking n levels))

  pub in_bad : get n ≡ none → walked get own part levels n b m v ≡ left 10 b m v
  unfolding walked
  in_bad e = ap in_record e

  pub in_good : (r : Parts) → get n ≡ some r → {s : S} → s ≡ own_once own (get_or m n 0) n b
      → walked get own part levels n b m v ≡ next (parts_kept part r.count r.first s m v) (marking n levels)
  unfolding walked
  in_good r e o = ap in_record e ∙ rw (sym o)

-- ---- the turns of the loop over the parts, up to a number: X is what the whole gives, F what is done behind the parts
module _ {S : Type 0} {X : Left S} (K : ℕ → S → List ℕ → ℕ → Left S) (F : S → List ℕ → ℕ → Left S) (end part : ℕ) (b : S) (m : List ℕ) (v : ℕ)
    (x : X ≡ next (parts_kept K (end - part) part b m v) F) where
  abbrev rest : S → List ℕ → ℕ → Left S
  rest e m' u = next (parts_kept K (end - (part + 1)) (part + 1) e m' u) F

  one_more_lem : part < end → parts_kept K (end - part) part b m v ≡ next (K part b m v) (parts_kept K (end - (part + 1)) (part + 1))
  unfolding parts_kept
  one_more_lem h =
      let e : end - part ≡ suc (end - (part + 1)) = omega arith in
      rw e

  next-next : (l : Left S) (f g : S → List ℕ → ℕ → Left S) → next (next l f) g ≡ next l (λ e m' u. next (f e m' u) g)
  next-next (left zero e m' u) f g = refl
  next-next (left (suc c) e m' u) f g = refl

  in_turn : part < end → X ≡ next (K part b m v) rest
  in_turn h = x ∙ ap (λ (l : Left S). next l F) (one_more_lem h) ∙ next-next (K part b m v) (parts_kept K (end - (part + 1)) (part + 1)) F

  module _ {c : ℕ} {e : S} {m' : List ℕ} {u : ℕ} (h : part < end) (k : K part b m v ≡ left c e m' u) where
    pub went_on : c ≡ 0 → X ≡ next (parts_kept K (end - (part + 1)) (part + 1) e m' u) F
    went_on z = in_turn h ∙ ap (λ (l : Left S). next l rest) (k ∙ ap (λ (w : ℕ). left w e m' u) z)

    pub broke_off : (c ≡ 0 → ⊥) → X ≡ left c e m' u
    broke_off z = in_turn h ∙ ap (λ (l : Left S). next l rest) k ∙ stays c z
      where
        stays : (c : ℕ) → (c ≡ 0 → ⊥) → next (left c e m' u) rest ≡ left c e m' u
        stays zero z = absurd (z refl)
        stays (suc c) z = refl

  pub came-through : end ≤ part → X ≡ F b m v
  unfolding parts_kept
  came-through h = let e : end - part ≡ 0 = omega arith in x ∙ rw e
