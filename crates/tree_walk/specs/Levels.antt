-- A walk that refuses nothing gives the same with more levels left.
use Rattle.std.specs.Prelude.{◌≡◌, refl}
use Rattle.std.proofs.Math.Path.{ap}
use Rattle.std.proofs.Common.{◌∙◌, arith}
use Rattle.std.proofs.Math.Option.{Option, none, some}
use Prim.Native.Nat.{ℕ, zero, suc, ◌+◌, ◌≤◌}
use Rattle.tree_walk.specs.declared.Parts.{Parts}
use Rattle.tree_walk.specs.Tree.{Out, refused, went, then, found, parts, through}

pub refused_not_went : {S : Type 0} {c : ℕ} {b : S} → ◌≡◌ {A = Out S} (refused c) (went b) → ⊥
refused_not_went {S} {c} {b} h = let z : ◌≡◌ {A = ℕ} 0 1 = cc in absurd (omega arith)

module _ {S : Type 0} where
  -- what the first of two gave, where both went through
  pub both_went : (o : Out S) (f : S → Out S) (e : S) → then o f ≡ went e → (b : S) × (o ≡ went b) × (f b ≡ went e)
  both_went (refused c) f e h = absurd (refused_not_went h)
  both_went (went b) f e h = (b, refl, h)

  parts_more : (p q : ℕ → S → Out S) → ((n : ℕ) (b e : S) → p n b ≡ went e → q n b ≡ went e)
      → (c n : ℕ) (b e : S) → parts p c n b ≡ went e → parts q c n b ≡ went e
  unfolding parts
  parts_more p q h zero n b e g = g
  parts_more p q h (suc c) n b e g =
      let t = both_went (p n b) (parts p c (n + 1)) e g in
      ap (λ (o : Out S). then o (parts q c (n + 1))) (h n b t.0 t.1) ∙ parts_more p q h c (n + 1) t.0 e t.2

  module _ (get : ℕ → Option Parts) (own : ℕ → S → S) where
    found-more : (p q : ℕ → S → Out S) → ((n : ℕ) (b e : S) → p n b ≡ went e → q n b ≡ went e)
        → (o : Option Parts) (b e : S) → found o (λ r. parts p r.count r.first b) ≡ went e → found o (λ r. parts q r.count r.first b) ≡ went e
    found-more p q h none b e g = g
    found-more p q h (some r) b e g = parts_more p q h r.count r.first b e g

    pub more-levels : (j k n : ℕ) (b e : S) → j ≤ k → through get own j n b ≡ went e → through get own k n b ≡ went e
    unfolding through
    more-levels zero k n b e le g = absurd (refused_not_went g)
    more-levels (suc j) zero n b e le g = absurd (omega arith)
    more-levels (suc j) (suc k) n b e le g =
        found-more (through get own j) (through get own k) (λ x c d. more-levels j k x c d (omega arith)) (get n) (own n b) e g
