-- The records that a plain walk goes through where nothing refuses it, in order, each as often as the walk comes to it; and the value by them.
use Rattle.std.specs.Prelude.{◌≡◌, refl, List, [], ◌∷◌, ◌++◌}
use Rattle.std.proofs.Math.Path.{ap}
use Rattle.std.proofs.Common.{◌∙◌}
use Rattle.std.proofs.Math.Option.{Option, none, some}
use Prim.Native.Nat.{ℕ, zero, suc, ◌+◌}
use Rattle.tree_walk.specs.declared.Parts.{Parts}
use Rattle.tree_walk.specs.Tree.{Out, went, found, parts, through}
use Rattle.tree_walk.specs.Levels.{refused_not_went, both_went}
use Rattle.tree_walk.specs.Widen.{all}

unfoldable pub parts_reached : (ℕ → List ℕ) → ℕ → ℕ → List ℕ
parts_reached part zero n = []
parts_reached part (suc c) n = part n ++ parts_reached part c (n + 1)

abbrev pub found_reached : Option Parts → ℕ → (Parts → List ℕ) → List ℕ
found_reached none n f = []
found_reached (some r) n f = n ∷ f r

unfoldable pub reached : (ℕ → Option Parts) → ℕ → ℕ → List ℕ
reached get zero n = []
reached get (suc k) n = found_reached (get n) n (λ r. parts_reached (reached get k) r.count r.first)

all_append : {S W : Type 0} (widen : W → S → S) (xs ys : List W) (b : S) → all widen (xs ++ ys) b ≡ all widen ys (all widen xs b)
unfolding all
all_append widen [] ys b = refl
all_append widen (x ∷ xs) ys b = all_append widen xs ys (widen x b)

module _ {S : Type 0} (get : ℕ → Option Parts) (own : ℕ → S → S) where
  parts-joined : (p : ℕ → S → Out S) (q : ℕ → List ℕ) → ((n : ℕ) (b e : S) → p n b ≡ went e → all own (q n) b ≡ e)
      → (c n : ℕ) (b e : S) → parts p c n b ≡ went e → all own (parts_reached q c n) b ≡ e
  unfolding parts parts_reached all
  parts-joined p q h zero n b e g = cc
  parts-joined p q h (suc c) n b e g =
      let t = both_went (p n b) (parts p c (n + 1)) e g in
      all_append own (q n) (parts_reached q c (n + 1)) b ∙ ap (all own (parts_reached q c (n + 1))) (h n b t.0 t.1)
      ∙ parts-joined p q h c (n + 1) t.0 e t.2

  found-joined : (p : ℕ → S → Out S) (q : ℕ → List ℕ) → ((n : ℕ) (b e : S) → p n b ≡ went e → all own (q n) b ≡ e)
      → (o : Option Parts) (n : ℕ) (b e : S) → found o (λ r. parts p r.count r.first (own n b)) ≡ went e
      → all own (found_reached o n (λ r. parts_reached q r.count r.first)) b ≡ e
  unfolding all
  found-joined p q h none n b e g = absurd (refused_not_went g)
  found-joined p q h (some r) n b e g = parts-joined p q h r.count r.first (own n b) e g

  -- the value is that of the records reached, one after the other
  pub joined : (k n : ℕ) (b e : S) → through get own k n b ≡ went e → all own (reached get k n) b ≡ e
  unfolding through reached
  joined zero n b e g = absurd (refused_not_went g)
  joined (suc k) n b e g = found-joined (through get own k) (reached get k) (joined k) (get n) n b e g
