-- What a walk is refused does not depend on the value that it begins with.
use Rattle.std.specs.Prelude.{◌≡◌, refl}
use Rattle.std.proofs.Math.Path.{ap}
use Rattle.std.proofs.Common.{◌∙◌}
use Rattle.std.proofs.Math.Option.{Option, none, some}
use Prim.Native.Nat.{ℕ, zero, suc, ◌+◌}
use Rattle.tree_walk.specs.declared.Parts.{Parts}
use Rattle.tree_walk.specs.Tree.{Out, went, then, found, parts, through}
use Rattle.tree_walk.specs.Levels.{refused_not_went, both_went}

module _ {S : Type 0} where
  abbrev Goes : (S → Out S) → S → Type 0
  Goes f d = (c : S) × (f d ≡ went c)

  parts_anywhere : (p : ℕ → S → Out S) → ((n : ℕ) (b e d : S) → p n b ≡ went e → Goes (p n) d)
      → (c n : ℕ) (b e d : S) → parts p c n b ≡ went e → Goes (parts p c n) d
  unfolding parts
  parts_anywhere p h zero n b e d g = (d, refl)
  parts_anywhere p h (suc c) n b e d g =
      let t = both_went (p n b) (parts p c (n + 1)) e g in
      let one = h n b t.0 d t.1 in
      let rest = parts_anywhere p h c (n + 1) t.0 e one.0 t.2 in
      (rest.0, ap (λ (o : Out S). then o (parts p c (n + 1))) one.1 ∙ rest.1)

  found_anywhere : (p : ℕ → S → Out S) → ((n : ℕ) (b e d : S) → p n b ≡ went e → Goes (p n) d)
      → (o : Option Parts) (b e d : S) → found o (λ r. parts p r.count r.first b) ≡ went e → Goes (λ x. found o (λ r. parts p r.count r.first x)) d
  found_anywhere p h none b e d g = absurd (refused_not_went g)
  found_anywhere p h (some r) b e d g = parts_anywhere p h r.count r.first b e d g

  pub anywhere : (get : ℕ → Option Parts) (own : ℕ → S → S) (k n : ℕ) (b e d : S) → through get own k n b ≡ went e → Goes (through get own k n) d
  unfolding through
  anywhere get own zero n b e d g = absurd (refused_not_went g)
  anywhere get own (suc k) n b e d g = found_anywhere (through get own k) (anywhere get own k) (get n) (own n b) e (own n d) g
