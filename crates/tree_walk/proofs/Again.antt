-- A record that was walked through moves nothing when it is walked through again, at any later value.
use Rattle.std.specs.Prelude.{◌≡◌}
use Rattle.std.proofs.Math.Path.{refl, ap, subst}
use Rattle.std.proofs.Common.{◌∙◌}
use Rattle.std.proofs.Math.Option.{Option, none, some}
use Prim.Native.Nat.{ℕ, zero, suc, ◌+◌}
use Rattle.tree_walk.specs.declared.Parts.{Parts}
use Rattle.tree_walk.specs.Tree.{Out, went, then, found, parts, through}
use Rattle.tree_walk.specs.Levels.{refused_not_went, both_went}
use Rattle.tree_walk.specs.Widen.{Growing}

module _ {S : Type 0} {own : ℕ → S → S} (G : Growing S own) where
  -- from b to e: e is above b, and from any value above e nothing is moved and nothing refused
  pub record Passed (f : S → Out S) (b e : S) : Type 0 where
    pub above : G.Above b e
    pub later : (c : S) → G.Above e c → f c ≡ went c

  parts-passed : (p : ℕ → S → Out S) → ((n : ℕ) (b e : S) → p n b ≡ went e → Passed (p n) b e)
      → (c n : ℕ) (b e : S) → parts p c n b ≡ went e → Passed (parts p c n) b e
  unfolding parts
  parts-passed p h zero n b e g = record { above = done e g; later = λ c k. refl }
    where
      done : (e : S) → went b ≡ went e → G.Above b e
      done e g = let q : b ≡ e = cc in subst (G.Above b) q (G.same b)
  parts-passed p h (suc c) n b e g =
      let t = both_went (p n b) (parts p c (n + 1)) e g in
      let one = h n b t.0 t.1 in
      let rest = parts-passed p h c (n + 1) t.0 e t.2 in
      record {
        above = G.join one.above rest.above;
        later = λ d k. ap (λ (o : Out S). then o (parts p c (n + 1))) (one.later d (G.join rest.above k)) ∙ rest.later d k;
      }

  module _ (get : ℕ → Option Parts) where
    found_passed : (p : ℕ → S → Out S) → ((n : ℕ) (b e : S) → p n b ≡ went e → Passed (p n) b e)
        → (o : Option Parts) (n : ℕ) (b e : S) → found o (λ r. parts p r.count r.first (own n b)) ≡ went e
        → Passed (λ c. found o (λ r. parts p r.count r.first (own n c))) b e
    found_passed p h none n b e g = absurd (refused_not_went g)
    found_passed p h (some r) n b e g =
        let in_parts = parts-passed p h r.count r.first (own n b) e g in
        record {
          above = G.join (G.grows n b) in_parts.above;
          later = λ c k.
              ap (parts p r.count r.first) (G.again n b c (G.join in_parts.above k)) ∙ in_parts.later c k;
        }

    pub passed : (left n : ℕ) (b e : S) → through get own left n b ≡ went e → Passed (through get own left n) b e
    unfolding through
    passed zero n b e g = absurd (refused_not_went g)
    passed (suc left) n b e g = found_passed (through get own left) (passed left) (get n) n b e g

    -- a record whose walk moves nothing has no words of its own that would
    pub own_moves_none : (left n : ℕ) (b : S) → through get own left n b ≡ went b → own n b ≡ b
    unfolding through
    own_moves_none zero n b g = absurd (refused_not_went g)
    own_moves_none (suc left) n b g = go (get n) g
      where
        go : (o : Option Parts) → found o (λ r. parts (through get own left) r.count r.first (own n b)) ≡ went b → own n b ≡ b
        go none h = absurd (refused_not_went h)
        go (some r) h = G.again n b b (parts-passed (through get own left) (passed left) r.count r.first (own n b) b h).above
