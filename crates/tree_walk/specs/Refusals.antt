-- A walk is refused with 13 or with 10, and with no other number.
use Rattle.std.specs.Prelude.{◌≡◌, true, ◌||◌, eqb}
use Rattle.std.proofs.Math.Path.{refl}
use Rattle.std.proofs.Math.Option.{Option, none, some}
use Prim.Native.Nat.{ℕ, zero, suc, ◌+◌}
use Rattle.tree_walk.specs.declared.Parts.{Parts}
use Rattle.tree_walk.specs.Tree.{Out, refused, went, then, found, parts, through}

module _ {S : Type 0} where
  abbrev pub Due : Out S → Type 0
  Due (refused c) = (eqb c 13 || eqb c 10) ≡ true
  Due (went b) = Unit

  then-due : (o : Out S) (f : S → Out S) → Due o → ((b : S) → Due (f b)) → Due (then o f)
  then-due (refused c) f d h = d
  then-due (went b) f d h = h b

  parts-due : (p : ℕ → S → Out S) → ((n : ℕ) (b : S) → Due (p n b)) → (c n : ℕ) (b : S) → Due (parts p c n b)
  unfolding parts
  parts-due p h zero n b = tt
  parts-due p h (suc c) n b = then-due (p n b) (parts p c (n + 1)) (h n b) (λ e. parts-due p h c (n + 1) e)

  found-due : (p : ℕ → S → Out S) → ((n : ℕ) (b : S) → Due (p n b)) → (o : Option Parts) (b : S) → Due (found o (λ r. parts p r.count r.first b))
  found-due p h none b = refl
  found-due p h (some r) b = parts-due p h r.count r.first b

  pub through-due : (get : ℕ → Option Parts) (own : ℕ → S → S) (k n : ℕ) (b : S) → Due (through get own k n b)
  unfolding through
  through-due get own zero n b = refl
  through-due get own (suc k) n b = found-due (through get own k) (through-due get own k) (get n) (own n b)
