-- What comes first at a record: 13, then 10, then what is its own, then its parts.
use Rattle.std.specs.Prelude.{◌≡◌, ℕ, suc}
use Rattle.std.proofs.Math.Path.{refl, ap}
use Rattle.std.proofs.Math.Option.{Option, none, some}
use Rattle.tree_walk.specs.declared.Parts.{Parts}
use Rattle.tree_walk.specs.Tree.{Out, refused, found, parts, through}

module _ {S : Type 0} (get : ℕ → Option Parts) (own : ℕ → S → S) (n : ℕ) (b : S) where
  pub level_first : through get own 0 n b ≡ refused 13
  unfolding through
  level_first = refl

  abbrev at : ℕ → Option Parts → Out S
  at k o = found o (λ r. parts (through get own k) r.count r.first (own n b))

  pub bad_next : (k : ℕ) → get n ≡ none → through get own (suc k) n b ≡ refused 10
  unfolding through
  bad_next k e = ap (at k) e

  pub own_first : (k : ℕ) (r : Parts) → get n ≡ some r → through get own (suc k) n b ≡ parts (through get own k) r.count r.first (own n b)
  unfolding through
  own_first k r e = ap (at k) e
