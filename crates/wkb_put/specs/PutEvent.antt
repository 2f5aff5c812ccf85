-- What an event adds, and what stands around the next one, by what the code finds its kind to be.
use Rattle.std.specs.Prelude.{None, ◌≡◌, refl, Bool, true, false, cond, [], ◌++◌, ◌-◌}
use Rattle.std.proofs.Common.{sym, ap, ap₂, ◌∙◌, ne_eqb}
use Rattle.kinds.specs.declared.event.Event.{Event}
use Rattle.nesting.specs.declared.geometry_type.GeometryType.{GeometryType}
use Rattle.nesting.specs.Events.{begin}
use Rattle.nesting.specs.Machine.{number}
use Rattle.nesting.specs.Flat.{is_type, read_as, read}
use Rattle.nesting.specs.Taking.{OfNumber}
use Rattle.nesting.proofs.FlatReads.{no_type, reads_begin, reads_pair}
use Rattle.wkb_written.specs.declared.around.Around.{Around}
use Rattle.wkb_written.specs.Spelling.{head_bytes, pair_of, after, begin_bytes, bytes_of}
use Rattle.wkb_put.specs.Put.{laid_of, later_than}

module _ (k : Around) (e : Event) where
  -- ---- a begin
  pub laid-begin : (kind : GeometryType) → e.kind ≡ number kind → laid_of k e ≡ begin_bytes k kind e.tagged e.size
  unfolding laid_of
  laid-begin kind h = ap (bytes_of k) (reads_begin e kind h)

  pub later-begin : (kind : GeometryType) → e.kind ≡ number kind → after k (begin kind e.tagged e.size e.idx) ≡ later_than k e
  unfolding later_than
  later-begin kind h = ap (after k) (sym (reads_begin e kind h))

  -- ---- a pair
  pair-bytes : e.kind ≡ 64 → laid_of k e ≡ cond k.points (head_bytes 1 ++ pair_of e.x e.y) (pair_of e.x e.y)
  unfolding laid_of
  pair-bytes h = ap (bytes_of k) (reads_pair e h)

  pub laid-point : e.kind ≡ 64 → k.points ≡ true → laid_of k e ≡ head_bytes 1 ++ pair_of e.x e.y
  laid-point h p = pair-bytes h ∙ ap (λ (b : Bool). cond b (head_bytes 1 ++ pair_of e.x e.y) (pair_of e.x e.y)) p

  pub laid-pair : e.kind ≡ 64 → k.points ≡ false → laid_of k e ≡ pair_of e.x e.y
  laid-pair h p = pair-bytes h ∙ ap (λ (b : Bool). cond b (head_bytes 1 ++ pair_of e.x e.y) (pair_of e.x e.y)) p

  pub later-pair : e.kind ≡ 64 → k ≡ later_than k e
  unfolding later_than
  later-pair h = ap (after k) (sym (reads_pair e h))

  -- ---- what adds nothing
  other-read : OfNumber e.kind None → (e.kind ≡ 64 → ⊥) → read e ≡ read_as false (is_type (e.kind - 32)) false e
  other-read none other = ap₂ (λ (b c : Bool). read_as b (is_type (e.kind - 32)) c e) (no_type e.kind none) (ne_eqb e.kind 64 other)

  pub laid-nothing : OfNumber e.kind None → (e.kind ≡ 64 → ⊥) → laid_of k e ≡ []
  unfolding laid_of
  laid-nothing none other = ap (bytes_of k) (other-read none other) ∙ go (is_type (e.kind - 32))
    where
      go : (ends : Bool) → bytes_of k (read_as false ends false e) ≡ []
      go true = refl
      go false = refl

  pub later-same : OfNumber e.kind None → (e.kind ≡ 64 → ⊥) → k ≡ later_than k e
  unfolding later_than
  later-same none other = go (is_type (e.kind - 32)) ∙ ap (after k) (sym (other-read none other))
    where
      go : (ends : Bool) → k ≡ after k (read_as false ends false e)
      go true = refl
      go false = refl
