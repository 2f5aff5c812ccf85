-- No record's own words are looked at twice: a walk whose value is how often each record's words were looked at.
use Rattle.std.specs.Prelude.{◌≡◌, refl, Bool, true, false, cond, List, eqb, length, get_or, set, replicate}
use Rattle.std.proofs.Common.{sym, ◌∙◌, arith, length-set, get_or-set_same, eq-eqb, ne_eqb, eqb-true}
use Rattle.std.proofs.Math.Option.{Option, some}
use Prim.Native.Nat.{ℕ, zero, suc, ◌+◌, ◌<◌, ◌≤◌}
use Rattle.std.proofs.lemmas.List.{length-replicate}
use Rattle.std.proofs.lemmas.Bool.{eqb-false}
use Rattle.tree_walk.specs.declared.Parts.{Parts}
use Rattle.laws.specs.Every.{never}
use Rattle.tree_walk.specs.Memory.{Left, left, next, is_mark, parts_kept, own_once, marking, kept}
use Rattle.tree_walk.specs.Cases.{inside, entering}
use Rattle.tree_walk.proofs.Remembers.{set-mark, set_is_mark}
use Rattle.tree_walk.proofs.Alike.{Like, like, alike}
use Rattle.tree_walk.proofs.Marks.{marked}
use Rattle.tree_walk.specs.Looks.{Looks, look}

look-here : (n : ℕ) (f : Looks) → look n f n ≡ f n + 1
unfolding look
look-here n f = rw (eq-eqb n n refl)

look-there : (n : ℕ) (f : Looks) (x : ℕ) → (x ≡ n → ⊥) → look n f x ≡ f x
unfolding look
look-there n f x h = rw (ne_eqb x n h)

module _ (top : ℕ) where
  record Seen (n : ℕ) (f : Looks) (m : List ℕ) (c : ℕ) (f' : Looks) (m' : List ℕ) : Type 0 where
    long : length m' ≡ top
    under : (x : ℕ) → x < n → f' x ≡ f x
    once : (x : ℕ) → f' x ≤ f x + 1
    spared : (x : ℕ) → marked m x ≡ true → f' x ≡ f x
    after : c ≡ 0 → (x : ℕ) → marked m' x ≡ false → f' x ≡ f x
    stays : c ≡ 0 → (x : ℕ) → marked m x ≡ true → marked m' x ≡ true

  abbrev Sees : ℕ → Looks → List ℕ → Left Looks → Type 0
  Sees n f m (left c f' m' v) = Seen n f m c f' m'

  unseen : (n c : ℕ) (f : Looks) (m : List ℕ) → length m ≡ top → Seen n f m c f m
  unseen n c f m h = record { long = h; under = λ x g. refl; once = λ x. omega arith; spared = λ x g. refl; after = λ z x g. refl; stays = λ z x g. g }

  -- a part and then the others
  second : (n : ℕ) (f f₁ : Looks) (m m₁ : List ℕ) → Seen n f m 0 f₁ m₁ → (l : Left Looks) → Sees (n + 1) f₁ m₁ l → Sees n f m l
  second n f f₁ m m₁ p (left c f₂ m₂ v) q =
      record {
        long = q.long;
        under = λ x h. q.under x (omega arith) ∙ p.under x h;
        once = λ x. by-mark x (marked m₁ x) refl;
        spared = λ x h. q.spared x (p.stays refl x h) ∙ p.spared x h;
        after = λ z x h. q.after z x h ∙ unmarked z x h (marked m₁ x) refl;
        stays = λ z x h. q.stays z x (p.stays refl x h);
      }
    where
      by-mark : (x : ℕ) (t : Bool) → marked m₁ x ≡ t → f₂ x ≤ f x + 1
      by-mark x true e = omega (arith, q.spared x e, p.once x)
      by-mark x false e = omega (arith, q.once x, p.after refl x e)

      unmarked : c ≡ 0 → (x : ℕ) → marked m₂ x ≡ false → (t : Bool) → marked m₁ x ≡ t → f₁ x ≡ f x
      unmarked z x h true e = absurd (never (sym h ∙ q.stays z x e))
      unmarked z x h false e = p.after refl x e

  next_sees : (n : ℕ) (f : Looks) (m : List ℕ) (l : Left Looks) (g : Looks → List ℕ → ℕ → Left Looks) → Sees n f m l
      → ((f₁ : Looks) (m₁ : List ℕ) (v : ℕ) → length m₁ ≡ top → Sees (n + 1) f₁ m₁ (g f₁ m₁ v)) → Sees n f m (next l g)
  next_sees n f m (left zero f₁ m₁ v) g p h = second n f f₁ m m₁ p (g f₁ m₁ v) (h f₁ m₁ v p.long)
  next_sees n f m (left (suc c) f₁ m₁ v) g p h = p

  parts_see : (K : ℕ → Looks → List ℕ → ℕ → Left Looks) → ((n : ℕ) (f : Looks) (m : List ℕ) (v : ℕ) → length m ≡ top → Sees n f m (K n f m v))
      → (c n : ℕ) (f : Looks) (m : List ℕ) (v : ℕ) → length m ≡ top → Sees n f m (parts_kept K c n f m v)
  unfolding parts_kept
  parts_see K h zero n f m v k = unseen n 0 f m k
  parts_see K h (suc c) n f m v k = next_sees n f m (K n f m v) (parts_kept K c (n + 1)) (h n f m v k) (λ f₁ m₁ u k₁. parts_see K h c (n + 1) f₁ m₁ u k₁)

  -- a record's own words
  record Looked (n : ℕ) (f f₀ : Looks) (mark : ℕ) : Type 0 where
    there : (x : ℕ) → (x ≡ n → ⊥) → f₀ x ≡ f x
    here : f₀ n ≤ f n + 1
    not_twice : is_mark mark ≡ true → f₀ n ≡ f n

  looked : (n : ℕ) (f : Looks) (mark : ℕ) → Looked n f (own_once look mark n f) mark
  looked n f mark = go (is_mark mark) refl
    where
      go : (t : Bool) → is_mark mark ≡ t → Looked n f (cond t f (look n f)) mark
      go true e = record { there = λ x h. refl; here = omega arith; not_twice = λ h. refl }
      go false e = record { there = look-there n f; here = omega (arith, look-here n f); not_twice = λ h. absurd (never (sym e ∙ h)) }

  mark_sees : (n k first : ℕ) (f f₀ : Looks) (m : List ℕ) → suc k ≤ 16 → n < first → n < top → Looked n f f₀ (get_or m n 0) → (l : Left Looks) → Sees first f₀ m l
      → Sees n f m (next l (marking n (suc k)))
  mark_sees n k first f f₀ m deep up low w l p = go l p
    where
      same : (c : ℕ) (f₁ : Looks) (m₁ : List ℕ) → Seen first f₀ m c f₁ m₁ → (x : ℕ) (t : Bool) → eqb x n ≡ t → f₁ x ≤ f x + 1
      same c f₁ m₁ p x true e = let q : x ≡ n = eqb-true x n e in rw q (omega (arith, p.under n up, w.here))
      same c f₁ m₁ p x false e = omega (arith, p.once x, w.there x (eqb-false x n e))

      held : (x : ℕ) (t : Bool) → eqb x n ≡ t → marked m x ≡ true → f₀ x ≡ f x
      held x true e h = let q : x ≡ n = eqb-true x n e in rw q (w.not_twice (rw q at h))
      held x false e h = w.there x (eqb-false x n e)

      go : (l : Left Looks) → Sees first f₀ m l → Sees n f m (next l (marking n (suc k)))
      go (left (suc c) f₁ m₁ v) p =
          record {
            long = p.long;
            under = λ x h. p.under x (omega arith) ∙ w.there x (λ e. omega arith);
            once = λ x. same (suc c) f₁ m₁ p x (eqb x n) refl;
            spared = λ x h. p.spared x h ∙ held x (eqb x n) refl h;
            after = λ z. absurd (omega arith);
            stays = λ z. absurd (omega arith);
          }
      go (left zero f₁ m₁ v) p =
          record {
            long = length-set m₁ n (suc k) ∙ p.long;
            under = λ x h. p.under x (omega arith) ∙ w.there x (λ e. omega arith);
            once = λ x. same 0 f₁ m₁ p x (eqb x n) refl;
            spared = λ x h. p.spared x h ∙ held x (eqb x n) refl h;
            after = λ z x h. free x (eqb x n) refl h (marked m₁ x) refl;
            stays = λ z x h. keeps x (p.stays refl x h);
          }
        where
          keeps : (x : ℕ) → marked m₁ x ≡ true → marked (set m₁ n (suc k)) x ≡ true
          keeps x h = set-mark (λ y u. is_mark u ≡ true) m₁ n (suc k) x h (set_is_mark k deep)

          free : (x : ℕ) (t : Bool) → eqb x n ≡ t → marked (set m₁ n (suc k)) x ≡ false → (s : Bool) → marked m₁ x ≡ s → f₁ x ≡ f x
          free x true e h s d =
              let q : x ≡ n = eqb-true x n e in
              let i : n < length m₁ = omega (arith, p.long) in
              let y : marked (set m₁ n (suc k)) x ≡ true = rw (q, get_or-set_same m₁ n (suc k) 0 i) (set_is_mark k deep) in
              absurd (never (sym h ∙ y))
          free x false e h true d = absurd (never (sym h ∙ keeps x d))
          free x false e h false d = p.after refl x d ∙ w.there x (eqb-false x n e)

  module _ (tick : ℕ → ℕ) (get : ℕ → Option Parts) (up : (n : ℕ) (r : Parts) → get n ≡ some r → n < r.first) (low : (n : ℕ) (r : Parts) → get n ≡ some r → n < top) where
    sees : (k n : ℕ) (f : Looks) (m : List ℕ) (v : ℕ) → k ≤ 16 → length m ≡ top → Sees n f m (kept tick get look k n f m v)
    unfolding kept
    sees zero n f m v deep h = unseen n 13 f m h
    sees (suc k) n f m v deep h =
        entering tick get look k n f m v (Sees n f m) (λ s. unseen n 0 f m h) (λ e. unseen n 10 f m h)
        (λ r e s. mark_sees n k r.first f (own_once look (get_or m n 0) n f) m deep (up n r e) (low n r e) (looked n f (get_or m n 0)) (inside tick get look k n f m v r)
        (parts_see (kept tick get look k) (λ x g m' u. sees k x g m' u (omega arith)) r.count r.first (own_once look (get_or m n 0) n f) m (tick v) h))

    at_most_once : (n : ℕ) (m : List ℕ) (l : Left Looks) → Sees n (λ x. 0) m l → {c : ℕ} {f : Looks} {m' : List ℕ} {v : ℕ} → l ≡ left c f m' v → (x : ℕ) → f x ≤ 1
    at_most_once n m (left c₀ f₀ m₀ v₀) p {c} {f} e x = let q : f₀ ≡ f = cc in rw q at (p.once x)

    -- whatever comes of the walk, no record's own words are looked at twice
    pub looked_at_once : (blank k n u : ℕ) {c : ℕ} {f : Looks} {m : List ℕ} {v : ℕ} → k ≤ 16 → kept tick get look k n (λ x. 0) (replicate top blank) u ≡ left c f m v → (x : ℕ) → f x ≤ 1
    looked_at_once blank k n u deep e x =
        let first = replicate top blank in
        at_most_once n first (kept tick get look k n (λ y. 0) first u) (sees k n (λ y. 0) first u deep (length-replicate top blank)) e x

    -- so it is for any value: the same walk, with looks for its value, ends with the same number and marks
    pub looks_once : {S : Type 0} (own : ℕ → S → S) (blank k n : ℕ) (b : S) (u : ℕ) {c : ℕ} {e : S} {m : List ℕ} {v : ℕ} → k ≤ 16 → kept tick get own k n b (replicate top blank) u ≡ left c e m v
        → (f : Looks) × (w : ℕ) × (kept tick get look k n (λ x. 0) (replicate top blank) u ≡ left c f m w) × ((x : ℕ) → f x ≤ 1)
    looks_once own blank k n b u deep h =
        let t = twin (alike (λ x y. Unit) tick tick get own look (λ x d f p. tt) k n b (λ x. 0) (replicate top blank) u u tt) h in
        (t.0, t.1, t.2, looked_at_once blank k n u deep t.2)
      where
        twin : {S : Type 0} {l : Left S} {l' : Left Looks} {c : ℕ} {e : S} {m : List ℕ} {v : ℕ} → Like (λ x y. Unit) l l' → l ≡ left c e m v
            → (f : Looks) × (w : ℕ) × (l' ≡ left c f m w)
        twin (like {d} {w} p) h = (d, w, cc)
