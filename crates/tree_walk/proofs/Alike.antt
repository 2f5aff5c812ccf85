-- A walk goes the same way whatever its value and its count: two walks over values that stay related give the same number and marks, and related values.
-- So code without a counter is the walk that Visits bounds, and what Looks says of a walk that counts looks holds of any.
use Rattle.std.specs.Prelude.{◌≡◌, refl, Bool, true, false, cond, List, get_or, replicate}
use Rattle.std.proofs.Common.{ap, arith}
use Rattle.std.proofs.Math.Option.{Option, none, some}
use Prim.Native.Nat.{ℕ, zero, suc, ◌+◌, ◌*◌, ◌≤◌, ◌<◌}
use Rattle.tree_walk.specs.declared.Parts.{Parts}
use Rattle.tree_walk.specs.Memory.{Left, left, next, skips, is_mark, parts_kept, found_kept, own_once, marking, walked, kept}
use Rattle.tree_walk.specs.Visits.{places}
use Rattle.tree_walk.proofs.Visits.{few_entered}

module _ {S R : Type 0} (Rel : S → R → Type 0) where
  pub data Like : Left S → Left R → Type 0 where
    like : {c : ℕ} {b : S} {d : R} {m : List ℕ} {v w : ℕ} → Rel b d → Like (left c b m v) (left c d m w)

  next_like : (l : Left S) (l' : Left R) (f : S → List ℕ → ℕ → Left S) (g : R → List ℕ → ℕ → Left R) → Like l l'
      → ((b : S) (d : R) (m : List ℕ) (v w : ℕ) → Rel b d → Like (f b m v) (g d m w)) → Like (next l f) (next l' g)
  next_like l l' f g (like {c} {b} {d} {m} {v} {w} p) h = go c
    where
      go : (c : ℕ) → Like (next (left c b m v) f) (next (left c d m w) g)
      go zero = h b d m v w p
      go (suc c) = like p

  parts_like : (K : ℕ → S → List ℕ → ℕ → Left S) (L : ℕ → R → List ℕ → ℕ → Left R)
      → ((n : ℕ) (b : S) (d : R) (m : List ℕ) (v w : ℕ) → Rel b d → Like (K n b m v) (L n d m w))
      → (c n : ℕ) (b : S) (d : R) (m : List ℕ) (v w : ℕ) → Rel b d → Like (parts_kept K c n b m v) (parts_kept L c n d m w)
  unfolding parts_kept
  parts_like K L h zero n b d m v w p = like p
  parts_like K L h (suc c) n b d m v w p =
      next_like (K n b m v) (L n d m w) (parts_kept K c (n + 1)) (parts_kept L c (n + 1)) (h n b d m v w p) (λ e f m' u x q. parts_like K L h c (n + 1) e f m' u x q)

  module _ (tick tick' : ℕ → ℕ) (get : ℕ → Option Parts) (own : ℕ → S → S) (other : ℕ → R → R)
      (keeps : (n : ℕ) (b : S) (d : R) → Rel b d → Rel (own n b) (other n d)) where
    once_like : (mark n : ℕ) (b : S) (d : R) → Rel b d → Rel (own_once own mark n b) (own_once other mark n d)
    once_like mark n b d p = go (is_mark mark)
      where
        go : (t : Bool) → Rel (cond t b (own n b)) (cond t d (other n d))
        go true = p
        go false = keeps n b d p

    alike-below : (k n : ℕ) (b : S) (d : R) (m : List ℕ) (v w : ℕ)
        → ((x : ℕ) (b : S) (d : R) (m : List ℕ) (v w : ℕ) → Rel b d → Like (kept tick get own k x b m v) (kept tick' get other k x d m w))
        → Rel b d → Like (kept tick get own (suc k) n b m v) (kept tick' get other (suc k) n d m w)
    unfolding kept walked
    alike-below k n b d m v w ih p = by-mark (skips (get_or m n 0) (suc k))
      where
        one : Parts → Left S
        one r = parts_kept (kept tick get own k) r.count r.first (own_once own (get_or m n 0) n b) m (tick v)

        two : Parts → Left R
        two r = parts_kept (kept tick' get other k) r.count r.first (own_once other (get_or m n 0) n d) m (tick' w)

        by_record : (o : Option Parts)
            → Like (found_kept o b m (tick v) (λ r. next (one r) (marking n (suc k)))) (found_kept o d m (tick' w) (λ r. next (two r) (marking n (suc k))))
        by_record none = like p
        by_record (some r) =
            next_like (one r) (two r) (marking n (suc k)) (marking n (suc k))
            (parts_like (kept tick get own k) (kept tick' get other k) ih r.count r.first (own_once own (get_or m n 0) n b) (own_once other (get_or m n 0) n d) m (tick v) (tick' w) (once_like (get_or m n 0) n b d p))
            (λ e f m' u x q. like q)

        by-mark : (t : Bool)
            → Like (cond t (left 0 b m (tick v)) (found_kept (get n) b m (tick v) (λ r. next (one r) (marking n (suc k)))))
            (cond t (left 0 d m (tick' w)) (found_kept (get n) d m (tick' w) (λ r. next (two r) (marking n (suc k)))))
        by-mark true = like p
        by-mark false = by_record (get n)

    pub alike : (k n : ℕ) (b : S) (d : R) (m : List ℕ) (v w : ℕ) → Rel b d → Like (kept tick get own k n b m v) (kept tick' get other k n d m w)
    unfolding kept
    alike zero n b d m v w p = like p
    alike (suc k) n b d m v w p = alike-below k n b d m v w (alike k) p

module _ {S : Type 0} where
  counted : {l l' : Left S} {c : ℕ} {b : S} {m : List ℕ} {v : ℕ} → Like (λ x y. x ≡ y) l l' → l ≡ left c b m v → (w : ℕ) × (l' ≡ left c b m w)
  counted (like {w} p) e = (w, cc)

  -- whatever a walk counts, or nothing: counted one by one, it enters at most one record and each place once for each level
  pub few_in_all : (tick : ℕ → ℕ) (get : ℕ → Option Parts) (own : ℕ → S → S) (most top blank : ℕ) → most ≤ 16 → is_mark blank ≡ false → ((n : ℕ) (r : Parts) → get n ≡ some r → n < r.first)
      → ((n : ℕ) (r : Parts) → get n ≡ some r → n < top) → (k n : ℕ) (b : S) (u : ℕ) {c : ℕ} {e : S} {m : List ℕ} {v : ℕ} → k ≤ most
      → kept tick get own k n b (replicate top blank) u ≡ left c e m v
      → (w : ℕ) × (kept (λ x. x + 1) get own k n b (replicate top blank) 0 ≡ left c e m w) × (w ≤ 1 + most * places get top 0)
  few_in_all tick get own most top blank few z up low k n b u deep h =
      let t = counted (alike (λ x y. x ≡ y) tick (λ x. x + 1) get own own (λ x c d p. ap (own x) p) k n b b (replicate top blank) u 0 refl) h in
      (t.0, t.1, few_entered get most top own (λ x. x + 1) (λ x. omega arith) up low few blank z k n b deep t.1)
