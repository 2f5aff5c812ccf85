-- What a walk with a memory does on entering a record, case by case: what holds of each case holds of the walk.
use Rattle.std.specs.Prelude.{◌≡◌, Bool, true, cond, List, ℕ, suc, get_or}
use Rattle.std.proofs.Math.Path.{refl}
use Rattle.std.proofs.Math.Bool.{false}
use Rattle.std.proofs.Math.Option.{Option, none, some}
use Rattle.tree_walk.specs.declared.Parts.{Parts}
use Rattle.tree_walk.specs.Memory.{Left, left, next, skips, parts_kept, found_kept, own_once, marking, walked, kept}

module _ {S : Type 0} (tick : ℕ → ℕ) (get : ℕ → Option Parts) (own : ℕ → S → S) (k n : ℕ) (b : S) (m : List ℕ) (v : ℕ) where
  -- a record's own words and then its parts, before its mark is set
  abbrev pub inside : Parts → Left S
  inside r = parts_kept (kept tick get own k) r.count r.first (own_once own (get_or m n 0) n b) m (tick v)

  pub entering : (P : Left S → Type 0) → (skips (get_or m n 0) (suc k) ≡ true → P (left 0 b m (tick v))) → (get n ≡ none → P (left 10 b m (tick v)))
      → ((r : Parts) → get n ≡ some r → skips (get_or m n 0) (suc k) ≡ false → P (next (inside r) (marking n (suc k)))) → P (kept tick get own (suc k) n b m v)
  unfolding kept walked
  entering P skipped bad good = by-mark (skips (get_or m n 0) (suc k)) refl
    where
      by_record : (o : Option Parts) → get n ≡ o → skips (get_or m n 0) (suc k) ≡ false → P (found_kept o b m (tick v) (λ r. next (inside r) (marking n (suc k))))
      by_record none e s = bad e
      by_record (some r) e s = good r e s

      by-mark : (t : Bool) → skips (get_or m n 0) (suc k) ≡ t → P (cond t (left 0 b m (tick v)) (found_kept (get n) b m (tick v) (λ r. next (inside r) (marking n (suc k)))))
      by-mark true s = skipped s
      by-mark false s = by_record (get n) refl s
