-- How many records the walk with a memory enters: at most one, and the places in all parts lists as often as there are levels.
-- A record that is not skipped is marked deeper than before, so it is walked through once for each level at most.
use Rattle.std.specs.Prelude.{◌≡◌, Bool, true, false, cond, List, leb, ltb, length, get_or, set, replicate}
use Rattle.std.proofs.Math.Path.{refl, sym}
use Rattle.std.proofs.Common.{ap, ◌∙◌, mul-le-mul_left, mul-suc, mul-zero, length-set, get_or-set_same, get_or-set_other, leb-false, ltb-true, ltb-false}
use Rattle.std.proofs.Math.Option.{Option, some}
use Prim.Native.Nat.{ℕ, zero, suc, ◌+◌, ◌-◌, ◌*◌, ◌≤◌, ◌<◌}
use native.Mathlib.Omega.{arith}
use Rattle.std.proofs.Math.Nat.{mul-add, mul_comm}
use Rattle.std.proofs.lemmas.List.{length-replicate}
use Rattle.laws.specs.Every.{both, fails}
use Rattle.tree_walk.specs.declared.Parts.{Parts}
use Rattle.tree_walk.specs.Memory.{Left, left, next, skips, is_mark, parts_kept, own_once, marking, kept}
use Rattle.tree_walk.specs.Cases.{inside as inside_of, entering}
use Rattle.tree_walk.proofs.Remembers.{at_first, set_is_mark}
use Rattle.tree_walk.specs.Visits.{places_of, places}

-- how often a record may still be walked through: with each number of levels left that is below its mark
unfoldable room : ℕ → ℕ → ℕ
room most mark = cond (is_mark mark) (mark - 1) most

room-left : (most k mark : ℕ) → suc k ≤ most → skips mark (suc k) ≡ false → suc k ≤ room most mark
unfolding room
room-left most k mark h s = go (is_mark mark) refl
  where
    go : (t : Bool) → is_mark mark ≡ t → suc k ≤ cond t (mark - 1) most
    go true e =
        let low = (both (ltb 0 mark) (leb mark 16) e).0 in
        omega (arith, ltb-true 0 mark low, leb-false mark (suc k) (fails (ltb 0 mark) (leb mark (suc k)) s low))
    go false e = h

room-set : (most k : ℕ) → suc k ≤ 16 → room most (suc k) ≡ k
unfolding room
room-set most k deep = rw (set_is_mark k deep) (omega arith)

room-first : (most blank : ℕ) → is_mark blank ≡ false → room most blank ≡ most
unfolding room
room-first most blank z = rw z

-- a record is paid for by one time less
paid : (a k r : ℕ) → suc k ≤ r → a * k + a ≤ a * r
paid a k r h = omega (arith, mul-le-mul_left a h, mul-suc a k)

module _ (get : ℕ → Option Parts) (most top : ℕ) where
  -- the entries that so many records from n on may still ask for
  unfoldable work : ℕ → ℕ → List ℕ → ℕ
  work zero n m = 0
  work (suc f) n m = places_of (get n) * room most (get_or m n 0) + work f (n + 1) m

  abbrev from : ℕ → List ℕ → ℕ
  from n m = work (top - n) n m

  at_one : (n : ℕ) (m : List ℕ) → n < top → from n m ≡ places_of (get n) * room most (get_or m n 0) + from (n + 1) m
  unfolding work
  at_one n m h = let e : top - n ≡ suc (top - (n + 1)) = omega arith in rw e

  past : (n : ℕ) (m : List ℕ) → top ≤ n → from n m ≡ 0
  unfolding work
  past n m h = let e : top - n ≡ 0 = omega arith in rw e

  data Where (n : ℕ) : Type 0 where
    inside : n < top → Where n
    outside : top ≤ n → Where n

  place : (n : ℕ) → Where n
  place n = go (ltb n top) refl
    where
      go : (t : Bool) → ltb n top ≡ t → Where n
      go true e = inside (ltb-true n top e)
      go false e = outside (ltb-false n top e)

  step_less : (n : ℕ) (m : List ℕ) → from (n + 1) m ≤ from n m
  step_less n m = go (place n)
    where
      go : Where n → from (n + 1) m ≤ from n m
      go (inside h) = omega (arith, at_one n m h)
      go (outside h) = omega (arith, past n m h, past (n + 1) m (omega arith))

  step_same : (n : ℕ) (m m' : List ℕ) → get_or m' n 0 ≡ get_or m n 0 → from n m' + from (n + 1) m ≡ from n m + from (n + 1) m'
  step_same n m m' e = go (place n)
    where
      go : Where n → from n m' + from (n + 1) m ≡ from n m + from (n + 1) m'
      go (inside h) = rw (at_one n m h, at_one n m' h, e) (omega arith)
      go (outside h) = omega (arith, past n m h, past n m' h, past (n + 1) m (omega arith), past (n + 1) m' (omega arith))

  -- over a stretch of records
  less : (d n : ℕ) (m : List ℕ) → from (n + d) m ≤ from n m
  less zero n m = let e : n + 0 ≡ n = omega arith in rw e (omega arith)
  less (suc d) n m = let e : n + suc d ≡ n + 1 + d = omega arith in rw e (omega (arith, less d (n + 1) m, step_less n m))

  alike : (d n : ℕ) (m m' : List ℕ) → ((x : ℕ) → x < n + d → get_or m' x 0 ≡ get_or m x 0) → from n m' + from (n + d) m ≡ from n m + from (n + d) m'
  alike zero n m m' h = let e : n + 0 ≡ n = omega arith in rw e (omega arith)
  alike (suc d) n m m' h =
      let e : n + suc d ≡ n + 1 + d = omega arith in
      rw e (omega (arith, alike d (n + 1) m m' (λ x k. h x (omega arith)), step_same n m m' (h n (omega arith))))

  -- a mark that is set changes nothing above it
  above_set : (f n x v : ℕ) (m : List ℕ) → x < n → work f n (set m x v) ≡ work f n m
  unfolding work
  above_set zero n x v m h = refl
  above_set (suc f) n x v m h = rw (get_or-set_other m x n v 0 (λ e. omega arith), above_set f (n + 1) x v m (omega arith))

  -- a record whose parts lie above it
  module _ (n : ℕ) (m : List ℕ) (r : Parts) (e : get n ≡ some r) (up : n < r.first) (low : n < top) where
    at_record : from n m ≡ r.count * room most (get_or m n 0) + from (n + 1) m
    at_record = at_one n m low ∙ ap (λ (o : Option Parts). places_of o * room most (get_or m n 0) + from (n + 1) m) e

    at_set : (k : ℕ) (m₁ : List ℕ) → suc k ≤ 16 → length m₁ ≡ top → from n (set m₁ n (suc k)) ≡ r.count * k + from (n + 1) m₁
    at_set k m₁ deep h =
        let l : n < length m₁ = omega arith in
        at_one n (set m₁ n (suc k)) low
        ∙ rw (get_or-set_same m₁ n (suc k) 0 l, room-set most k deep, e, above_set (top - (n + 1)) (n + 1) n (suc k) m₁ (omega arith))

    to_first : n + 1 + (r.first - (n + 1)) ≡ r.first
    to_first = omega arith

    between : (m₁ : List ℕ) → ((x : ℕ) → x < r.first → get_or m₁ x 0 ≡ get_or m x 0) → from (n + 1) m₁ + from r.first m ≡ from (n + 1) m + from r.first m₁
    between m₁ h = rw to_first at (alike (r.first - (n + 1)) (n + 1) m m₁ (λ x g. h x (omega (arith, to_first))))

    beyond : from r.first m ≤ from (n + 1) m
    beyond = rw to_first at (less (r.first - (n + 1)) (n + 1) m)

  -- with no mark set, each place in a parts list may be entered once for each level
  all-work : (blank : ℕ) → is_mark blank ≡ false → (f n k : ℕ) → work f n (replicate k blank) ≡ most * places get f n
  unfolding work places
  all-work blank z zero n k = sym (mul-zero most)
  all-work blank z (suc f) n k = rw (at_first (λ mark. room most mark ≡ most) blank k n (room-first most blank z) (room-first most 0 refl), all-work blank z f (n + 1) k, mul-add most (places_of (get n)) (places get f (n + 1)), mul_comm (places_of (get n)) most)

  at_first_work : (blank : ℕ) → is_mark blank ≡ false → (n k : ℕ) → from n (replicate k blank) ≤ most * places get top 0
  at_first_work blank z n k =
      let all : top - 0 ≡ top = omega arith in
      let a : 0 + n ≡ n = omega arith in
      let whole : from 0 (replicate k blank) ≡ most * places get top 0 = ap (λ (f : ℕ). work f 0 (replicate k blank)) all ∙ all-work blank z top 0 k in
      rw whole at (rw a at (less n 0 (replicate k blank)))

  -- ---- A walk over the records from n on, `cost` of which it was sent to, has entered v' - v of them: those, and what the marks that it set have paid for.
  -- It leaves the marks below n alone. After a refusal nothing is left to be paid for.
  abbrev still : ℕ → ℕ → List ℕ → ℕ
  still n zero m = from n m
  still n (suc c) m = 0

  record Spent (n v cost : ℕ) (m : List ℕ) (c : ℕ) (m' : List ℕ) (v' : ℕ) : Type 0 where
    long : length m' ≡ top
    same : (x : ℕ) → x < n → get_or m' x 0 ≡ get_or m x 0
    few : v' + still n c m' ≤ v + cost + from n m

  module _ {S : Type 0} where
    abbrev Within : ℕ → ℕ → ℕ → List ℕ → Left S → Type 0
    Within n v cost m (left c b m' v') = Spent n v cost m c m' v'

    -- a part and then the others
    second : (n v c : ℕ) (m m₁ : List ℕ) (v₁ : ℕ) → Spent n v 1 m 0 m₁ v₁ → (l : Left S) → Within (n + 1) v₁ c m₁ l → Within n v (suc c) m l
    second n v c m m₁ v₁ w (left zero b m₂ v₂) u =
        record {
          long = u.long;
          same = λ x h. u.same x (omega arith) ∙ w.same x h;
          few = omega (arith, w.few, u.few, step_same n m₁ m₂ (u.same n (omega arith)));
        }
    second n v c m m₁ v₁ w (left (suc z) b m₂ v₂) u =
        record {
          long = u.long;
          same = λ x h. u.same x (omega arith) ∙ w.same x h;
          few = omega (arith, w.few, u.few, step_less n m₁);
        }

    next_within : (n v c : ℕ) (m : List ℕ) (l : Left S) (f : S → List ℕ → ℕ → Left S) → Within n v 1 m l
        → ((b : S) (m₁ : List ℕ) (v₁ : ℕ) → length m₁ ≡ top → Within (n + 1) v₁ c m₁ (f b m₁ v₁)) → Within n v (suc c) m (next l f)
    next_within n v c m (left zero b m₁ v₁) f w h = second n v c m m₁ v₁ w (f b m₁ v₁) (h b m₁ v₁ w.long)
    next_within n v c m (left (suc z) b m₁ v₁) f w h = record { long = w.long; same = w.same; few = omega (arith, w.few) }

    parts_within : (K : ℕ → S → List ℕ → ℕ → Left S) → ((n : ℕ) (b : S) (m : List ℕ) (v : ℕ) → length m ≡ top → Within n v 1 m (K n b m v))
        → (c n : ℕ) (b : S) (m : List ℕ) (v : ℕ) → length m ≡ top → Within n v c m (parts_kept K c n b m v)
    unfolding parts_kept
    parts_within K h zero n b m v k = record { long = k; same = λ x g. refl; few = omega arith }
    parts_within K h (suc c) n b m v k =
        next_within n v c m (K n b m v) (parts_kept K c (n + 1)) (h n b m v k) (λ b₁ m₁ v₁ k₁. parts_within K h c (n + 1) b₁ m₁ v₁ k₁)

    -- a record behind its parts
    module _ (n : ℕ) (m : List ℕ) (r : Parts) (e : get n ≡ some r) (up : n < r.first) (low : n < top) where
      marked_within : (k v u : ℕ) → suc k ≤ 16 → suc k ≤ room most (get_or m n 0) → u ≤ v + 1
          → (l : Left S) → Within r.first u r.count m l → Within n v 1 m (next l (marking n (suc k)))
      marked_within k v u deep h t (left zero b m₁ v₁) w =
          record {
            long = length-set m₁ n (suc k) ∙ w.long;
            same = λ x g. get_or-set_other m₁ n x (suc k) 0 (λ q. omega arith) ∙ w.same x (omega arith);
            few = omega (arith, w.few, at_record n m r e up low, at_set n m r e up low k m₁ deep w.long, between n m r e up low m₁ w.same, paid r.count k (room most (get_or m n 0)) h);
          }
      marked_within k v u deep h t (left (suc z) b m₁ v₁) w =
          record {
            long = w.long;
            same = λ x g. w.same x (omega arith);
            few = omega (arith, w.few, at_record n m r e up low, beyond n m r e up low, paid r.count k (room most (get_or m n 0)) h);
          }

    module _ (own : ℕ → S → S) (tick : ℕ → ℕ) (ticks : (v : ℕ) → tick v ≤ v + 1)
        (up : (n : ℕ) (r : Parts) → get n ≡ some r → n < r.first) (low : (n : ℕ) (r : Parts) → get n ≡ some r → n < top) (few : most ≤ 16) where
      only_entered : (n : ℕ) (b : S) (m : List ℕ) (v c : ℕ) → length m ≡ top → Within n v 1 m (left c b m (tick v))
      only_entered n b m v zero h = record { long = h; same = λ x g. refl; few = omega (arith, ticks v) }
      only_entered n b m v (suc c) h = record { long = h; same = λ x g. refl; few = omega (arith, ticks v) }

      within : (k n : ℕ) (b : S) (m : List ℕ) (v : ℕ) → k ≤ most → length m ≡ top → Within n v 1 m (kept tick get own k n b m v)
      unfolding kept
      within zero n b m v deep h = only_entered n b m v 13 h
      within (suc k) n b m v deep h =
          entering tick get own k n b m v (Within n v 1 m) (λ s. only_entered n b m v 0 h) (λ e. only_entered n b m v 10 h)
          (λ r e s. marked_within n m r e (up n r e) (low n r e) k v (tick v) (omega arith) (room-left most k (get_or m n 0) deep s) (ticks v) (inside_of tick get own k n b m v r)
          (parts_within (kept tick get own k) (λ x c m' u g. within k x c m' u (omega arith) g) r.count r.first (own_once own (get_or m n 0) n b) m (tick v) h))

      at_most : (n : ℕ) (l : Left S) (c : ℕ) (b : S) (m m' : List ℕ) (v : ℕ) → Within n 0 1 m l → l ≡ left c b m' v → v ≤ 1 + from n m
      at_most n (left c₀ b₀ m₀ v₀) c b m m' v w e = let q : v₀ ≡ v = cc in omega (arith, w.few)

      pub few_entered : (blank : ℕ) → is_mark blank ≡ false → (k n : ℕ) (b : S) {c : ℕ} {e : S} {m : List ℕ} {v : ℕ} → k ≤ most
          → kept tick get own k n b (replicate top blank) 0 ≡ left c e m v → v ≤ 1 + most * places get top 0
      few_entered blank z k n b {c} {e} {m} {v} deep h =
          let first = replicate top blank in
          omega (arith, at_most n (kept tick get own k n b first 0) c e first m v (within k n b first 0 deep (length-replicate top blank)) h, at_first_work blank z n top)
