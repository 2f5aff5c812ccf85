-- After a walk that refused nothing, the marked records are those that the plain walk reached.
use Rattle.std.specs.Prelude.{◌≡◌, refl, Bool, true, false, cond, ◌||◌, List, [], ◌∷◌, eqb, length, get_or, set, replicate}
use Rattle.std.proofs.Common.{sym, ap, ◌∙◌, arith, length-set, get_or-set_same, eq-eqb, eqb-true}
use Rattle.std.proofs.Math.Option.{Option, some}
use Prim.Native.Nat.{ℕ, zero, suc, ◌+◌, ◌<◌, ◌≤◌}
use Rattle.std.proofs.lemmas.List.{length-replicate}
use Rattle.laws.specs.Every.{never}
use Rattle.tree_walk.specs.declared.Parts.{Parts}
use Rattle.tree_walk.specs.Tree.{Out, went, through}
use Rattle.tree_walk.specs.Widen.{all, Growing, growing}
use Rattle.tree_walk.specs.Reached.{reached, joined}
use Rattle.tree_walk.specs.Memory.{Left, left, next, is_mark, parts_kept, own_once, marking, kept}
use Rattle.tree_walk.specs.Cases.{inside, entering}
use Rattle.tree_walk.proofs.Alike.{Like, like, alike}
use Rattle.tree_walk.proofs.Remembers.{set-mark, at_first, set_is_mark, Agree, agrees, so_went, none_marked}

-- ---- a set of records is a value that is widened
abbrev pub Set : Type 0
Set = ℕ → Bool

abbrev add : ℕ → Set → Set
add n s = λ x. eqb x n || s x

add_met : (n : ℕ) (s : Set) → add n (add n s) ≡ add n s
add_met n s = λ i x. twice (eqb x n) (s x) i
  where
    twice : (a b : Bool) → (a || (a || b)) ≡ (a || b)
    twice true b = refl
    twice false b = refl

add_stays : (v w : ℕ) (s : Set) → add v s ≡ s → add v (add w s) ≡ add w s
add_stays v w s h = λ i x. past (eqb x v) (eqb x w) (s x) (ap (λ (t : Set). t x) h) i
  where
    past : (a b c : Bool) → (a || c) ≡ c → (a || (b || c)) ≡ (b || c)
    past true true c h = refl
    past true false c h = h
    past false b c h = refl

unfoldable flag : ℕ → Set → Set
flag n = all add (n ∷ [])

flag_is : (n : ℕ) (s : Set) (x : ℕ) → flag n s x ≡ (eqb x n || s x)
unfolding flag all
flag_is n s x = refl

flags : Growing Set flag
unfolding flag
flags = growing add add_met add_stays (λ n. n ∷ [])

-- whether a number is in a list
unfoldable pub among : ℕ → List ℕ → Bool
among x [] = false
among x (y ∷ l) = eqb x y || among x l

all_flags : (ns : List ℕ) (s : Set) (x : ℕ) → all flag ns s x ≡ (among x ns || s x)
unfolding all among
all_flags [] s x = refl
all_flags (n ∷ ns) s x = all_flags ns (flag n s) x ∙ rw (flag_is n s x) (swap (eqb x n) (among x ns) (s x))
  where
    swap : (a b c : Bool) → (b || (a || c)) ≡ ((a || b) || c)
    swap true true c = refl
    swap true false c = refl
    swap false b c = refl

-- whether a record is marked
abbrev pub marked : List ℕ → ℕ → Bool
marked m x = is_mark (get_or m x 0)

either : {a b : Bool} (C : Type 0) → (a || b) ≡ true → (a ≡ true → C) → (b ≡ true → C) → C
either {a} {b} C h f g = go a b h f g
  where
    go : (a b : Bool) → (a || b) ≡ true → (a ≡ true → C) → (b ≡ true → C) → C
    go true b h f g = f refl
    go false b h f g = g h

or_left : (a b : Bool) → a ≡ true → (a || b) ≡ true
or_left a b h = rw h

or_right : (a b : Bool) → b ≡ true → (a || b) ≡ true
or_right true b h = refl
or_right false b h = h

module _ (top : ℕ) where
  -- a walk over sets beside any other: the marks stay among the flags, and what is flagged on the way is marked at the end
  record Synced (s : Set) (m : List ℕ) (s' : Set) (m' : List ℕ) : Type 0 where
    long : length m' ≡ top
    flagged : (x : ℕ) → marked m' x ≡ true → s' x ≡ true
    new : (x : ℕ) → s' x ≡ true → (s x || marked m' x) ≡ true
    stays : (x : ℕ) → marked m x ≡ true → marked m' x ≡ true
    grows : (x : ℕ) → s x ≡ true → s' x ≡ true

  unmoved : (s : Set) (m : List ℕ) → length m ≡ top → ((x : ℕ) → marked m x ≡ true → s x ≡ true) → Synced s m s m
  unmoved s m h f = record { long = h; flagged = f; new = λ x g. or_left (s x) (marked m x) g; stays = λ x g. g; grows = λ x g. g }

  both : {s s' s'' : Set} {m m' m'' : List ℕ} → Synced s m s' m' → Synced s' m' s'' m'' → Synced s m s'' m''
  both {s} {s'} {s''} {m} {m'} {m''} p q =
      record {
        long = q.long;
        flagged = q.flagged;
        new = λ x g. either ((s x || marked m'' x) ≡ true) (q.new x g)
            (λ a. either ((s x || marked m'' x) ≡ true) (p.new x a) (or_left (s x) (marked m'' x)) (λ b. or_right (s x) (marked m'' x) (q.stays x b)))
            (or_right (s x) (marked m'' x));
        stays = λ x g. q.stays x (p.stays x g);
        grows = λ x g. q.grows x (p.grows x g);
      }

  -- a walk that went through
  abbrev Goes : Set → List ℕ → Left Set → Type 0
  Goes s m (left zero s' m' v) = Synced s m s' m'
  Goes s m (left (suc c) s' m' v) = Unit

  next_goes : (s : Set) (m : List ℕ) (l : Left Set) (g : Set → List ℕ → ℕ → Left Set) → Goes s m l
      → ((s' : Set) (m' : List ℕ) (v : ℕ) → length m' ≡ top → ((x : ℕ) → marked m' x ≡ true → s' x ≡ true) → Goes s' m' (g s' m' v)) → Goes s m (next l g)
  next_goes s m (left zero s' m' v) g p h = after (g s' m' v) (h s' m' v p.long p.flagged)
    where
      after : (l : Left Set) → Goes s' m' l → Goes s m l
      after (left zero s'' m'' u) q = both p q
      after (left (suc c) s'' m'' u) q = tt
  next_goes s m (left (suc c) s' m' v) g p h = tt

  parts_go : (K : ℕ → Set → List ℕ → ℕ → Left Set)
      → ((n : ℕ) (s : Set) (m : List ℕ) (v : ℕ) → length m ≡ top → ((x : ℕ) → marked m x ≡ true → s x ≡ true) → Goes s m (K n s m v))
      → (c n : ℕ) (s : Set) (m : List ℕ) (v : ℕ) → length m ≡ top → ((x : ℕ) → marked m x ≡ true → s x ≡ true) → Goes s m (parts_kept K c n s m v)
  unfolding parts_kept
  parts_go K h zero n s m v k f = unmoved s m k f
  parts_go K h (suc c) n s m v k f = next_goes s m (K n s m v) (parts_kept K c (n + 1)) (h n s m v k f) (λ s' m' v' k' f'. parts_go K h c (n + 1) s' m' v' k' f')

  -- what a record's own words make of a set
  record Begun (n : ℕ) (s s₀ : Set) : Type 0 where
    more : (x : ℕ) → s x ≡ true → s₀ x ≡ true
    only : (x : ℕ) → s₀ x ≡ true → (s x || eqb x n) ≡ true
    here : s₀ n ≡ true

  begun : (n : ℕ) (s : Set) (m : List ℕ) → ((x : ℕ) → marked m x ≡ true → s x ≡ true) → Begun n s (own_once flag (get_or m n 0) n s)
  begun n s m f = by-mark (is_mark (get_or m n 0)) (f n)
    where
      turn : (a b : Bool) → (a || b) ≡ true → (b || a) ≡ true
      turn true true h = refl
      turn true false h = refl
      turn false b h = rw h

      by-mark : (t : Bool) → (t ≡ true → s n ≡ true) → Begun n s (cond t s (flag n s))
      by-mark false h =
          record {
            more = λ x g. flag_is n s x ∙ or_right (eqb x n) (s x) g;
            only = λ x g. turn (eqb x n) (s x) (sym (flag_is n s x) ∙ g);
            here = flag_is n s n ∙ or_left (eqb n n) (s n) (eq-eqb n n refl);
          }
      by-mark true h = record { more = λ x g. g; only = λ x g. or_left (s x) (eqb x n) g; here = h refl }

  mark_goes : (n k : ℕ) (s s₀ : Set) (m : List ℕ) → suc k ≤ 16 → n < top → Begun n s s₀ → (l : Left Set) → Goes s₀ m l → Goes s m (next l (marking n (suc k)))
  mark_goes n k s s₀ m deep low w (left (suc c) s' m' v) p = tt
  mark_goes n k s s₀ m deep low w (left zero s' m' v) p = done
    where
      it : (x : ℕ) → eqb x n ≡ true → marked (set m' n (suc k)) x ≡ true
      it x e =
          let q : x ≡ n = eqb-true x n e in
          let h : n < length m' = omega (arith, p.long) in
          rw (q, get_or-set_same m' n (suc k) 0 h) (set_is_mark k deep)

      kept-mark : (x : ℕ) → marked m' x ≡ true → marked (set m' n (suc k)) x ≡ true
      kept-mark x g = set-mark (λ y u. is_mark u ≡ true) m' n (suc k) x g (set_is_mark k deep)

      done : Synced s m s' (set m' n (suc k))
      done =
          record {
            long = length-set m' n (suc k) ∙ p.long;
            flagged = λ x. set-mark (λ y u. is_mark u ≡ true → s' y ≡ true) m' n (suc k) x (p.flagged x) (λ g. p.grows n w.here);
            new = λ x g. either ((s x || marked (set m' n (suc k)) x) ≡ true) (p.new x g)
                (λ a. either ((s x || marked (set m' n (suc k)) x) ≡ true) (w.only x a) (or_left (s x) (marked (set m' n (suc k)) x)) (λ e. or_right (s x) (marked (set m' n (suc k)) x) (it x e)))
                (λ a. or_right (s x) (marked (set m' n (suc k)) x) (kept-mark x a));
            stays = λ x g. kept-mark x (p.stays x g);
            grows = λ x g. p.grows x (w.more x g);
          }

  module _ (tick : ℕ → ℕ) (get : ℕ → Option Parts) (low : (n : ℕ) (r : Parts) → get n ≡ some r → n < top) where
    goes : (k n : ℕ) (s : Set) (m : List ℕ) (v : ℕ) → k ≤ 16 → length m ≡ top → ((y : ℕ) → marked m y ≡ true → s y ≡ true) → Goes s m (kept tick get flag k n s m v)
    unfolding kept
    goes zero n s m v deep h f = tt
    goes (suc k) n s m v deep h f =
        entering tick get flag k n s m v (Goes s m) (λ q. unmoved s m h f) (λ e. tt)
        (λ r e q. mark_goes n k s (own_once flag (get_or m n 0) n s) m deep (low n r e) (begun n s m f) (inside tick get flag k n s m v r)
        (parts_go (kept tick get flag k) (λ x t m' u. goes k x t m' u (omega arith)) r.count r.first (own_once flag (get_or m n 0) n s) m (tick v) h
        (λ y g. (begun n s m f).more y (f y g))))

    -- what the set is at the end, by the marks
    as_marked : (first : List ℕ) (s : Set) (m : List ℕ) → Synced (λ x. false) first s m → (x : ℕ) → s x ≡ marked m x
    as_marked first s m p x = go (s x) (marked m x) (p.new x) (p.flagged x)
      where
        go : (a b : Bool) → (a ≡ true → b ≡ true) → (b ≡ true → a ≡ true) → a ≡ b
        go true b f g = sym (f refl)
        go false true f g = g refl
        go false false f g = refl

    ended : {S : Type 0} (o : Out Set) (x : ℕ) (ns first : List ℕ) {l : Left S} {l' : Left Set} → Like (λ y z. Unit) l l' → Goes (λ y. false) first l' → Agree flags get o l'
        → ((e : Set) → o ≡ went e → e x ≡ among x ns) → {b : S} {m : List ℕ} {v : ℕ} → l ≡ left 0 b m v → marked m x ≡ among x ns
    ended o x ns first (like {c} {d} {m = m'} {w = w} u) p a h {m} e = let z : c ≡ 0 = cc in go c z p a
      where
        go : (c : ℕ) → c ≡ 0 → Goes (λ y. false) first (left c d m' w) → Agree flags get o (left c d m' w) → marked m x ≡ among x ns
        go zero z p a =
            let q : m ≡ m' = cc in
            ap (λ (w : List ℕ). marked w x) q ∙ sym (as_marked first d m' p x) ∙ h d (so_went flags get a refl refl)
        go (suc c) z p a = absurd (omega arith)

    -- after a walk that refused nothing, from no mark at all: the marked records are those that the plain walk reached
    pub marks_are : {S : Type 0} (own : ℕ → S → S) (blank : ℕ) → is_mark blank ≡ false → (k n : ℕ) (b : S) (u : ℕ) {e : S} {m : List ℕ} {v : ℕ} → k ≤ 16
        → kept tick get own k n b (replicate top blank) u ≡ left 0 e m v → (x : ℕ) → marked m x ≡ among x (reached get k n)
    marks_are own blank z k n b u deep h x =
        ended (through get flag k n (λ y. false)) x (reached get k n) (replicate top blank)
        (alike (λ y t. Unit) tick tick get own flag (λ y d f p. tt) k n b (λ y. false) (replicate top blank) u u tt)
        (goes k n (λ y. false) (replicate top blank) u deep (length-replicate top blank) (λ y g. absurd (never (sym (no_mark y) ∙ g))))
        (agrees flags get tick k n (λ y. false) (replicate top blank) u deep (none_marked flags get blank top (λ y. false) z))
        (λ s g. ap (λ (t : Set). t x) (sym (joined get flag k n (λ y. false) s g)) ∙ all_flags (reached get k n) (λ y. false) x ∙ or_false (among x (reached get k n))) h
      where
        no_mark : (y : ℕ) → marked (replicate top blank) y ≡ false
        no_mark y = at_first (λ mark. is_mark mark ≡ false) blank top y z refl

        or_false : (a : Bool) → (a || false) ≡ a
        or_false true = refl
        or_false false = refl
