-- The memory changes no answer: what was walked through is refused nothing with more levels left (Levels), and moves nothing a second time (Again);
-- and what a mark says stays true whatever comes after it.
use Rattle.std.specs.Prelude.{◌≡◌, refl, Bool, true, false, cond, List, [], ◌∷◌, leb, ltb, get_or, set, replicate}
use Rattle.std.proofs.Common.{sym, ap, ◌∙◌, arith, ltb-true, leb-true, lt-ltb, le-leb}
use Rattle.std.proofs.Math.Path.{subst}
use Rattle.std.proofs.Math.Option.{Option}
use Prim.Native.Nat.{ℕ, zero, suc, ◌+◌, ◌≤◌}
use Rattle.laws.specs.Every.{never, both}
use Rattle.tree_walk.specs.declared.Parts.{Parts}
use Rattle.tree_walk.specs.Tree.{Out, refused, went, then, found, parts, through}
use Rattle.tree_walk.specs.Levels.{more-levels}
use Rattle.tree_walk.specs.Widen.{Growing}
use Rattle.tree_walk.specs.Cases.{inside, entering}
use Rattle.tree_walk.proofs.Again.{passed, own_moves_none}
use Rattle.tree_walk.specs.Memory.{Left, left, next, skips, is_mark, parts_kept, own_once, marking, kept}

-- a mark after one was set is the one set or the one before
pub set-mark : (P : ℕ → ℕ → Type 0) (m : List ℕ) (n v x : ℕ) → P x (get_or m x 0) → P n v → P x (get_or (set m n v) x 0)
set-mark P [] n v x p q = p
set-mark P (y ∷ m) zero v zero p q = q
set-mark P (y ∷ m) zero v (suc x) p q = p
set-mark P (y ∷ m) (suc n) v zero p q = p
set-mark P (y ∷ m) (suc n) v (suc x) p q = set-mark (λ a b. P (suc a) b) m n v x p q

-- with the same number for every record, what holds of it and of 0 holds of each mark
pub at_first : (P : ℕ → Type 0) (blank k n : ℕ) → P blank → P 0 → P (get_or (replicate k blank) n 0)
at_first P blank zero n p q = q
at_first P blank (suc k) zero p q = p
at_first P blank (suc k) (suc n) p q = at_first P blank k n p q

-- a mark that is skipped, or that was set, is one
skip_mark : (mark levels : ℕ) → levels ≤ 16 → skips mark levels ≡ true → is_mark mark ≡ true
skip_mark mark levels deep h =
    let t = both (ltb 0 mark) (leb mark levels) h in
    let low = ltb-true 0 mark t.0 in
    rw (lt-ltb 0 mark low, le-leb mark 16 (omega (arith, leb-true mark levels t.1)))

pub set_is_mark : (k : ℕ) → suc k ≤ 16 → is_mark (suc k) ≡ true
set_is_mark k deep = rw (lt-ltb 0 (suc k) (omega arith), le-leb (suc k) 16 deep)

module _ {S : Type 0} {own : ℕ → S → S} (G : Growing S own) (get : ℕ → Option Parts) where
  -- if it is a mark: from any value above b, record n with so many levels left is refused nothing and moves nothing
  abbrev Clear : S → ℕ → ℕ → Type 0
  Clear b n mark = is_mark mark ≡ true → (c : S) → G.Above b c → through get own mark n c ≡ went c

  -- every mark says so
  abbrev pub Marked : List ℕ → S → Type 0
  Marked m b = (n : ℕ) → Clear b n (get_or m n 0)

  clear_above : (b e : S) (n mark : ℕ) → G.Above b e → Clear b n mark → Clear e n mark
  clear_above b e n mark a h t c u = h t c (G.join a u)

  marked_above : (m : List ℕ) (b e : S) → G.Above b e → Marked m b → Marked m e
  marked_above m b e a h n = clear_above b e n (get_or m n 0) a (h n)

  -- both walks are refused with the same number; or neither is, and they give the same value, and the marks stay true
  pub data Agree : Out S → Left S → Type 0 where
    refuse : {c : ℕ} {b : S} {m : List ℕ} {v : ℕ} → Agree (refused (suc c)) (left (suc c) b m v)
    go_on : {b : S} {m : List ℕ} {v : ℕ} → Marked m b → Agree (went b) (left 0 b m v)

  next-agrees : {o : Out S} {l : Left S} (f : S → Out S) (g : S → List ℕ → ℕ → Left S) → Agree o l
      → ((b : S) (m : List ℕ) (v : ℕ) → Marked m b → Agree (f b) (g b m v)) → Agree (then o f) (next l g)
  next-agrees f g refuse h = refuse
  next-agrees f g (go_on {b} {m} {v} k) h = h b m v k

  parts_agree : (p : ℕ → S → Out S) (q : ℕ → S → List ℕ → ℕ → Left S)
      → ((n : ℕ) (b : S) (m : List ℕ) (v : ℕ) → Marked m b → Agree (p n b) (q n b m v))
      → (c n : ℕ) (b : S) (m : List ℕ) (v : ℕ) → Marked m b → Agree (parts p c n b) (parts_kept q c n b m v)
  unfolding parts parts_kept
  parts_agree p q h zero n b m v k = go_on k
  parts_agree p q h (suc c) n b m v k =
      next-agrees (parts p c (n + 1)) (parts_kept q c (n + 1)) (h n b m v k) (λ e m' u k'. parts_agree p q h c (n + 1) e m' u k')

  -- a mark is set behind a walk that went through
  mark-agrees : (n k : ℕ) {o : Out S} {l : Left S} → Agree o l → ((e : S) → o ≡ went e → (c : S) → G.Above e c → through get own (suc k) n c ≡ went c) → Agree o (next l (marking n (suc k)))
  mark-agrees n k refuse h = refuse
  mark-agrees n k (go_on {b} {m} marked) h =
      go_on (λ x. set-mark (λ y v. Clear b y v) m n (suc k) x (marked x) (λ t. h b refl))

  skip_agrees : (k n : ℕ) (b : S) (m : List ℕ) → suc k ≤ 16 → Marked m b → skips (get_or m n 0) (suc k) ≡ true → through get own (suc k) n b ≡ went b
  skip_agrees k n b m deep marked h = go (get_or m n 0) (marked n) h
    where
      go : (mark : ℕ) → Clear b n mark → skips mark (suc k) ≡ true → through get own (suc k) n b ≡ went b
      go mark c h =
          more-levels get own mark (suc k) n b b (leb-true mark (suc k) (both (ltb 0 mark) (leb mark (suc k)) h).1)
          (c (skip_mark mark (suc k) deep h) b (G.same b))

  own_once_lem : (n : ℕ) (b : S) (mark : ℕ) → Clear b n mark → own_once own mark n b ≡ own n b
  own_once_lem n b mark c = go (is_mark mark) refl
    where
      go : (t : Bool) → is_mark mark ≡ t → cond t b (own n b) ≡ own n b
      go true e = sym (own_moves_none G get mark n b (c e b (G.same b)))
      go false e = refl

  pub agrees : (tick : ℕ → ℕ) (k n : ℕ) (b : S) (m : List ℕ) (v : ℕ) → k ≤ 16 → Marked m b → Agree (through get own k n b) (kept tick get own k n b m v)
  unfolding through kept
  agrees tick zero n b m v deep marked = refuse
  agrees tick (suc k) n b m v deep marked =
      entering tick get own k n b m v (Agree (through get own (suc k) n b))
      (λ s. subst (λ (o : Out S). Agree o (left 0 b m (tick v))) (sym (skip_agrees k n b m deep marked s)) (go_on marked))
      (λ e. subst (λ (o : Out S). Agree o (left 10 b m (tick v))) (sym (ap plain e)) refuse)
      (λ r e s. mark-agrees n k (subst (λ (o : Out S). Agree o (inside tick get own k n b m v r)) (sym (ap plain e))
      (rw (own_once_lem n b (get_or m n 0) (marked n))
      (parts_agree (through get own k) (kept tick get own k) (λ x c m' u. agrees tick k x c m' u (omega arith)) r.count r.first (own n b) m (tick v) (marked_above m b (own n b) (G.grows n b) marked))))
      (λ c q. (passed G get (suc k) n b c q).later))
    where
      plain : Option Parts → Out S
      plain o = found o (λ r. parts (through get own k) r.count r.first (own n b))

  -- ---- the plain walk's outcome by what the other left
  pub so_refused : {o : Out S} {l : Left S} {c : ℕ} {b : S} {m : List ℕ} {v : ℕ} → Agree o l → l ≡ left c b m v → (c ≡ 0 → ⊥) → o ≡ refused c
  so_refused refuse e z = cc
  so_refused {c} (go_on k) e z = let q : c ≡ 0 = cc in absurd (z q)

  pub so_went : {o : Out S} {l : Left S} {c : ℕ} {b : S} {m : List ℕ} {v : ℕ} → Agree o l → l ≡ left c b m v → c ≡ 0 → o ≡ went b
  so_went (refuse {c}) e z = let q : suc c ≡ 0 = cc in absurd (omega arith)
  so_went (go_on k) e z = cc

  -- no mark is set at first
  pub none_marked : (blank k : ℕ) (b : S) → is_mark blank ≡ false → Marked (replicate k blank) b
  none_marked blank k b z n = at_first (Clear b n) blank k n (λ t. absurd (never (sym z ∙ t))) (λ t. absurd (never t))
