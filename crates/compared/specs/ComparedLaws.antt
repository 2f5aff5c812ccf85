-- What the comparing functions lean on.
use Rattle.std.specs.Prelude.{◌≡◌, refl, Bool, true, false, ◌&&◌, List, [], ◌∷◌, ◌++◌, ℕ, zero, suc, ◌+◌, ◌-◌, ◌*◌, ◌≤◌, ◌<◌, eqb, ltb, length, take, drop, get_or}
use Rattle.std.proofs.Common.{sym, ap, ◌∙◌, arith, take-suc, take-add, take_all, take-take, eqb-true, eq-eqb, ltb-true, ltb-false}
use Rattle.laws.specs.Every.{both}
use Rattle.laws.specs.Blocks.{block}
use Rattle.compared.specs.Compared.{Exactly, Common, AsGiven}

absurd : false ≡ true → ⊥
absurd e = let z : ◌≡◌ {A = ℕ} 0 1 = cc in omega arith

-- What does not hold is answered with no.
pub never : {P : Type 0} → (P → ⊥) → Exactly false P
never f = (λ e. elim (absurd e) [ ], λ p. elim (f p) [ ])

-- ---- two rows
pub one_more_lem : (a b : List ℕ) (i : ℕ) → i < length a → i < length b → take i a ≡ take i b → get_or a i 0 ≡ get_or b i 0
    → take (i + 1) a ≡ take (i + 1) b
one_more_lem a b i h g agree here =
    ap (λ (n : ℕ). take n a) next
    ∙ take-suc a i 0 h
    ∙ ap (λ (x : List ℕ). x ++ (get_or a i 0 ∷ [])) agree
    ∙ ap (λ (x : ℕ). take i b ++ (x ∷ [])) here
    ∙ sym (take-suc b i 0 g)
    ∙ ap (λ (n : ℕ). take n b) (sym next)
  where
    next : i + 1 ≡ suc i
    next = omega arith

module _ (a b : List ℕ) (n : ℕ) (c : Common a b n) where
  whole : length a ≡ length b → n ≡ length a → a ≡ b
  whole long all = sym (take_all n a (omega arith)) ∙ c.agree ∙ take_all n b (omega arith)

  all_common : a ≡ b → n ≡ length a
  all_common p = go (ltb n (length a)) refl
    where
      go : (t : Bool) → ltb n (length a) ≡ t → n ≡ length a
      go true e =
          let short : n < length a = ltb-true n (length a) e in
          elim (c.part short (omega (arith, ap length p)) (ap (λ (l : List ℕ). get_or l n 0) p)) [ ]
      go false e = omega (arith, ltb-false n (length a) e, c.in_first)

  pub equal_rows : Exactly (eqb (length a) (length b) && eqb n (length a)) (a ≡ b)
  equal_rows = (yes, λ p. rw (eq-eqb (length a) (length b) (ap length p), eq-eqb n (length a) (all_common p)))
    where
      yes : (eqb (length a) (length b) && eqb n (length a)) ≡ true → a ≡ b
      yes e =
          let parts = both (eqb (length a) (length b)) (eqb n (length a)) e in
          whole (eqb-true (length a) (length b) parts.0) (eqb-true n (length a) parts.1)

-- ---- rows of records
-- Rows with the same records are the same as far as these reach, and the other way round.
by-records : (k : ℕ) (a b : List ℕ) → ((n : ℕ) → n < k → block 64 b n ≡ block 64 a n) → take (64 * k) a ≡ take (64 * k) b
by-records zero a b each = refl
by-records (suc k) a b each =
    ap (λ (n : ℕ). take n a) next
    ∙ take-add (64 * k) 64 a
    ∙ ap (λ (x : List ℕ). x ++ take 64 (drop (64 * k) a)) (by-records k a b (λ n h. each n (omega arith)))
    ∙ ap (λ (x : List ℕ). take (64 * k) b ++ x) (sym (each k (omega arith)))
    ∙ sym (take-add (64 * k) 64 b)
    ∙ ap (λ (n : ℕ). take n b) (sym next)
  where
    next : 64 * suc k ≡ 64 * k + 64
    next = omega arith

-- A part of a row's first bytes is that part of the row.
inside : (x w m : ℕ) (l : List ℕ) → x + w ≤ m → take w (drop x (take m l)) ≡ take w (drop x l)
inside zero w m l h = take-take w m l (omega arith)
inside (suc x) w zero l h = let never : ⊥ = omega arith in elim never [ ]
inside (suc x) w (suc m) [] h = refl
inside (suc x) w (suc m) (y ∷ l) h = inside x w m l (omega arith)

records_of_lem : (k n : ℕ) (a b : List ℕ) → n < k → take (64 * k) a ≡ take (64 * k) b → block 64 b n ≡ block 64 a n
records_of_lem k n a b h same =
    sym (inside (64 * n) 64 (64 * k) b (omega arith))
    ∙ ap (λ (l : List ℕ). take 64 (drop (64 * n) l)) (sym same)
    ∙ inside (64 * n) 64 (64 * k) a (omega arith)

-- The bytes that are compared are just those of so many records.
pub as_given : (b : Bool) (events count bytes : ℕ) (sent log : List ℕ) → count ≡ events → bytes ≡ 64 * events
    → 64 * events ≤ length sent → 64 * events ≤ length log
    → Exactly b (take bytes sent ≡ take bytes log) → Exactly b (AsGiven events count sent log)
as_given b events count bytes sent log as_many all given heard compared = (
  λ yes. record {
    as_many = as_many;
    given = given;
    heard = heard;
    each = λ n h. records_of_lem events n sent log h (rw all at (compared.0 yes));
  },
  λ g. compared.1 (rw all (by-records events sent log g.each)),
)
