-- Doubles by "less than" are a strict order: no double is below itself, a NaN is below none, and -0.0 is not below 0.0.
use Rattle.std.specs.Prelude.{◌≡◌, refl, Bool, true, false, ℕ, zero, suc, ◌+◌, ◌*◌, ◌<◌, ◌≤◌, ltb, Float}
use Rattle.std.proofs.Common.{sym, ap, arith, mul-le-mul_right, mul-lt-mul_of_pos_right, lt_of_mul-lt-mul_right, mul_right_comm, mul-pos, ltb-true, ltb-false, lt-ltb, le-ltb}
use Rattle.std.specs.Float.{nan, inf, fin}
use Rattle.std.specs.Float.Ieee.{up, down, below, lt, is_nan}
use Rattle.std.specs.Float.Ieee.Fits.{down_pos}
use Rattle.std.specs.Float.Ieee.Positive.{first_pos}
use Rattle.laws.specs.Every.{never}
use Rattle.bbox.specs.Box.{Side, least, greatest, beyond}

-- three fractions: x / p < y / q < z / r
across : (x y z p q r : ℕ) → 0 < p → 0 < r → x * q < y * p → y * r < z * q → x * r < z * p
across x y z p q r P R h k =
    let a : x * q * r < y * p * r = mul-lt-mul_of_pos_right h R in
    let b : y * r * p < z * q * p = mul-lt-mul_of_pos_right k P in
    let g : x * r * q < z * p * q = omega (arith, mul_right_comm x r q, mul_right_comm y p r, mul_right_comm z q p) in
    lt_of_mul-lt-mul_right q g

some_of : (n u v w : ℕ) → v < n * u → 0 < w → 0 < n * w
some_of n u v w h k = mul-pos (first_pos n u (omega arith)) k

below-over : (s t u : Bool) (a b c p q r : ℕ) → 0 < p → 0 < q → 0 < r
    → below s (a * q) t (b * p) ≡ true → below t (b * r) u (c * q) ≡ true → below s (a * r) u (c * p) ≡ true
below-over false false false a b c p q r P Q R h k = lt-ltb _ _ (across a b c p q r P R (ltb-true _ _ h) (ltb-true _ _ k))
below-over false false true a b c p q r P Q R h k = k
below-over false true u a b c p q r P Q R h k = absurd (never h)
below-over true false false a b c p q r P Q R h k = lt-ltb 0 (a * r + c * p) (omega (arith, some_of c q (b * r) p (ltb-true _ _ k) P))
below-over true false true a b c p q r P Q R h k = absurd (never k)
below-over true true false a b c p q r P Q R h k = lt-ltb 0 (a * r + c * p) (omega (arith, some_of a q (b * p) r (ltb-true _ _ h) R))
below-over true true true a b c p q r P Q R h k = lt-ltb _ _ (across c b a r q p R P (ltb-true _ _ k) (ltb-true _ _ h))

pub lt_over : (x y z : Float) → lt x y ≡ true → lt y z ≡ true → lt x z ≡ true
unfolding lt
lt_over nan y z h k = h
lt_over (inf s) nan z h k = absurd (never h)
lt_over (inf false) (inf t) z h k = absurd (never h)
lt_over (inf true) (inf true) z h k = absurd (never h)
lt_over (inf true) (inf false) nan h k = k
lt_over (inf true) (inf false) (inf u) h k = absurd (never k)
lt_over (inf true) (inf false) (fin u l g) h k = refl
lt_over (inf false) (fin t n d) z h k = absurd (never h)
lt_over (inf true) (fin t n d) nan h k = k
lt_over (inf true) (fin t n d) (inf u) h k = k
lt_over (inf true) (fin t n d) (fin u l g) h k = refl
lt_over (fin s m e) nan z h k = absurd (never h)
lt_over (fin s m e) (inf true) z h k = absurd (never h)
lt_over (fin s m e) (inf false) nan h k = k
lt_over (fin s m e) (inf false) (inf u) h k = absurd (never k)
lt_over (fin s m e) (inf false) (fin u l g) h k = absurd (never k)
lt_over (fin s m e) (fin t n d) nan h k = k
lt_over (fin s m e) (fin t n d) (inf u) h k = k
lt_over (fin s m e) (fin t n d) (fin u l g) h k =
    below-over s t u (m * up e) (n * up d) (l * up g) (down e) (down d) (down g) (down_pos e) (down_pos d) (down_pos g) h k

-- three fractions: not x / p < y / q, and x / p < z / r
across_from : (x y z p q r : ℕ) → 0 < p → 0 < q → y * p ≤ x * q → x * r < z * p → y * r < z * q
across_from x y z p q r P Q h k =
    let a : y * p * r ≤ x * q * r = mul-le-mul_right r h in
    let b : x * r * q < z * p * q = mul-lt-mul_of_pos_right k Q in
    let g : y * r * p < z * q * p = omega (arith, mul_right_comm y p r, mul_right_comm x q r, mul_right_comm z p q) in
    lt_of_mul-lt-mul_right p g

none_of : (n u : ℕ) → 0 < u → n * u ≡ 0 → n ≡ 0
none_of zero u h e = refl
none_of (suc n) u h e = absurd (omega (arith, mul-pos {m = suc n} {n = u} (omega arith) h))

below-from : (s t u : Bool) (a b c p q r : ℕ) → 0 < p → 0 < q → 0 < r
    → below s (a * q) t (b * p) ≡ false → below s (a * r) u (c * p) ≡ true → below t (b * r) u (c * q) ≡ true
below-from false false false a b c p q r P Q R h k = lt-ltb _ _ (across_from a b c p q r P Q (ltb-false _ _ h) (ltb-true _ _ k))
below-from false t true a b c p q r P Q R h k = absurd (never k)
below-from false true false a b c p q r P Q R h k = lt-ltb 0 (b * r + c * q) (omega (arith, some_of c p (a * r) q (ltb-true _ _ k) Q))
below-from true false u a b c p q r P Q R h k =
    let none : a * q + b * p ≤ 0 = ltb-false 0 (a * q + b * p) h in
    let no_a : a ≡ 0 = none_of a q Q (omega arith) in
    let no_b : b ≡ 0 = none_of b p P (omega arith) in
    go u (ap (λ (n : ℕ). n * r) no_a) (ap (λ (n : ℕ). n * r) no_b) k
  where
    go : (u : Bool) → a * r ≡ 0 * r → b * r ≡ 0 * r → below true (a * r) u (c * p) ≡ true → below false (b * r) u (c * q) ≡ true
    go false d e k = lt-ltb (b * r) (c * q) (omega (arith, some_of c p 0 q (omega (arith, ltb-true 0 (a * r + c * p) k)) Q))
    go true d e k = absurd (omega (arith, ltb-true (c * p) (a * r) k))
below-from true true false a b c p q r P Q R h k = lt-ltb 0 (b * r + c * q) (go a b c (ltb-false (b * p) (a * q) h) (ltb-true 0 (a * r + c * p) k))
  where
    go : (a b c : ℕ) → a * q ≤ b * p → 0 < a * r + c * p → 0 < b * r + c * q
    go zero b c h k = omega (arith, some_of c p 0 q (omega arith) Q)
    go (suc a) zero c h k = absurd (omega (arith, mul-pos {m = suc a} {n = q} (omega arith) Q))
    go (suc a) (suc b) c h k = omega (arith, mul-pos {m = suc b} {n = r} (omega arith) R)
below-from true true true a b c p q r P Q R h k = lt-ltb _ _ (from (ltb-false (b * p) (a * q) h) (ltb-true (c * p) (a * r) k))
  where
    from : a * q ≤ b * p → c * p < a * r → c * q < b * r
    from h k =
        let x : a * q * r ≤ b * p * r = mul-le-mul_right r h in
        let y : c * p * q < a * r * q = mul-lt-mul_of_pos_right k Q in
        let g : c * q * p < b * r * p = omega (arith, mul_right_comm a q r, mul_right_comm b p r, mul_right_comm c p q) in
        lt_of_mul-lt-mul_right p g

-- where x is not below the number y, y is below all that x is below
pub lt_from : (x y z : Float) → is_nan y ≡ false → lt x y ≡ false → lt x z ≡ true → lt y z ≡ true
unfolding lt is_nan
lt_from nan y z n h k = absurd (never k)
lt_from (inf false) y nan n h k = absurd (never k)
lt_from (inf false) y (inf u) n h k = absurd (never k)
lt_from (inf false) y (fin u l g) n h k = absurd (never k)
lt_from (inf true) nan z n h k = absurd (never (sym n))
lt_from (inf true) (inf false) z n h k = absurd (never (sym h))
lt_from (inf true) (inf true) z n h k = k
lt_from (inf true) (fin t j d) z n h k = absurd (never (sym h))
lt_from (fin s m e) nan z n h k = absurd (never (sym n))
lt_from (fin s m e) (inf false) z n h k = absurd (never (sym h))
lt_from (fin s m e) (inf true) nan n h k = absurd (never k)
lt_from (fin s m e) (inf true) (inf u) n h k = k
lt_from (fin s m e) (inf true) (fin u l g) n h k = refl
lt_from (fin s m e) (fin t j d) nan n h k = absurd (never k)
lt_from (fin s m e) (fin t j d) (inf u) n h k = k
lt_from (fin s m e) (fin t j d) (fin u l g) n h k =
    below-from s t u (m * up e) (j * up d) (l * up g) (down e) (down d) (down g) (down_pos e) (down_pos d) (down_pos g) h k

same : (a : ℕ) → ltb a a ≡ false
same a = le-ltb a a (omega arith)

pub lt_never : (x : Float) → lt x x ≡ false
unfolding lt
lt_never nan = refl
lt_never (inf true) = refl
lt_never (inf false) = refl
lt_never (fin true m e) = same (m * up e * down e)
lt_never (fin false m e) = same (m * up e * down e)

-- ---- the same on both sides of a box
pub beyond_never : (side : Side) (a : Float) → beyond side a a ≡ false
beyond_never least a = lt_never a
beyond_never greatest a = lt_never a

pub beyond-over : (side : Side) (a b c : Float) → beyond side a b ≡ true → beyond side b c ≡ true → beyond side a c ≡ true
beyond-over least a b c h k = lt_over a b c h k
beyond-over greatest a b c h k = lt_over c b a k h
