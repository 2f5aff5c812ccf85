-- What is known of rounding half to even.
use Rattle.std.specs.Prelude.{◌≡◌, refl, Bool, true, false, not, ◌&&◌, ◌||◌, ltb}
use Rattle.std.proofs.Math.Path.{sym}
use Rattle.std.proofs.Common.{ap, ◌∙◌, div-one, div-le_self, mod-eq_of_lt, div-add-mod', mod-lt, mul-lt-mul_of_pos_right, mul-le-mul_right, le_of_mul-le-mul_right, div-lt_iff_lt-mul, add-mul, mul_assoc, mul_comm, arith, pow_pos, pow-add, shr-shr, ltb-true, ltb-false, eqb-true, lt-ltb, le-ltb, eq-eqb, ne_eqb}
use Rattle.std.proofs.Math.Bool.{cond}
use Prim.Native.Nat.{ℕ, suc, ◌+◌, ◌*◌, ◌/◌, ◌%◌, ◌^◌, ◌≤◌, ◌<◌}
use Rattle.std.proofs.Math.Nat.{mod-one, div-eq_of_lt, mul-div-mul_right, mul-add-mod_self_right, add-mul-div_right, add-mul-mod_self_right, mul-mod_left, pow-succ'}
use Rattle.std.proofs.Math.Dec.{eqb}
use Rattle.std.proofs.lemmas.Nat.{shl-shr, mod-pow-add}
use Rattle.std.proofs.Math.Pow.{high, low}
use Rattle.std.proofs.lemmas.Bool.{eqb-false}
use Rattle.decimal.specs.Rounding.{goes_up, half_to_even}

bit_small : (b : Bool) → cond b 1 0 ≤ 1
bit_small true = omega arith
bit_small false = omega arith

-- A whole number stays.
pub whole : (n : ℕ) → half_to_even n 1 ≡ n
unfolding half_to_even goes_up
whole n = rw (div-one, mod-one) (omega arith)

-- What is less than half of the divisor is nothing.
pub nothing : (n d : ℕ) → 2 * n < d → half_to_even n d ≡ 0
unfolding half_to_even goes_up
nothing n d h =
    let below : n < d = omega arith in
    rw (div-eq_of_lt below, mod-eq_of_lt below, le-ltb d (2 * n) (omega arith), ne_eqb (2 * n) d (λ e. omega arith))

-- A part of ten millions is ten millions at most.
pub at_most : (b d : ℕ) → b < d → half_to_even (b * 10000000) d ≤ 10000000
unfolding half_to_even
at_most b d h =
    let positive : 0 < d = omega arith in
    let scaled : b * 10000000 < d * 10000000 = omega arith in
    let under : b * 10000000 / d < 10000000 = (div-lt_iff_lt-mul positive).1 (omega arith) in
    omega (arith, bit_small (goes_up (b * 10000000) d))

pub one_more_lem : (n d : ℕ) → half_to_even n d ≤ n + 1
unfolding half_to_even
one_more_lem n d = omega (arith, div-le_self n d, bit_small (goes_up n d))

-- ---- a common factor is of no account
ltb_scaled : (a b c : ℕ) → 0 < c → ltb (a * c) (b * c) ≡ ltb a b
ltb_scaled a b c h = go (ltb a b) refl
  where
    go : (t : Bool) → ltb a b ≡ t → ltb (a * c) (b * c) ≡ t
    go true e = lt-ltb _ _ (mul-lt-mul_of_pos_right (ltb-true a b e) h)
    go false e = le-ltb _ _ (mul-le-mul_right c (ltb-false a b e))

eqb_scaled : (a b c : ℕ) → 0 < c → eqb (a * c) (b * c) ≡ eqb a b
eqb_scaled a b c h = go (eqb a b) refl
  where
    less : (x y : ℕ) → x * c ≡ y * c → x ≤ y
    less x y e = le_of_mul-le-mul_right {m = x} {n = y} {k = c} (omega arith) h

    go : (t : Bool) → eqb a b ≡ t → eqb (a * c) (b * c) ≡ t
    go true e = eq-eqb _ _ (ap (λ (n : ℕ). n * c) (eqb-true a b e))
    go false e = ne_eqb _ _ (λ same. eqb-false a b e (omega (arith, less a b same, less b a (sym same))))

rest_scaled : (n d c : ℕ) → 0 < d → 0 < c → n * c % (d * c) ≡ n % d * c
rest_scaled n d c p h =
    ap (λ (x : ℕ). x * c % (d * c)) (sym (div-add-mod' n d))
    ∙ ap (λ (x : ℕ). x % (d * c)) spread
    ∙ mul-add-mod_self_right (n / d) (d * c) (n % d * c)
    ∙ mod-eq_of_lt (mul-lt-mul_of_pos_right (mod-lt n p) h)
  where
    spread : (n / d * d + n % d) * c ≡ n / d * (d * c) + n % d * c
    spread = add-mul (n / d * d) (n % d) c ∙ ap (λ (x : ℕ). x + n % d * c) (mul_assoc (n / d) d c)

pub common_factor : (n d c : ℕ) → 0 < d → 0 < c → half_to_even (n * c) (d * c) ≡ half_to_even n d
unfolding half_to_even goes_up
common_factor n d c p h =
    rw (mul-div-mul_right {m = c} n d h, rest_scaled n d c p h, twice, ltb_scaled d (2 * (n % d)) c h, eqb_scaled (2 * (n % d)) d c h)
  where
    twice : 2 * (n % d * c) ≡ 2 * (n % d) * c
    twice = sym (mul_assoc 2 (n % d) c)

-- ---- a whole part may be taken out: ten millions are even
pub apart : (a b d : ℕ) → 0 < d → half_to_even ((a * d + b) * 10000000) d ≡ a * 10000000 + half_to_even (b * 10000000) d
unfolding half_to_even goes_up
apart a b d h =
    rw (
      spread,
      add-mul-div_right (b * 10000000) (a * 10000000) h,
      add-mul-mod_self_right (b * 10000000) (a * 10000000) d,
      even (b * 10000000 / d),
    )
    (omega arith)
  where
    spread : (a * d + b) * 10000000 ≡ b * 10000000 + a * 10000000 * d
    spread =
        let turned : a * 10000000 * d ≡ a * d * 10000000 = mul_assoc a 10000000 d ∙ ap (λ (x : ℕ). a * x) (mul_comm 10000000 d) ∙ sym (mul_assoc a d 10000000) in
        omega arith

    even : (q : ℕ) → (q + a * 10000000) % 2 ≡ q % 2
    even q = omega arith

-- ---- a number in half words, by its high ones and what is left of a word
-- Half of the divisor is left or more, told by the high half words alone, but for whether anything is below them.
nearer : (h half lo : ℕ) (odd : Bool) → lo < 4294967296
    → (ltb (2 * half * 4294967296) (2 * (h * 4294967296 + lo))
    || (eqb (2 * (h * 4294967296 + lo)) (2 * half * 4294967296) && odd))
    ≡ (ltb half h || (eqb h half && (not (eqb lo 0) || odd)))
nearer h half lo odd small = go (ltb half h) (eqb h half) (eqb lo 0) refl refl refl
  where
    above : half < h → ltb (2 * half * 4294967296) (2 * (h * 4294967296 + lo)) ≡ true
    above less = lt-ltb (2 * half * 4294967296) (2 * (h * 4294967296 + lo)) (omega arith)

    go : (more same none : Bool) → ltb half h ≡ more → eqb h half ≡ same → eqb lo 0 ≡ none
        → (ltb (2 * half * 4294967296) (2 * (h * 4294967296 + lo))
        || (eqb (2 * (h * 4294967296 + lo)) (2 * half * 4294967296) && odd))
        ≡ (more || (same && (not none || odd)))
    go true same none m s n = rw (above (ltb-true half h m))
    go false true true m s n =
        let h≡ : h ≡ half = eqb-true h half s in
        let zero-low : lo ≡ 0 = eqb-true lo 0 n in
        rw (le-ltb (2 * half * 4294967296) (2 * (h * 4294967296 + lo)) (omega arith), eq-eqb (2 * (h * 4294967296 + lo)) (2 * half * 4294967296) (omega arith))
    go false true false m s n =
        let h≡ : h ≡ half = eqb-true h half s in
        let positive : 0 < lo = positive_of (eqb-false lo 0 n) in
        rw (lt-ltb (2 * half * 4294967296) (2 * (h * 4294967296 + lo)) (omega arith))
      where
        positive_of : (lo ≡ 0 → ⊥) → 0 < lo
        positive_of f = omega (arith, f)
    go false false none m s n =
        let under : h < half = omega (arith, ltb-false half h m, eqb-false h half s) in
        rw (le-ltb (2 * half * 4294967296) (2 * (h * 4294967296 + lo)) (omega arith), ne_eqb (2 * (h * 4294967296 + lo)) (2 * half * 4294967296) (λ e. omega arith))

-- What is left below a power of two, moved up.
pub moved : (n k s : ℕ) → n * 2 ^ s % 2 ^ (k + s) ≡ n % 2 ^ k * 2 ^ s
moved n k s =
    mod-pow-add (n * 2 ^ s) k s
    ∙ ap (λ (x : ℕ). x % 2 ^ k * 2 ^ s + n * 2 ^ s % 2 ^ s) (shl-shr n s)
    ∙ ap (λ (x : ℕ). n % 2 ^ k * 2 ^ s + x) (mul-mod_left n (2 ^ s))
    ∙ omega arith

module _ (hi lo k s : ℕ) (small : lo < 4294967296) (word : k + s ≡ 63) where
  quotient : (hi * 4294967296 + lo) / 2 ^ (suc k + 32) ≡ hi / 2 ^ suc k
  quotient =
      ap (λ (e : ℕ). (hi * 4294967296 + lo) / 2 ^ e) (omega arith)
      ∙ sym (shr-shr (hi * 4294967296 + lo) 32 (suc k))
      ∙ ap (λ (x : ℕ). x / 2 ^ suc k) (high hi 32 small)

  remainder : (hi * 4294967296 + lo) % 2 ^ (suc k + 32) ≡ hi % 2 ^ suc k * 4294967296 + lo
  remainder =
      mod-pow-add (hi * 4294967296 + lo) (suc k) 32
      ∙ ap (λ (x : ℕ). x % 2 ^ suc k * 4294967296 + (hi * 4294967296 + lo) % 4294967296) (high hi 32 small)
      ∙ ap (λ (x : ℕ). hi % 2 ^ suc k * 4294967296 + x) (low hi 32 small)

  divisor : 2 ^ (suc k + 32) ≡ 2 * 2 ^ k * 4294967296
  divisor = pow-add 2 (suc k) 32 ∙ ap (λ (x : ℕ). x * 4294967296) (pow-succ' 2 k)

  rest : hi * 2 ^ s % 18446744073709551616 ≡ hi % 2 ^ suc k * 2 ^ s
  rest = ap (λ (e : ℕ). hi * 2 ^ s % 2 ^ e) full ∙ moved hi (suc k) s
    where
      full : 64 ≡ suc k + s
      full = omega arith

  half_word : 9223372036854775808 ≡ 2 ^ k * 2 ^ s
  half_word = ap (λ (e : ℕ). 2 ^ e) (sym word) ∙ pow-add 2 k s

  more : ltb 9223372036854775808 (hi * 2 ^ s % 18446744073709551616) ≡ ltb (2 ^ k) (hi % 2 ^ suc k)
  more =
      ap (λ (x : ℕ). ltb x (hi * 2 ^ s % 18446744073709551616)) half_word
      ∙ ap (λ (x : ℕ). ltb (2 ^ k * 2 ^ s) x) rest
      ∙ ltb_scaled (2 ^ k) (hi % 2 ^ suc k) (2 ^ s) (pow_pos s)

  just : eqb (hi * 2 ^ s % 18446744073709551616) 9223372036854775808 ≡ eqb (hi % 2 ^ suc k) (2 ^ k)
  just =
      ap (λ (x : ℕ). eqb (hi * 2 ^ s % 18446744073709551616) x) half_word
      ∙ ap (λ (x : ℕ). eqb x (2 ^ k * 2 ^ s)) rest
      ∙ eqb_scaled (hi % 2 ^ suc k) (2 ^ k) (2 ^ s) (pow_pos s)

  tests : (b : Bool)
      → (ltb 9223372036854775808 (hi * 2 ^ s % 18446744073709551616) || (eqb (hi * 2 ^ s % 18446744073709551616) 9223372036854775808 && b))
      ≡ (ltb (2 ^ k) (hi % 2 ^ suc k) || (eqb (hi % 2 ^ suc k) (2 ^ k) && b))
  tests b =
      ap (λ (t : Bool). t || (eqb (hi * 2 ^ s % 18446744073709551616) 9223372036854775808 && b)) more
      ∙ ap (λ (t : Bool). ltb (2 ^ k) (hi % 2 ^ suc k) || (t && b)) just

  pub by-words : half_to_even (hi * 4294967296 + lo) (2 ^ (suc k + 32))
      ≡ hi / 2 ^ suc k
      + cond (ltb 9223372036854775808 (hi * 2 ^ s % 18446744073709551616)
      || (eqb (hi * 2 ^ s % 18446744073709551616) 9223372036854775808
      && (not (eqb lo 0) || eqb (hi / 2 ^ suc k % 2) 1))) 1 0
  unfolding half_to_even goes_up
  by-words =
      rw (quotient, remainder, divisor)
      (ap (λ (b : Bool). hi / 2 ^ suc k + cond b 1 0)
      (nearer (hi % 2 ^ suc k) (2 ^ k) lo (eqb (hi / 2 ^ suc k % 2) 1) small ∙ sym (tests (not (eqb lo 0) || eqb (hi / 2 ^ suc k % 2) 1))))
