-- Laws of values.
use Rattle.std.specs.Prelude.{Option, Some, None, ◌≡◌, refl, Bool, true, false, cond, ◌||◌, List, ℕ, ◌^◌, ◌≤◌, ◌<◌, leb, ltb, eqb}
use Rattle.std.proofs.Common.{sym, ap, ◌∙◌, arith, eqb-true, ltb-false, leb-false, le-leb, le-ltb, eq-eqb, ne_eqb}
use Rattle.std.proofs.lemmas.Bool.{eqb-false, lt-leb}
use Rattle.laws.specs.Every.{never, neither, fails}
use Rattle.utf8.specs.Utf8.{first_bad, is_utf8, BadIs}
use Rattle.utf8.specs.Meaning.{text_utf8, bad_first, at_bad}
use Rattle.kinds.specs.declared.refusal.Refusal.{Refusal}
use Rattle.kinds.specs.Refusal.{number_of}
use Rattle.property_value.specs.Column.{width_of, is_text}
use Rattle.property_value.specs.Value.{malformed, text_ok, Checked, placed, word_of}
use Rattle.property_value.specs.declared.refused.PropertyRefusal.TheVariants.{Other}
use Rattle.property_value.specs.Refused.{Proper}

-- ---- a number's bits

pub bool_above : (bits : ℕ) → malformed 2 bits ≡ ltb 1 bits
unfolding malformed width_of
bool_above bits = go (ltb 1 bits) refl
  where
    go : (t : Bool) → ltb 1 bits ≡ t → (t || leb 256 bits) ≡ t
    go true e = refl
    go false e = lt-leb 256 bits (omega (arith, ltb-false 1 bits e))

pub beyond_width : (kind width bits : ℕ) → width ≡ width_of kind → kind < 11 → (kind ≡ 2 → ⊥) → malformed kind bits ≡ leb (256 ^ width) bits
unfolding malformed
beyond_width kind width bits e h n =
    let l : kind ≤ 14 = omega arith in
    let m : kind ≤ 10 = omega arith in
    rw e (simp (le-ltb 14 kind l, ne_eqb kind 2 n, le-leb kind 10 m))

pub well_formed_lem : (kind bits : ℕ) → malformed kind bits ≡ false →
    (kind ≤ 14) × (kind ≡ 2 → bits ≤ 1) × (kind ≤ 10 → bits < 256 ^ width_of kind)
unfolding malformed
well_formed_lem kind bits e =
    let number = neither _ _ e in
    let truth = neither _ _ number.0 in (
      ltb-false 14 kind truth.0,
      (λ k. ltb-false 1 bits (fails (eqb kind 2) _ truth.1 (eq-eqb kind 2 k))),
      (λ k. leb-false (256 ^ width_of kind) bits (fails (leb kind 10) _ number.1 (le-leb kind 10 k))),
    )

-- a Bool that is written is 0 or 1, and is read as it is
pub word_back : (kind bits : ℕ) → (kind ≡ 2 → bits ≤ 1) → word_of kind bits ≡ bits
unfolding word_of
word_back kind bits h = go (eqb kind 2) refl (eqb bits 0) refl
  where
    go : (t : Bool) → eqb kind 2 ≡ t → (z : Bool) → eqb bits 0 ≡ z → cond t (cond z 0 1) bits ≡ bits
    go true e true f = sym (eqb-true bits 0 f)
    go true e false f = let k = h (eqb-true kind 2 e) in let m = eqb-false bits 0 f in omega arith
    go false e z f = refl

-- ---- a text

-- one that is refused is of a type that is held to be UTF-8, and its first bad byte is where first_bad says
pub text_fails : (kind : ℕ) (text : List ℕ) → text_ok kind text ≡ false → (is_text kind ≡ true) × BadIs text (Some (first_bad text))
unfolding text_ok
text_fails kind text e = go (is_text kind) refl e
  where
    go : (t : Bool) → is_text kind ≡ t → cond t (is_utf8 text) true ≡ false → (is_text kind ≡ true) × BadIs text (Some (first_bad text))
    go true k e = (k, bad_first text e)
    go false k e = absurd (never (sym e))

-- what is found of the bytes, by a type that is held to be UTF-8
pub checked : (kind : ℕ) (text : List ℕ) (b : Option ℕ) → is_text kind ≡ true → BadIs text b → Checked kind text b
unfolding text_ok
checked kind text None k t = rw k (text_utf8 text t)
checked kind text (Some place) k t = rw k (at_bad text place t)

-- there is one such finding
pub checked_once : (kind : ℕ) (text : List ℕ) (a b : Option ℕ) → Checked kind text a → Checked kind text b → a ≡ b
checked_once kind text None None h k = refl
checked_once kind text None (Some place) h k = absurd (never (sym k.0 ∙ h))
checked_once kind text (Some place) None h k = absurd (never (sym h.0 ∙ k))
checked_once kind text (Some place) (Some other) h k = ap Some (h.1 ∙ sym k.1)

-- ---- a refusal

-- one that has another number than a text's is told as it is to be
pub proper : (refusal : Refusal) → (number_of refusal ≡ 6 → ⊥) → Proper (Other refusal)
proper refusal other same = other (ap number_of same)

-- ---- a place

pub not-placed : (number bad : ℕ) → (number ≡ 6 → ⊥) → placed number bad ≡ 0
unfolding placed
not-placed number bad n = rw (ne_eqb number 6 n)
