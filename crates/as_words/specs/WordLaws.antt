-- A state that is kept in words is the state.
use Rattle.std.specs.Prelude.{◌≡◌, refl, Bool, true, false, List, ℕ, ◌+◌, ◌*◌, ◌≤◌, ◌<◌, Some, None}
use Rattle.std.proofs.Common.{sym, ap, ◌∙◌, arith, eq-eqb, ne_eqb}
use Rattle.kinds.specs.Event.{bit_set}
use Rattle.runs.specs.Events.{Took}
use Rattle.asking.specs.declared.typing.Typing.{Typing}
use Rattle.writing.specs.Feature.{Feature}
use Rattle.writing.specs.declared.state.State.{State}
use Rattle.writing.specs.State.{Wrote}
use Rattle.as_words.specs.Words.{byte_of, typing_of, feature_by, pending_of, state_of, is_numbered, number_of, mark, head_of, words_of_pending, words_of, words_after, words_after_all}

pub mark_most : {r : ℕ} (on : Bool) (bit : ℕ) → r ≡ mark on bit → r ≤ bit
mark_most true bit h = omega arith
mark_most false bit h = omega arith

-- ---- the first word holds four bytes, and its highest four marks
module _ (a b c d : ℕ) (ha : a < 256) (hb : b < 256) (hc : c < 256) (hd : d < 256) where
  abbrev word : ℕ
  word = a + 256 * b + 65536 * c + 16777216 * d

  first_byte : byte_of word 1 ≡ a
  first_byte = omega arith

  second_byte : byte_of word 256 ≡ b
  second_byte = omega arith

  third_byte : byte_of word 65536 ≡ c
  third_byte = omega arith

  fourth_byte : byte_of word 16777216 ≡ d
  fourth_byte = omega arith

abbrev marks : Bool → Bool → Bool → Bool → ℕ
marks a b c d = mark a 1 + mark b 2 + mark c 4 + mark d 8

marks_most : (a b c d : Bool) → marks a b c d < 256
marks_most a b c d = omega (arith, mark_most a 1 refl, mark_most b 2 refl, mark_most c 4 refl, mark_most d 8 refl)

each-mark : (a b c d : Bool) → (bit_set (marks a b c d) 1 ≡ a) × (bit_set (marks a b c d) 2 ≡ b) × (bit_set (marks a b c d) 4 ≡ c) × (bit_set (marks a b c d) 8 ≡ d)
each-mark true true true true = (refl, refl, refl, refl)
each-mark true true true false = (refl, refl, refl, refl)
each-mark true true false true = (refl, refl, refl, refl)
each-mark true true false false = (refl, refl, refl, refl)
each-mark true false true true = (refl, refl, refl, refl)
each-mark true false true false = (refl, refl, refl, refl)
each-mark true false false true = (refl, refl, refl, refl)
each-mark true false false false = (refl, refl, refl, refl)
each-mark false true true true = (refl, refl, refl, refl)
each-mark false true true false = (refl, refl, refl, refl)
each-mark false true false true = (refl, refl, refl, refl)
each-mark false true false false = (refl, refl, refl, refl)
each-mark false false true true = (refl, refl, refl, refl)
each-mark false false true false = (refl, refl, refl, refl)
each-mark false false false true = (refl, refl, refl, refl)
each-mark false false false false = (refl, refl, refl, refl)

-- ---- a number that is held comes back, and so does none
feature_back : (f : Feature) → feature_by (is_numbered f) (number_of f) ≡ f
feature_back None = refl
feature_back (Some n) = refl

-- ---- a state's three bytes are bytes, as those of a value of its type are
pub record InBytes (h : Typing) : Type 0 where
  pub declared : h.declared < 256
  pub current : h.current < 256
  pub mode : h.mode < 256

pub state-words : (s : State) → InBytes s.typing → state_of (words_of s) ≡ s
unfolding state_of words_of words_of_pending typing_of pending_of head_of
state-words s bytes =
    let h = s.typing in
    let held : Bool = is_numbered s.feature in
    let d : ℕ = marks h.detect h.promote s.waiting held in
    let most : d < 256 = marks_most h.detect h.promote s.waiting held in
    let each = each-mark h.detect h.promote s.waiting held in
    rw (
      first_byte h.declared h.current h.mode d bytes.declared bytes.current bytes.mode most,
      second_byte h.declared h.current h.mode d bytes.declared bytes.current bytes.mode most,
      third_byte h.declared h.current h.mode d bytes.declared bytes.current bytes.mode most,
      fourth_byte h.declared h.current h.mode d bytes.declared bytes.current bytes.mode most,
      each.0,
      each.1,
      each.2,
      each.3,
      feature_back s.feature,
    )

-- ---- a call's words
module _ (words : List ℕ) (r : Wrote) where
  pub done-words : {after : List ℕ} → r.number ≡ 0 → after ≡ words_of r.state → after ≡ words_after words r
  unfolding words_after
  done-words h e = rw (eq-eqb r.number 0 h) e

  pub refused_words : (r.number ≡ 0 → ⊥) → words ≡ words_after words r
  unfolding words_after
  refused_words h = rw (ne_eqb r.number 0 h)

  -- done, the words hold the state that the call handed back; refused, the state that it was given
  pub done-state : InBytes r.state.typing → r.number ≡ 0 → state_of (words_after words r) ≡ r.state
  done-state bytes h = ap state_of (sym (done-words h refl)) ∙ state-words r.state bytes

  pub refused_state : (r.number ≡ 0 → ⊥) → state_of (words_after words r) ≡ state_of words
  refused_state h = ap state_of (sym (refused_words h))

-- ---- events: the words change where one was taken
module _ (words : List ℕ) (r : Took) where
  pub taken-words : {after : List ℕ} → (r.taken ≡ 0 → ⊥) → after ≡ words_of r.state → after ≡ words_after_all words r
  unfolding words_after_all
  taken-words h e = rw (ne_eqb r.taken 0 h) e

  pub untaken_words : r.taken ≡ 0 → words ≡ words_after_all words r
  unfolding words_after_all
  untaken_words h = rw (eq-eqb r.taken 0 h)
