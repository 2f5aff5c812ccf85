-- A begin, a body and an end; and the steps of a walk that says a script part by part.
use Rattle.std.specs.Prelude.{◌≡◌, refl, List, ℕ, zero, suc}
use Rattle.std.proofs.Common.{ap, ◌∙◌}
use Rattle.laws.specs.Script.{Script, stop, say, one, ◌⨟◌, Out, out, Format, run, run_stop, seq_done, seq_refused}

unfoldable pub framed : {A : Type 0} → A → Script A → A → Script A
framed b m e = say b (m ⨟ one e)

pub seq_seq : {A : Type 0} (s t u : Script A) → (s ⨟ t) ⨟ u ≡ s ⨟ (t ⨟ u)
unfolding ◌⨟◌
seq_seq (stop zero) t u = refl
seq_seq (stop (suc c)) t u = refl
seq_seq (say a s) t u = ap (say a) (seq_seq s t u)

module _ {A : Type 0} (F : Format A) where
  -- ---- in the course of a walk: X is what the whole gives, S what is left to say to the log L of n records

  -- the first part of what is left is done
  pub went_on : {X : Out} {S : Script A} (s t : Script A) (L : List ℕ) (n : ℕ) {c n' : ℕ} {L' : List ℕ} → X ≡ run F S L n → S ≡ s ⨟ t → run F s L n ≡ out c n' L' → c ≡ 0 → X ≡ run F t L' n'
  went_on s t L n {c} {n'} {L'} x p e z = x ∙ ap (λ (q : Script A). run F q L n) p ∙ seq_done F s t L n (e ∙ ap (λ (k : ℕ). out k n' L') z)

  -- the first part of what is left refuses
  pub broke_off : {X : Out} {S : Script A} (s t : Script A) (L : List ℕ) (n : ℕ) {c n' : ℕ} {L' : List ℕ} → X ≡ run F S L n → S ≡ s ⨟ t → run F s L n ≡ out c n' L' → (c ≡ 0 → ⊥) → X ≡ out c n' L'
  broke_off s t L n x p e r = x ∙ ap (λ (q : Script A). run F q L n) p ∙ seq_refused F s t L n e r

  -- nothing is left but a number
  pub ended : {X : Out} {S : Script A} (L : List ℕ) (n c : ℕ) → X ≡ run F S L n → S ≡ stop c → X ≡ out c n L
  ended L n c x p = x ∙ ap (λ (q : Script A). run F q L n) p ∙ run_stop F c L n

  -- ---- each return of a function that says a begin, a body and an end
  module _ {b b' : A} (m : Script A) (e : A) (L : List ℕ) (n : ℕ) {c n₁ : ℕ} {L₁ : List ℕ} (q : b' ≡ b) (h : run F (one b') L n ≡ out c n₁ L₁) where
    pub no_begin : (c ≡ 0 → ⊥) → run F (framed b m e) L n ≡ out c n₁ L₁
    unfolding framed ◌⨟◌
    no_begin r = seq_refused F (one b) (m ⨟ one e) L n (rw q at h) r

    pub began : c ≡ 0 → run F (framed b m e) L n ≡ run F (m ⨟ one e) L₁ n₁
    unfolding framed ◌⨟◌
    began z = seq_done F (one b) (m ⨟ one e) L n (rw (q, z) at h)

    pub no_body : {c₂ n₂ : ℕ} {L₂ : List ℕ} → c ≡ 0 → run F m L₁ n₁ ≡ out c₂ n₂ L₂ → (c₂ ≡ 0 → ⊥) → run F (framed b m e) L n ≡ out c₂ n₂ L₂
    no_body z k r = began z ∙ seq_refused F m (one e) L₁ n₁ k r

    pub to_end : {c₂ n₂ c₃ n₃ : ℕ} {L₂ L₃ : List ℕ} {e' : A} → c ≡ 0 → run F m L₁ n₁ ≡ out c₂ n₂ L₂ → c₂ ≡ 0 → e' ≡ e → run F (one e') L₂ n₂ ≡ out c₃ n₃ L₃ → run F (framed b m e) L n ≡ out c₃ n₃ L₃
    to_end {c₂} {n₂} {c₃} {n₃} {L₂} {L₃} z k z₂ p j = began z ∙ seq_done F m (one e) L₁ n₁ (k ∙ ap (λ (v : ℕ). out v n₂ L₂) z₂) ∙ rw p at j
