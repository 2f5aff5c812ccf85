-- How what is said goes together.
use Rattle.std.specs.Prelude.{◌≡◌, refl, ℕ, Result}
use Rattle.std.proofs.Common.{ap, sym, ◌∙◌, Ok, Err}
use Rattle.laws.specs.Script.{Script, stop, one, ◌⨟◌, Format, run, run_stop, seq_done, seq_refused}
use Rattle.laws.specs.Framed.{framed}
use Rattle.laws.specs.Cut.{Said, said}
use Rattle.kinds.specs.declared.refusal.Refusal.{Refusal}
use Rattle.kinds.specs.Refusal.{answer_of, number_of, refused}
use Rattle.event_log.specs.declared.log.Log.{Log}
use Rattle.event_log.specs.Says.{Says, Going}

module _ {L A : Type 0} (format : L → Format A) where
  -- ---- a number alone, and one script after the other
  pub nothing : {R : Type 0} {u : R} (a : Log L) → Says format (stop 0) a a (Ok u)
  nothing a = record { memory = refl; layout = refl; said = run_stop (format a.layout) 0 a.bytes.now a.count }

  pub refuses : {R : Type 0} (e : Refusal) (a : Log L) → Says {R = R} format (stop (number_of e)) a a (Err e)
  refuses e a = record { memory = refl; layout = refl; said = run_stop (format a.layout) (number_of e) a.bytes.now a.count }

  pub both : {R R' : Type 0} {s t : Script A} {a b c : Log L} {u : R} {r : Result R' Refusal} → Says format s a b (Ok u) → Says format t b c r → Says format (s ⨟ t) a c r
  both {s = s} {t = t} {a = a} {b = b} first second =
      record {
        memory = second.memory ∙ first.memory;
        layout = second.layout ∙ first.layout;
        said = seq_done (format a.layout) s t a.bytes.now a.count first.said ∙ ap (λ (l : L). run (format l) t b.bytes.now b.count) (sym first.layout) ∙ second.said;
      }

  pub first_refused : {R R' : Type 0} {s : Script A} (t : Script A) {a b : Log L} {e : Refusal} → Says {R = R} format s a b (Err e) → Says {R = R'} format (s ⨟ t) a b (Err e)
  first_refused {s = s} t {a = a} {e = e} first =
      record { memory = first.memory; layout = first.layout; said = seq_refused (format a.layout) s t a.bytes.now a.count first.said (refused e) }

  -- ---- in the course of a call
  pub begins : (s : Script A) (a : Log L) → Going format s s a a
  begins s a = record { memory = refl; layout = refl; left = refl }

  pub goes-on : {R : Type 0} {s t : Script A} (t₁ t₂ : Script A) {a b c : Log L} {u : R} → Going format s t a b → t ≡ t₁ ⨟ t₂ → Says format t₁ b c (Ok u) → Going format s t₂ a c
  goes-on {t = t} t₁ t₂ {a = a} {b = b} {c = c} so p now =
      record {
        memory = now.memory ∙ so.memory;
        layout = now.layout ∙ so.layout;
        left =
            so.left ∙ ap (λ (q : Script A). run (format a.layout) q b.bytes.now b.count) p
            ∙ seq_done (format a.layout) t₁ t₂ b.bytes.now b.count (ap (λ (l : L). run (format l) t₁ b.bytes.now b.count) (sym so.layout) ∙ now.said);
      }

  -- the last of it
  pub ends : {R : Type 0} {s t t' : Script A} {a b c : Log L} {r : Result R Refusal} → Going format s t a b → t ≡ t' → Says format t' b c r → Says format s a c r
  ends {t = t} {t' = t'} {a = a} {b = b} so p now =
      record {
        memory = now.memory ∙ so.memory;
        layout = now.layout ∙ so.layout;
        said =
            so.left ∙ ap (λ (q : Script A). run (format a.layout) q b.bytes.now b.count) p
            ∙ ap (λ (l : L). run (format l) t' b.bytes.now b.count) (sym so.layout) ∙ now.said;
      }

  pub breaks-off : {R R' : Type 0} {s t : Script A} (t₁ t₂ : Script A) {a b c : Log L} {e : Refusal} → Going format s t a b → t ≡ t₁ ⨟ t₂ → Says {R = R} format t₁ b c (Err e) → Says {R = R'} format s a c (Err e)
  breaks-off t₁ t₂ so p now = ends so p (first_refused t₂ now)

  -- ---- a begin, a body and an end
  pub no_begin : {R R' : Type 0} {x y : A} (m : Script A) (z : A) {a b : Log L} {e : Refusal} → y ≡ x → Says {R = R} format (one y) a b (Err e) → Says {R = R'} format (framed x m z) a b (Err e)
  unfolding framed ◌⨟◌
  no_begin {x = x} m z {a = a} {b = b} {e = e} p h = first_refused {s = one x} (m ⨟ one z) (rw p at h)

  pub no_body : {R R' R'' : Type 0} {x y : A} {m : Script A} (z : A) {a b c : Log L} {u : R} {e : Refusal} → y ≡ x → Says format (one y) a b (Ok u) → Says {R = R'} format m b c (Err e) → Says {R = R''} format (framed x m z) a c (Err e)
  unfolding framed ◌⨟◌
  no_body {x = x} {m = m} z p h k = both {s = one x} {t = m ⨟ one z} (rw p at h) (first_refused (one z) k)

  pub whole_frame : {R R' R'' : Type 0} {x y z z' : A} {m : Script A} {a b c d : Log L} {u : R} {v : R'} {r : Result R'' Refusal} → y ≡ x → Says format (one y) a b (Ok u) → Says format m b c (Ok v) → z' ≡ z → Says format (one z') c d r → Says format (framed x m z) a d r
  unfolding framed ◌⨟◌
  whole_frame {x = x} {z = z} {m = m} p h k q j = both {s = one x} {t = m ⨟ one z} (rw p at h) (both k (rw q at j))

  -- ---- a whole run, from the start of a log
  pub said_of : {R : Type 0} {s : Script A} {a b : Log L} {r : Result R Refusal} → a.count ≡ 0 → Says format s a b r → Said (format a.layout) s a.bytes.now (answer_of r) b.count b.bytes.now
  said_of {s = s} {a = a} z h = said (format a.layout) (ap (λ (n : ℕ). run (format a.layout) s a.bytes.now n) (sym z) ∙ h.said)
