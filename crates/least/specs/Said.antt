-- Scripts that are equal say the same, event by event.
use Rattle.std.specs.Prelude.{◌≡◌, ℕ}
use Rattle.std.proofs.Common.{ap, arith}
use Rattle.laws.specs.Script.{Script, stop, say}
use Rattle.kinds.specs.declared.event.Event.{Event}

module _ {a b : Event} {s t : Script Event} (h : say a s ≡ say b t) where
  pub said : a ≡ b
  said = cc

  pub rest : s ≡ t
  rest = cc

  pub kinds : a.kind ≡ b.kind
  kinds = ap (λ (e : Event). e.kind) said

  pub sizes : a.size ≡ b.size
  sizes = ap (λ (e : Event). e.size) said

-- a script that says nothing says no event
pub mute : {A : Type 0} {c : ℕ} {e : Event} {s : Script Event} → stop c ≡ say e s → A
mute h = let z : ◌≡◌ {A = ℕ} 0 1 = cc in absurd (omega arith)
