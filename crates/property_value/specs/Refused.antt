-- What a refusal of a property comes to: a call's refusal, and the place that goes with it.
use Rattle.std.specs.Prelude.{◌≡◌, ℕ, Result}
use Rattle.std.proofs.Common.{Ok, Err}
use Rattle.kinds.specs.declared.refusal.Refusal.{Refusal}
use Rattle.kinds.specs.declared.refusal.Refusal.TheVariants.{NotUtf8 as Unspelt}
use Rattle.kinds.specs.Refusal.{number_of}
use Rattle.property_value.specs.declared.refused.PropertyRefusal.{PropertyRefusal}
use Rattle.property_value.specs.declared.refused.PropertyRefusal.TheVariants.{NotUtf8, Other}

abbrev pub refusal_of : PropertyRefusal → Refusal
refusal_of (NotUtf8 place) = Unspelt
refusal_of (Other refusal) = refusal

abbrev pub place_of : PropertyRefusal → ℕ
place_of (NotUtf8 place) = place
place_of (Other refusal) = 0

-- a refusal is told as it is to be: a text that is not UTF-8 with its place, and so never as one of the others
abbrev pub Proper : PropertyRefusal → Type 0
Proper (NotUtf8 place) = Unit
Proper (Other refusal) = refusal ≡ Unspelt → ⊥

-- the same of an answer: its number and its place say then which it is
abbrev pub Told : {A : Type 0} → Result A PropertyRefusal → Type 0
Told (Ok a) = Unit
Told (Err refusal) = Proper refusal

-- what an answer comes to, whose number and whose place are 0 where it is done
abbrev pub answer_of : {A : Type 0} → Result A PropertyRefusal → ℕ
answer_of (Ok a) = 0
answer_of (Err refusal) = number_of (refusal_of refusal)

abbrev pub answer_place : {A : Type 0} → Result A PropertyRefusal → ℕ
answer_place (Ok a) = 0
answer_place (Err refusal) = place_of refusal
