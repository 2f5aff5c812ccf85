-- SPEC 6.28: which feature the events are of. None is in hand until an event is accepted, and then the one that its number names.
use Rattle.std.specs.Prelude.{Bool, true, ℕ, eqb, Option, Some, None}

abbrev pub Feature : Type 0
Feature = Option ℕ

-- an event of number n belongs to the feature in hand
abbrev pub belongs : Feature → ℕ → Bool
belongs None n = true
belongs (Some held) n = eqb n held
