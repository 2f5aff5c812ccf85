-- A coordinate event: a pair with the values that it has of height, measure and times.
use Rattle.std.specs.Prelude.{Bool, true, false, cond, ◌||◌, ℕ, ◌+◌}
use Rattle.std.proofs.Math.Option.{Option, none, some}
use Rattle.kinds.specs.Event.{coordinate_e}
use Rattle.kinds.specs.declared.event.Event.{Event}
use Rattle.kinds.specs.declared.flags.Flags.{Flags}

-- multi is "any flag set"
abbrev pub multi : Flags → Bool
multi F = F.z || F.m || F.t || F.tm

abbrev pub is : Option ℕ → Bool
is none = false
is (some v) = true

-- an absent value is zero
abbrev pub or0 : Option ℕ → ℕ
or0 none = 0
or0 (some v) = v

-- present bits (z 1, m 2, t 4, tm 8)
abbrev pub bits : Bool → Bool → Bool → Bool → ℕ
bits z m t tm = cond z 1 0 + cond m 2 0 + cond t 4 0 + cond tm 8 0

unfoldable pub coord_e : ℕ → ℕ → Option ℕ → Option ℕ → Option ℕ → Option ℕ → ℕ → Event
coord_e x y z m t tm idx = coordinate_e x y (bits (is z) (is m) (is t) (is tm)) (or0 z) (or0 m) (or0 t) (or0 tm) idx
