-- SPEC 12.2, 12.4: B10, B11, and the levels, on the definition.
use Rattle.std.specs.Prelude.{◌≡◌, refl, false, [], ◌∷◌, ℕ, zero, suc, ◌+◌}
use Rattle.std.proofs.Math.Option.{Option, none, some}
use Rattle.laws.specs.Script.{Script, stop, say, ◌⨟◌}
use Rattle.laws.specs.Framed.{framed}
use Rattle.kinds.specs.declared.event.Event.{Event}
use Rattle.kinds.specs.Event.{begin_e, end_e, xy_e}
use Rattle.kinds.specs.declared.flags.Flags.{Flags}
use Rattle.store.specs.Lists.{Rec}
use Rattle.coords.specs.Coords.{pair_s, coords_s, between_s}
use Rattle.lines.specs.Lines.{stretch_s, lines_s, rings_s, stretches_s, multi_line_s, point_s}
use Rattle.reader.specs.Reading.{span_s, parts_s, kind_s, geometry_s, root_s, read_s}

abbrev pub no_flags : Flags
no_flags = record { z = false; m = false; t = false; tm = false }

-- a record alone
abbrev only : Rec → ℕ → Option Rec
only r zero = some r
only r (suc n) = none

-- B10: a Point without a pair says its begin, then 7, whatever the flags.
abbrev pub no_pair : Rec
no_pair = record { kind = 1; xy = some []; ends = none; z = none; m = none; t = none; tm = none; parts = none }

pub b10 : (F : Flags) → read_s F (only no_pair) 1 ≡ say (begin_e 1 false 0 0) (stop 7)
unfolding read_s root_s geometry_s kind_s point_s framed between_s coords_s ◌⨟◌
b10 F = refl

-- B11: a MultiLineString of 6 words with ends 3, 2 says six events, then 8.
abbrev pub falling : Rec
falling = record { kind = 5; xy = some (10 ∷ 11 ∷ 12 ∷ 13 ∷ 14 ∷ 15 ∷ []); ends = some (3 ∷ 2 ∷ []); z = none; m = none; t = none; tm = none; parts = none }

pub b11 : read_s no_flags (only falling) 5
    ≡ say (begin_e 5 false 2 0)
    (say (begin_e 2 false 3 0) (say (xy_e 10 11 0) (say (xy_e 12 13 1) (say (xy_e 14 15 2) (say (end_e 2 false 0) (stop 8))))))
unfolding read_s root_s geometry_s kind_s multi_line_s stretches_s rings_s lines_s stretch_s framed between_s coords_s pair_s ◌⨟◌
b11 = refl

-- Each record is a collection of the next: sixteen begin, and the part at level 17 gives 13.
abbrev pub endless : ℕ → Option Rec
endless n = some (record { kind = 7; xy = none; ends = none; z = none; m = none; t = none; tm = none; parts = some (n + 1, 1) })

abbrev begins : ℕ → Script Event
begins zero = stop 13
begins (suc n) = say (begin_e 7 false 1 0) (begins n)

pub level_17 : (F : Flags) → read_s F endless 0 ≡ begins 16
unfolding read_s root_s geometry_s kind_s span_s parts_s framed ◌⨟◌
level_17 F = refl
