-- Reading a tree that means a geometry tells of that geometry.
use Rattle.std.specs.Prelude.{◌≡◌, Bool, cond, not, ◌||◌, length, eqb}
use Rattle.std.proofs.Math.Bool.{true}
use Rattle.std.proofs.Math.Option.{Option, some}
use Prim.Native.Nat.{ℕ, ◌<◌}
use Rattle.store.specs.Lists.{Rec}
use Rattle.lines.specs.Lines.{or_none}

-- the numbers of a record's coordinates are below 2^31, as an end must be
abbrev pub Small : Rec → Type 0
Small r = length (or_none r.xy) < 4294967296

abbrev pub AllSmall : (ℕ → Option Rec) → Type 0
AllSmall get = (n : ℕ) (p : Rec) → get n ≡ some p → Small p

-- read_curve goes by the record's own type, whatever type the record is read under. A MultiSurface must be stored as one, or its polygons are refused;
-- a CurvePolygon or MultiCurve must not be stored as a CompoundCurve, or its compound curves are. Every other type is read in spite of what is stored
abbrev pub agrees : ℕ → ℕ → Bool
agrees type stored = cond (eqb type 12) (eqb stored 12) (cond (eqb type 10 || eqb type 11) (not (eqb stored 9)) true)
