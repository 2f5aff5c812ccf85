-- What a record and a file can hold: counts that a u32 holds, and x and y as the bit patterns of doubles, which a u64 holds.
use Rattle.std.specs.Prelude.{List, [], ◌∷◌, ℕ, zero, suc, ◌<◌, length}
use Rattle.planar.specs.Geometry.{Coord, Line, Rings, Simple, point, line_string, polygon, multi_point, multi_line_string, multi_polygon, simple, collection, Geometry}

-- something said of each member of a list
abbrev pub Each {ℓ} : {A : Type ℓ} → (A → Type 0) → List A → Type 0
Each P [] = Unit {0}
Each P (a ∷ l) = P a × Each P l

-- a list that a u32 can count, and something said of each
abbrev pub Row : {A : Type 0} → (A → Type 0) → List A → Type 0
Row P xs = (length xs < 4294967296) × Each P xs

abbrev pub FitsCoord : Coord → Type 0
FitsCoord c = (c.x < 18446744073709551616) × (c.y < 18446744073709551616)

abbrev pub FitsLine : Line → Type 0
FitsLine = Row FitsCoord

abbrev pub FitsRings : Rings → Type 0
FitsRings = Row FitsLine

abbrev pub FitsSimple : Simple → Type 0
FitsSimple (point c) = FitsCoord c
FitsSimple (line_string l) = FitsLine l
FitsSimple (polygon rs) = FitsRings rs
FitsSimple (multi_point cs) = Row FitsCoord cs
FitsSimple (multi_line_string ls) = Row FitsLine ls
FitsSimple (multi_polygon ps) = Row FitsRings ps

abbrev pub Fits : (n : ℕ) → Geometry n → Type 0
Fits zero s = FitsSimple s
Fits (suc n) (simple s) = FitsSimple s
Fits (suc n) (collection gs) = Row (Fits n) gs
