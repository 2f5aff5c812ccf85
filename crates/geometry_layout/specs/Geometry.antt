-- SPEC 3.5, 3.6: a geometry record. Type, present bits and two spare bytes; start and count, four bytes each, of xy, ends, z, m, t, tm and parts; four spare bytes.
use Rattle.std.specs.Prelude.{Option, Some, None, Bool, cond, true, false, ◌&&◌, ◌||◌, List, [], ◌∷◌, ◌++◌, ℕ, ◌+◌, length, get_or, ltb, eqb}
use Rattle.laws.specs.Bytes.{le, word_at}
use Rattle.kinds.specs.Event.{bit_set}
use Rattle.kinds.specs.Geometry.{Span, stretch, start_of, count_of}
use Rattle.kinds.specs.declared.geometry.Geometry.{Geometry}

-- ---- laid down
abbrev pub shown : Span → ℕ → ℕ
shown None bit = 0
shown (Some s) bit = bit

unfoldable pub present_of : Geometry → ℕ
present_of g = shown g.xy 1 + shown g.ends 2 + shown g.z 4 + shown g.m 8 + shown g.t 16 + shown g.tm 32 + shown g.parts 64

abbrev pub head_bytes : ℕ → ℕ → List ℕ
head_bytes type present = type ∷ present ∷ 0 ∷ 0 ∷ []

-- of an absent list both are 0 (SPEC 3.6)
abbrev pub span_bytes : Span → List ℕ
span_bytes s = le 4 (start_of s) ++ le 4 (count_of s)

unfoldable pub geometry_bytes : Geometry → List ℕ
geometry_bytes g =
    head_bytes g.kind (present_of g) ++ span_bytes g.xy ++ span_bytes g.ends ++ span_bytes g.z ++ span_bytes g.m
    ++ span_bytes g.t ++ span_bytes g.tm ++ span_bytes g.parts ++ le 4 0

-- ---- read back: the list whose pair stands at a place, if its present bit is set
abbrev pub span_if : Bool → ℕ → ℕ → Span
span_if true start count = Some (stretch start count)
span_if false start count = None

abbrev pub present : List ℕ → ℕ → Bool
present l bit = bit_set (get_or l 1 0) bit

abbrev pub span_at : List ℕ → ℕ → ℕ → Span
span_at l bit at = span_if (present l bit) (word_at 4 l at) (word_at 4 l (at + 4))

unfoldable pub geometry_of : List ℕ → Geometry
geometry_of l =
    record {
      kind = get_or l 0 0;
      xy = span_at l 1 4;
      ends = span_at l 2 12;
      z = span_at l 4 20;
      m = span_at l 8 28;
      t = span_at l 16 36;
      tm = span_at l 32 44;
      parts = span_at l 64 52;
    }

-- an absent list has no start and no count
abbrev pub absent_zero : List ℕ → ℕ → ℕ → Bool
absent_zero l bit at = present l bit || (eqb (word_at 4 l at) 0 && eqb (word_at 4 l (at + 4)) 0)

-- SPEC 3.9, as far as a record's own bytes show it: spare bytes are zero, present bits below 128, an absent list's start and count 0
unfoldable pub sound_geometry : List ℕ → Bool
sound_geometry l =
    eqb (get_or l 2 0) 0 && eqb (get_or l 3 0) 0 && eqb (word_at 4 l 60) 0 && ltb (get_or l 1 0) 128
    && absent_zero l 1 4 && absent_zero l 2 12 && absent_zero l 4 20 && absent_zero l 8 28
    && absent_zero l 16 36 && absent_zero l 32 44 && absent_zero l 64 52

-- any bytes are a geometry or bad
unfoldable pub read_geometry : List ℕ → Option Geometry
read_geometry l = cond (eqb (length l) 64 && sound_geometry l) (Some (geometry_of l)) None
