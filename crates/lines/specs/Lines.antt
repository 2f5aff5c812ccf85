-- SPEC 7.10 to 7.17: the walks of geometry_reader.rs over a record's own lists, and what each says.
use Rattle.std.specs.Prelude.{Bool, false, cond, ◌||◌, List, [], ◌∷◌, ℕ, ◌+◌, ◌-◌, ◌/◌, length, leb, ltb}
use Rattle.std.proofs.Math.Option.{Option, none, some}
use Rattle.laws.specs.Script.{Script, stop, ◌⨟◌}
use Rattle.laws.specs.Framed.{framed}
use Rattle.kinds.specs.Event.{begin_e, end_e}
use Rattle.kinds.specs.declared.event.Event.{Event}
use Rattle.kinds.specs.declared.flags.Flags.{Flags}
use Rattle.store.specs.Lists.{Rec}
use Rattle.coords.specs.Coords.{Coords, Lanes, coords_of, coords_s, between_s}

-- an absent list of ends has no end
abbrev pub or_none : Option (List ℕ) → List ℕ
or_none none = []
or_none (some l) = l

-- with at most one end the whole list is one stretch (SPEC 7.10)
abbrev pub single : List ℕ → Bool
single ends = leb (length ends) 1

abbrev pub stretches : List ℕ → ℕ
stretches ends = cond (single ends) 1 (length ends)

-- an end that is 2^31 or larger, or less than the end before it (SPEC 7.11)
abbrev pub bad_end : ℕ → ℕ → Bool
bad_end before end = ltb end before || leb 2147483648 end

-- read_multilinestring_part: the line from pair `before` to pair `end`; 8 stands before its begin
unfoldable pub stretch_s : Coords → ℕ → ℕ → ℕ → Script Event
stretch_s C before end idx = cond (bad_end before end) (stop 8) (framed (begin_e 2 false (end - before) idx) (between_s C.many C.xy C.lanes before end) (end_e 2 false idx))

-- a line from each end to the next
unfoldable pub lines_s : Coords → List ℕ → ℕ → ℕ → Script Event
lines_s C [] before idx = stop 0
lines_s C (end ∷ ends) before idx = stretch_s C before end idx ⨟ lines_s C ends end (idx + 1)

-- LineString, MultiPoint, CircularString: the whole list as one line
unfoldable pub flat_o : Bool → Option (List ℕ) → Lanes → ℕ → Bool → ℕ → Script Event
flat_o many none L type tagged idx = stop 1
flat_o many (some l) L type tagged idx = framed (begin_e type tagged (length l / 2) idx) (coords_s many L l 0 0) (end_e type tagged idx)

unfoldable pub flat_s : Coords → ℕ → Bool → ℕ → Script Event
flat_s C type tagged idx = flat_o C.many C.xy C.lanes type tagged idx

unfoldable pub rings_s : Coords → List ℕ → Script Event
rings_s C ends = cond (single ends) (flat_s C 2 false 0) (lines_s C ends 0 0)

-- a begin, the lines, an end
unfoldable pub stretches_s : ℕ → Bool → ℕ → Coords → List ℕ → Script Event
stretches_s type tagged idx C ends = framed (begin_e type tagged (stretches ends) idx) (rings_s C ends) (end_e type tagged idx)

-- read_polygon
unfoldable pub polygon_s : Flags → Rec → Bool → ℕ → Script Event
polygon_s F r tagged idx = stretches_s 3 tagged idx (coords_of F r) (or_none r.ends)

-- with 0 or 1 ends and no xy list, nothing
abbrev pub if_there : Option (List ℕ) → Script Event → Script Event
if_there none s = stop 0
if_there (some l) s = s

-- read_multilinestring
unfoldable pub multi_line_s : Coords → List ℕ → ℕ → Script Event
multi_line_s C ends idx = cond (single ends) (if_there C.xy (stretches_s 5 false idx C ends)) (stretches_s 5 false idx C ends)

-- read_triangle: a triangle for each end, its line numbered 0; 8 stands after the triangle's begin
unfoldable pub triangle_at : Coords → Bool → ℕ → ℕ → ℕ → Script Event
triangle_at C tagged before end idx = framed (begin_e 17 tagged 1 idx) (stretch_s C before end 0) (end_e 17 tagged idx)

unfoldable pub triangles_s : Coords → List ℕ → Bool → ℕ → ℕ → Script Event
triangles_s C [] tagged before idx = stop 0
triangles_s C (end ∷ ends) tagged before idx = triangle_at C tagged before end idx ⨟ triangles_s C ends tagged end (idx + 1)

unfoldable pub triangle_s : Coords → List ℕ → Bool → ℕ → Script Event
triangle_s C ends tagged idx = cond (single ends) (if_there C.xy (stretches_s 17 tagged idx C ends)) (triangles_s C ends tagged 0 0)

-- read_tin
unfoldable pub tin_s : Coords → List ℕ → ℕ → Script Event
tin_s C ends idx = framed (begin_e 16 false (stretches ends) idx) (triangle_s C ends false 0) (end_e 16 false idx)

-- Point: the first pair
unfoldable pub point_s : Coords → ℕ → Script Event
point_s C idx = framed (begin_e 1 false 0 idx) (between_s C.many C.xy C.lanes 0 1) (end_e 1 false idx)
