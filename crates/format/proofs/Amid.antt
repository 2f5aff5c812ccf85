-- The writer in the midst of a geometry: what is pending is the coordinates and ends so far.
use Rattle.std.specs.Prelude.{◌≡◌, false, List, [], ◌∷◌, ◌++◌, map, ℕ, ◌+◌, length, eqb}
use Rattle.std.proofs.Math.Path.{refl}
use Rattle.std.proofs.Common.{append_assoc, append-nil, length-append}
use Rattle.kinds.specs.Event.{end_e}
use Rattle.kinds.specs.declared.event.Event.{Event}
use Rattle.kinds.specs.declared.flags.Flags.{Flags}
use Rattle.store.specs.Lists.{Rec}
use Rattle.asking.specs.declared.typing.Typing.{Typing}
use Rattle.writer_model.specs.Writer.{part_of, finish_part, end_pushed, line_end, polygon_end, after, after_all}
use Rattle.geometries.specs.Geometry.{Coord, Line, Rings}
use Rattle.geometries.specs.Events.{each, group, line_of, triangle_of}
use Rattle.format.specs.Format.{joined, ends_from}
use Rattle.format.specs.FormatLaws.{half}
use Rattle.format.specs.Writable.{All, Has, HasRings}
use Rattle.format.specs.Tables.{table_of, rings_table}
use Rattle.format.specs.Amid.{amid, all_cons, on_coords, on_begin}

module _ (F : Flags) (h : Typing) where
  module _ (plain : eqb h.mode 1 ≡ false) where
    on_line_end : (cs : List Coord) (es : List ℕ) (parts : List Rec) (i : ℕ) → after (amid h cs es parts) (end_e 2 false i) ≡ amid h cs (es ++ (length cs ∷ [])) parts
    unfolding after amid end_e line_end end_pushed
    on_line_end cs es parts i = rw (plain, half)

    on_line : (l cs : List Coord) (es : List ℕ) (parts : List Rec) (i : ℕ) (k : List Event) → All (Has F) l → after_all (amid h cs es parts) (line_of F l i k) ≡ after_all (amid h (cs ++ l) (es ++ (length (cs ++ l) ∷ [])) parts) k
    on_line l cs es parts i k q = rw (all_cons, on_begin F h 2 cs es parts (length l) i refl refl, on_coords F h cs l es parts 0 _ q, all_cons, on_line_end)

    pub on_lines : (ls : List Line) (cs : List Coord) (es : List ℕ) (parts : List Rec) (i : ℕ) (k : List Event) → All (All (Has F)) ls → after_all (amid h cs es parts) (each (line_of F) ls i k) ≡ after_all (amid h (cs ++ joined ls) (es ++ ends_from (length cs) ls) parts) k
    on_lines [] cs es parts i k q = rw (append-nil cs, append-nil es)
    on_lines (l ∷ ls) cs es parts i k q = rw (on_line l cs es parts i _ q.0, on_lines ls (cs ++ l) (es ++ (length (cs ++ l) ∷ [])) parts (i + 1) k q.1) (simp (append_assoc, length-append))

    on_triangle_end : (cs : List Coord) (es : List ℕ) (parts : List Rec) (i : ℕ) → after (amid h cs es parts) (end_e 17 false i) ≡ amid h cs es parts
    unfolding after amid end_e
    on_triangle_end cs es parts i = refl

    pub on_triangles : (ls : List Line) (cs : List Coord) (es : List ℕ) (parts : List Rec) (i : ℕ) (k : List Event) → All (All (Has F)) ls → after_all (amid h cs es parts) (each (triangle_of F false) ls i k) ≡ after_all (amid h (cs ++ joined ls) (es ++ ends_from (length cs) ls) parts) k
    on_triangles [] cs es parts i k q = rw (append-nil cs, append-nil es)
    on_triangles (l ∷ ls) cs es parts i k q =
        rw (all_cons, on_begin F h 17 cs es parts 1 i refl refl, on_line l cs es parts 0 _ q.0, all_cons, on_triangle_end, on_triangles ls (cs ++ l) (es ++ (length (cs ++ l) ∷ [])) parts (i + 1) k q.1)
        (simp (append_assoc, length-append))

    on_polygon_end : (cs : List Coord) (es : List ℕ) (parts : List Rec) (i : ℕ) → after (amid h cs es parts) (end_e 3 false i) ≡ amid h [] [] (parts ++ (table_of h.current cs es ∷ []))
    unfolding after amid end_e polygon_end finish_part part_of table_of
    on_polygon_end cs es parts i = refl

    pub on_polygons : (ps : List Rings) (parts : List Rec) (i : ℕ) (k : List Event) → All (HasRings F) ps → after_all (amid h [] [] parts) (each (group 3 false (line_of F)) ps i k) ≡ after_all (amid h [] [] (parts ++ map (rings_table h.current) ps)) k
    on_polygons [] parts i k q = rw append-nil
    on_polygons (p ∷ ps) parts i k q =
        rw (all_cons, on_begin F h 3 [] [] parts (length p) i refl refl, on_lines p [] [] parts 0 _ q.0.1, all_cons, on_polygon_end, on_polygons ps (parts ++ (rings_table h.current p ∷ [])) (i + 1) k q.1, append_assoc)
