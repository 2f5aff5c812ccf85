-- Where the reader and the format part: trees that are read though they mean nothing, and trees that mean something and are refused. Each is the smallest, computed.
use Rattle.std.specs.Prelude.{◌≡◌, refl, true, false, List, [], ◌∷◌, ℕ}
use Rattle.std.proofs.Math.Option.{none, some}
use Rattle.std.proofs.Common.{arith}
use Rattle.std.proofs.Math.ListN.{get_elem?}
use Rattle.laws.specs.Every.{never}
use Rattle.laws.specs.Script.{Script, stop, say}
use Rattle.kinds.specs.Event.{begin_e, end_e, xy_e}
use Rattle.kinds.specs.declared.event.Event.{Event}
use Rattle.kinds.specs.declared.flags.Flags.{Flags}
use Rattle.store.specs.Lists.{Rec}
use Rattle.geometries.specs.Geometry.{Segment, straight, arc, compound, Surface, flat, curved, Simple, point, line_string, multi_curve, multi_surface, triangle}
use Rattle.geometries.specs.Events.{simple_of, events_of}
use Rattle.format.specs.Format.{IsSegment, IsSurface, Is, Tree}
use Rattle.geometries.specs.Told.{told}
use Rattle.format.specs.Once.{OfType, of_point, of_line, of_lines, of_compound, of_surfaces, of_tin, of_triangle}
use Rattle.format.specs.NoMeaning.{Meaningless, meaningless, heights-count, only_part}
use Rattle.format.specs.Cases.{plain, high, here, there, raised, table, heights, empty, read_under}

-- ---- read, and meaning nothing
pub record Stray (F : Flags) (recs : List Rec) (type : ℕ) (es : List Event) : Type 0 where
  pub read : read_under F recs type ≡ told es
  pub no_meaning : Meaningless recs type

-- a Point of two pairs
abbrev two_pairs : Rec
two_pairs = table 1 (1 ∷ 2 ∷ 3 ∷ 4 ∷ []) none

pub two-pairs : Stray plain (two_pairs ∷ []) 1 (events_of plain 0 (point here))
unfolding read_under events_of
two-pairs = record { read = refl; no_meaning = meaningless two_pairs [] 1 refl refl go }
  where
    go : (s : Simple) → OfType 1 s → Is (get_elem? (two_pairs ∷ [])) two_pairs s → ⊥
    go s (of_point c) h = let e = h.xy in never (cc)

-- no xy list: nothing, and that is done
pub lines_without_xy : Stray plain (empty 5 none ∷ []) 5 []
unfolding read_under
lines_without_xy = record { read = refl; no_meaning = meaningless (empty 5 none) [] 5 refl refl go }
  where
    go : (s : Simple) → OfType 5 s → Is (get_elem? (empty 5 none ∷ [])) (empty 5 none) s → ⊥
    go s (of_lines ls) h = let e = h.coords.xy in never (cc)

pub triangle_without_xy : Stray plain (empty 17 none ∷ []) 17 []
unfolding read_under
triangle_without_xy = record { read = refl; no_meaning = meaningless (empty 17 none) [] 17 refl refl go }
  where
    go : (s : Simple) → OfType 17 s → Is (get_elem? (empty 17 none ∷ [])) (empty 17 none) s → ⊥
    go s (of_triangle l) h = let e = h.coords.xy in never (cc)

pub tin_without_xy : Stray plain (empty 16 none ∷ []) 16 (begin_e 16 false 1 0 ∷ end_e 16 false 0 ∷ [])
unfolding read_under
tin_without_xy = record { read = refl; no_meaning = meaningless (empty 16 none) [] 16 refl refl go }
  where
    go : (s : Simple) → OfType 16 s → Is (get_elem? (empty 16 none ∷ [])) (empty 16 none) s → ⊥
    go s (of_tin ts) h = let e = h.coords.xy in never (cc)

-- a Triangle of two ends is two triangles
abbrev two_ends : Rec
two_ends = table 17 (1 ∷ 2 ∷ 3 ∷ 4 ∷ []) (some (1 ∷ 2 ∷ []))

pub two_triangles : Stray plain (two_ends ∷ []) 17 (simple_of plain (triangle (here ∷ [])) 0 (simple_of plain (triangle (there ∷ [])) 1 []))
unfolding read_under
two_triangles = record { read = refl; no_meaning = meaningless two_ends [] 17 refl refl go }
  where
    go : (s : Simple) → OfType 17 s → Is (get_elem? (two_ends ∷ [])) two_ends s → ⊥
    go s (of_triangle l) h = let e = h.ends in never (cc)

-- heights beyond the coordinates, and too few where no flag asks for them
pub spare_height : Stray high (heights (9 ∷ 8 ∷ []) ∷ []) 2 (events_of high 0 (line_string (raised ∷ [])))
unfolding read_under events_of
spare_height = record { read = refl; no_meaning = meaningless (heights (9 ∷ 8 ∷ [])) [] 2 refl refl go }
  where
    go : (s : Simple) → OfType 2 s → Is (get_elem? (heights (9 ∷ 8 ∷ []) ∷ [])) (heights (9 ∷ 8 ∷ [])) s → ⊥
    go s (of_line l) h = omega (arith, heights-count (heights (9 ∷ 8 ∷ [])) l (1 ∷ 2 ∷ []) (9 ∷ 8 ∷ []) refl refl h)

pub missing_height : Stray plain (heights [] ∷ []) 2 (events_of plain 0 (line_string (here ∷ [])))
unfolding read_under events_of
missing_height = record { read = refl; no_meaning = meaningless (heights []) [] 2 refl refl go }
  where
    go : (s : Simple) → OfType 2 s → Is (get_elem? (heights [] ∷ [])) (heights []) s → ⊥
    go s (of_line l) h = omega (arith, heights-count (heights []) l (1 ∷ 2 ∷ []) [] refl refl h)

-- a line in a MultiSurface
abbrev line_surface : List Rec
line_surface = empty 12 (some (1, 1)) ∷ table 2 (1 ∷ 2 ∷ []) none ∷ []

pub line_surface_lem : Stray plain line_surface 12 (begin_e 12 false 1 0 ∷ begin_e 2 false 1 0 ∷ xy_e 1 2 0 ∷ end_e 2 false 0 ∷ end_e 12 false 0 ∷ [])
unfolding read_under
line_surface_lem = record { read = refl; no_meaning = meaningless (empty 12 (some (1, 1))) (table 2 (1 ∷ 2 ∷ []) none ∷ []) 12 refl refl go }
  where
    no_surface : (s : Surface) → IsSurface (get_elem? line_surface) (table 2 (1 ∷ 2 ∷ []) none) s → ⊥
    no_surface (flat rs) h = let e = h.0 in omega arith
    no_surface (curved cs) h = let e = h.0 in omega arith

    go : (s : Simple) → OfType 12 s → Is (get_elem? line_surface) (empty 12 (some (1, 1))) s → ⊥
    go s (of_surfaces ss) h = let x = only_part (IsSurface (get_elem? line_surface)) _ _ ss refl h in no_surface x.0 x.1

-- a CompoundCurve in a CompoundCurve, where the root's type is not stored
abbrev curve_in_curve : List Rec
curve_in_curve = empty 0 (some (1, 1)) ∷ empty 9 (some (2, 0)) ∷ []

pub curve_in_curve_lem : Stray plain curve_in_curve 9 (begin_e 9 false 1 0 ∷ begin_e 9 false 0 0 ∷ end_e 9 false 0 ∷ end_e 9 false 0 ∷ [])
unfolding read_under
curve_in_curve_lem = record { read = refl; no_meaning = meaningless (empty 0 (some (1, 1))) (empty 9 (some (2, 0)) ∷ []) 9 refl refl go }
  where
    no_segment : (s : Segment) → IsSegment (get_elem? curve_in_curve) (empty 9 (some (2, 0))) s → ⊥
    no_segment (straight l) h = let e = h.0 in omega arith
    no_segment (arc l) h = let e = h.0 in omega arith

    go : (s : Simple) → OfType 9 s → Is (get_elem? curve_in_curve) (empty 0 (some (1, 1))) s → ⊥
    go s (of_compound ss) h = let x = only_part (IsSegment (get_elem? curve_in_curve)) _ _ ss refl h in no_segment x.0 x.1

-- a polygon, with its tag, in a CompoundCurve, where the root's stored type is a MultiSurface's
abbrev polygon_in_curve : List Rec
polygon_in_curve = empty 12 (some (1, 1)) ∷ table 3 (1 ∷ 2 ∷ []) none ∷ []

pub polygon_in_curve_lem : Stray plain polygon_in_curve 9 (begin_e 9 false 1 0 ∷ begin_e 3 true 1 0 ∷ begin_e 2 false 1 0 ∷ xy_e 1 2 0 ∷ end_e 2 false 0 ∷ end_e 3 true 0 ∷ end_e 9 false 0 ∷ [])
unfolding read_under
polygon_in_curve_lem = record { read = refl; no_meaning = meaningless (empty 12 (some (1, 1))) (table 3 (1 ∷ 2 ∷ []) none ∷ []) 9 refl refl go }
  where
    no_segment : (s : Segment) → IsSegment (get_elem? polygon_in_curve) (table 3 (1 ∷ 2 ∷ []) none) s → ⊥
    no_segment (straight l) h = let e = h.0 in omega arith
    no_segment (arc l) h = let e = h.0 in omega arith

    go : (s : Simple) → OfType 9 s → Is (get_elem? polygon_in_curve) (empty 12 (some (1, 1))) s → ⊥
    go s (of_compound ss) h = let x = only_part (IsSegment (get_elem? polygon_in_curve)) _ _ ss refl h in no_segment x.0 x.1

-- ---- meaning something, and refused: read_curve goes by the root's own type, which the header need not repeat
pub record Denied (recs : List Rec) (type : ℕ) (s : Simple) (said : Script Event) : Type 0 where
  pub means : Tree (get_elem? recs) 0 type s
  pub read : read_under plain recs type ≡ said

pub untyped_surfaces : Denied (empty 0 (some (1, 1)) ∷ table 3 (1 ∷ 2 ∷ []) none ∷ []) 12 (multi_surface (flat ((here ∷ []) ∷ []) ∷ [])) (say (begin_e 12 false 1 0) (stop 4))
unfolding read_under
untyped_surfaces =
    record {
      read = refl;
      means =
          record {
            root = empty 0 (some (1, 1));
            has = refl;
            means = (
              refl,
              record {
                from = 1;
                parts = refl;
                each = ((table 3 (1 ∷ 2 ∷ []) none, refl, (refl, record { coords = record { xy = refl; z = record { is = refl }; m = record { is = refl }; t = record { is = refl }; tm = record { is = refl } }; ends = refl })), tt);
              },
            );
          };
    }

pub curves_as_one : Denied (empty 9 (some (1, 1)) ∷ empty 9 (some (2, 0)) ∷ []) 11 (multi_curve (compound [] ∷ [])) (say (begin_e 11 false 1 0) (stop 4))
unfolding read_under
curves_as_one =
    record {
      read = refl;
      means = record { root = empty 9 (some (1, 1)); has = refl; means = (refl, record { from = 1; parts = refl; each = ((empty 9 (some (2, 0)), refl, (refl, record { from = 2; parts = refl; each = tt })), tt) }) };
    }
