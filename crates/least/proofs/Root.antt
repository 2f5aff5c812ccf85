-- A root that is read as a geometry weighs the least, with its parts.
use Rattle.std.specs.Prelude.{◌≡◌, Bool, length}
use Rattle.std.proofs.Common.{◌∙◌}
use Rattle.std.proofs.Math.Bool.{true, false}
use mathlib.Core.List.{List, [], ◌∷◌}
use Rattle.std.proofs.Math.Option.{Option, none, some}
use Prim.Native.Nat.{ℕ, zero, suc, ◌+◌, ◌≤◌, ◌<◌}
use native.Mathlib.Omega.{arith}
use Rattle.laws.specs.Script.{Script, stop, ◌⨟◌}
use Rattle.laws.specs.Framed.{framed, seq_seq}
use Rattle.kinds.specs.Event.{begin_e, end_e}
use Rattle.kinds.specs.declared.event.Event.{Event}
use Rattle.kinds.specs.declared.flags.Flags.{Flags}
use Rattle.store.specs.Lists.{Rec}
use Rattle.coords.specs.Coords.{coords_of}
use Rattle.lines.specs.Lines.{or_none, flat_s, polygon_s, point_s}
use Rattle.reader.specs.Reading.{parts_s, span_s, found, polygon_part, kind_s, geometry_s, root_s}
use Rattle.geometries.specs.Geometry.{Coord, Line, Rings, Simple, point, line_string, polygon, multi_point, multi_line_string, multi_polygon, circular_string, compound_curve, curve_polygon, multi_curve, multi_surface, polyhedral_surface, tin, triangle, type_of}
use Rattle.geometries.specs.Events.{each, group, coord_of, line_of, simple_of}
use Rattle.format.specs.Format.{joined}
use Rattle.geometries.specs.Told.{told, then-done}
use Rattle.least.specs.Size.{count, numbers, weight}
use Rattle.least.specs.Sums.{weights, span_weight}
use Rattle.least.specs.Least.{sum, words, of_pairs, ends, of_lines, least_of}
use Rattle.least.specs.Said.{rest, sizes, mute}
use Rattle.least.specs.Values.{zV, mV, tV, tmV, words-tally, count-seen}
use Rattle.least.specs.Pairs.{end_low, Room, of_between, of_flat}
use Rattle.least.specs.Lines.{of_stretches, of_multi, of_one_triangle, of_tin_lem}

module _ (F : Flags) where
  room-numbers : (r : Rec) (cs : List Coord) (c : ℕ) → Room F r.xy (coords_of F r).lanes 0 cs → c ≤ count r.ends → sum (words F) cs + c ≤ numbers r
  unfolding numbers
  room-numbers r cs c h k =
      omega (arith, words-tally F cs, h.xy, h.values zV, count-seen F r zV, h.values mV, count-seen F r mV, h.values tV, count-seen F r tV, h.values tmV, count-seen F r tmV)

  pairs_least : (r : Rec) (cs : List Coord) → Room F r.xy (coords_of F r).lanes 0 cs → of_pairs F cs ≤ weight (some r)
  pairs_least r cs h = omega (arith, room-numbers r cs 0 h (omega arith))

  lines_least : (r : Rec) (ls : List Line) → Room F r.xy (coords_of F r).lanes 0 (joined ls) → ends ls ≤ count r.ends → of_lines F ls ≤ weight (some r)
  lines_least r ls h k = omega (arith, room-numbers r (joined ls) (ends ls) h k)

  -- ---- a record alone
  of_line_lem : (r : Rec) (type : ℕ) (tagged : Bool) (cs : List Coord) → type < 32 → flat_s (coords_of F r) type tagged 0 ≡ told (group type tagged (coord_of F) cs 0 []) → of_pairs F cs ≤ weight (some r)
  unfolding flat_s
  of_line_lem r type tagged cs low h = pairs_least r cs (of_flat F r.xy (coords_of F r).lanes type tagged 0 (stop 0) _ cs 0 [] low (then-done _ ∙ h)).0

  of_point_lem : (r : Rec) (c : Coord) → point_s (coords_of F r) 0 ≡ told (simple_of F (point c) 0 []) → of_pairs F (c ∷ []) ≤ weight (some r)
  unfolding point_s framed
  of_point_lem r c h =
      let low = end_low 1 false 0 (omega arith) in
      pairs_least r (c ∷ []) (of_between F r.xy (coords_of F r).lanes 0 1 (end_e 1 false 0) (end_e 1 false 0) (stop 0) [] (c ∷ []) low low (rest h)).0

  of_polygon_lem : (r : Rec) (tagged : Bool) (i : ℕ) (t : Script Event) (rs : Rings) (j : ℕ) (k : List Event) → polygon_s F r tagged i ⨟ t ≡ told (group 3 tagged (line_of F) rs j k) → (of_lines F rs ≤ weight (some r)) × (t ≡ told k)
  unfolding polygon_s
  of_polygon_lem r tagged i t rs j k h =
      let s = of_stretches F r.xy (coords_of F r).lanes 3 tagged i (or_none r.ends) t rs j k h in
      (lines_least r rs s.room s.ends_in, s.after)

  -- ---- a root over polygons
  module _ (get : ℕ → Option Rec) (left : ℕ) where
    of_parts : (c n i : ℕ) (t : Script Event) (ps : List Rings) (j : ℕ) (k : List Event) → c ≡ length ps → parts_s (polygon_part F (suc left) get) c n i ⨟ t ≡ told (each (group 3 false (line_of F)) ps j k) → sum (of_lines F) ps ≤ weights get c n
    unfolding parts_s polygon_part
    of_parts zero n i t [] j k e h = omega arith
    of_parts zero n i t (p ∷ ps) j k e h = absurd (omega arith)
    of_parts (suc c) n i t [] j k e h = absurd (omega arith)
    of_parts (suc c) n i t (p ∷ ps) j k e h = go (get n) h (of_parts c (n + 1) (i + 1) t ps (j + 1) k (omega arith))
      where
        go : (o : Option Rec) → (found o (λ r. polygon_s F r false i) ⨟ parts_s (polygon_part F (suc left) get) c (n + 1) (i + 1)) ⨟ t ≡ told (each (group 3 false (line_of F)) (p ∷ ps) j k) → (parts_s (polygon_part F (suc left) get) c (n + 1) (i + 1) ⨟ t ≡ told (each (group 3 false (line_of F)) ps (j + 1) k) → sum (of_lines F) ps ≤ weights get c (n + 1))
            → sum (of_lines F) (p ∷ ps) ≤ weight o + weights get c (n + 1)
        go none h f = unfold ◌⨟◌ in mute h
        go (some r) h f =
            let s = of_polygon_lem r false i _ p j _ (rw seq_seq at h) in
            omega (arith, s.0, f s.1)

    of_span : (o : Option (ℕ × ℕ)) (type : ℕ) (ps : List Rings) → span_s (polygon_part F (suc left) get) o type 0 ≡ told (group type false (group 3 false (line_of F)) ps 0 []) → sum (of_lines F) ps ≤ span_weight get o
    unfolding span_s framed
    of_span none type ps h = mute h
    of_span (some s) type ps h = of_parts s.1 s.0 0 _ ps 0 _ (unfold begin_e in sizes h) (rest h)

  pub of_root : (s : Simple) (get : ℕ → Option Rec) (r : Rec) → root_s F get (some r) (type_of s) ≡ told (simple_of F s 0 []) → least_of F s ≤ weight (some r) + span_weight get r.parts
  unfolding root_s geometry_s kind_s least_of
  of_root (point c) get r h = omega (arith, of_point_lem r c h)
  of_root (line_string l) get r h = omega (arith, of_line_lem r 2 true l (omega arith) h)
  of_root (polygon rs) get r h = omega (arith, (of_polygon_lem r true 0 (stop 0) rs 0 [] (then-done _ ∙ h)).0)
  of_root (multi_point cs) get r h = omega (arith, of_line_lem r 4 false cs (omega arith) h)
  of_root (multi_line_string ls) get r h = let s = of_multi F r.xy (coords_of F r).lanes (or_none r.ends) ls h in omega (arith, lines_least r ls s.room s.ends_in)
  of_root (multi_polygon ps) get r h = omega (arith, of_span get 14 r.parts 6 ps h)
  of_root (circular_string l) get r h = omega (arith, of_line_lem r 8 false l (omega arith) h)
  of_root (compound_curve ss) get r h = omega arith
  of_root (curve_polygon cs) get r h = omega arith
  of_root (multi_curve cs) get r h = omega arith
  of_root (multi_surface ss) get r h = omega arith
  of_root (polyhedral_surface ps) get r h = omega (arith, of_span get 14 r.parts 15 ps h)
  of_root (tin ts) get r h = let s = of_tin_lem F r.xy (coords_of F r).lanes (or_none r.ends) ts h in omega (arith, lines_least r ts s.0 s.1)
  of_root (triangle l) get r h = omega (arith, lines_least r (l ∷ []) (of_one_triangle F r.xy (coords_of F r).lanes (or_none r.ends) l h) (omega arith))

  -- a geometry has an event
  pub some-event : {A : Type 0} {c : ℕ} (s : Simple) → stop c ≡ told (simple_of F s 0 []) → A
  some-event (point c) h = mute h
  some-event (line_string l) h = mute h
  some-event (polygon rs) h = mute h
  some-event (multi_point cs) h = mute h
  some-event (multi_line_string ls) h = mute h
  some-event (multi_polygon ps) h = mute h
  some-event (circular_string l) h = mute h
  some-event (compound_curve ss) h = mute h
  some-event (curve_polygon cs) h = mute h
  some-event (multi_curve cs) h = mute h
  some-event (multi_surface ss) h = mute h
  some-event (polyhedral_surface ps) h = mute h
  some-event (tin ts) h = mute h
  some-event (triangle l) h = mute h
