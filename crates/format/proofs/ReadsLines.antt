-- Reading a record's own lists, where they mean coordinates or lines, tells of those.
use Rattle.std.specs.Prelude.{◌≡◌, Bool, ℕ, ◌+◌, ◌-◌, ◌*◌, ◌<◌, ◌≤◌, length, take, drop}
use Rattle.std.proofs.Math.Path.{refl}
use Rattle.std.proofs.Common.{ap, arith, length-append, take_at, drop_at}
use Rattle.std.proofs.Math.Bool.{true, false, cond, and-false}
use mathlib.Core.List.{List, [], ◌∷◌, ◌++◌, append_assoc, append-nil}
use Rattle.std.proofs.Math.Option.{Option, none, some}
use borrow.Author.Tests.{le-ltb, lt-leb}
use Rattle.laws.specs.Script.{Script, say, ◌⨟◌}
use Rattle.laws.specs.Framed.{framed, seq_seq}
use Rattle.kinds.specs.Event.{begin_e, end_e, xy_e}
use Rattle.kinds.specs.declared.event.Event.{Event}
use Rattle.kinds.specs.declared.flags.Flags.{Flags}
use Rattle.store.specs.Lists.{Rec}
use Rattle.geometries.specs.Coordinate.{multi, coord_e}
use Rattle.coords.specs.Coords.{head_of, Lanes, Coords as Seen, coords_of, dropped, tails, taken, coordinate_s, pair_s, coords_s, between_s}
use Rattle.lines.specs.Lines.{single, stretch_s, lines_s, flat_o, flat_s, rings_s, stretches_s, multi_line_s, triangle_at, triangles_s, if_there, triangle_s, tin_s, point_s}
use Rattle.geometries.specs.Geometry.{Coord, Line, point}
use Rattle.geometries.specs.Events.{shown, each, group, seen_as, coord_of, line_of, triangle_of, simple_of}
use Rattle.format.specs.Format.{xy_of, ByCoord, Coords, joined, ends_from}
use Rattle.geometries.specs.Told.{told, framed_then}
use Rattle.format.specs.FormatLaws.{xy_length, half, xy_append, first_of, lane_first, lane_there, lane_rest, lane_drop, lane_seen, ends-length, Cut, whole, split}

lane_taken : {f : Coord → Option ℕ} {o : Option (List ℕ)} {c : Coord} {cs : List Coord} → ByCoord o f (c ∷ cs) → (g : Option ℕ → Script Event) → taken (head_of o) g ≡ g (f c)
unfolding taken
lane_taken {f} {o} {c} {cs} h g = rw (lane_first h) (go o h)
  where
    go : (o : Option (List ℕ)) → ByCoord o f (c ∷ cs) → taken (head_of o) g ≡ g (first_of o)
    go none h = refl
    go (some []) h = absurd (lane_there h)
    go (some (v ∷ vs)) h = refl

-- what a walk has of coordinates, as the flags show them
record Fed (F : Flags) (L : Lanes) (cs : List Coord) : Type 0 where
  z : ByCoord L.z (λ c. shown F.z c.z) cs
  m : ByCoord L.m (λ c. shown F.m c.m) cs
  t : ByCoord L.t (λ c. shown F.t c.t) cs
  tm : ByCoord L.tm (λ c. shown F.tm c.tm) cs

pub record Shows (F : Flags) (C : Seen) (cs : List Coord) : Type 0 where
  many : C.many ≡ multi F
  xy : C.xy ≡ some (xy_of cs)
  fed : Fed F C.lanes cs

stretch_good : (C : Seen) (before end i : ℕ) → before ≤ end → end < 2147483648 → stretch_s C before end i ≡ framed (begin_e 2 false (end - before) i) (between_s C.many C.xy C.lanes before end) (end_e 2 false i)
unfolding stretch_s
stretch_good C before end i a b = rw (le-ltb end before a, lt-leb 2147483648 end b)

lines_cons : (C : Seen) (e : ℕ) (es : List ℕ) (before i : ℕ) (t : Script Event) → lines_s C (e ∷ es) before i ⨟ t ≡ stretch_s C before e i ⨟ (lines_s C es e (i + 1) ⨟ t)
unfolding lines_s
lines_cons C e es before i t = seq_seq _ _ t

lines_nil : (C : Seen) (before i : ℕ) (t : Script Event) → lines_s C [] before i ⨟ t ≡ t
unfolding lines_s ◌⨟◌
lines_nil C before i t = refl

triangles_cons : (C : Seen) (e : ℕ) (es : List ℕ) (tagged : Bool) (before i : ℕ) (t : Script Event) → triangles_s C (e ∷ es) tagged before i ⨟ t ≡ say (begin_e 17 tagged 1 i) (stretch_s C before e 0 ⨟ say (end_e 17 tagged i) (triangles_s C es tagged e (i + 1) ⨟ t))
unfolding triangles_s triangle_at
triangles_cons C e es tagged before i t = rw (seq_seq, framed_then)

triangles_nil : (C : Seen) (tagged : Bool) (before i : ℕ) (t : Script Event) → triangles_s C [] tagged before i ⨟ t ≡ t
unfolding triangles_s ◌⨟◌
triangles_nil C tagged before i t = refl

several : (C : Seen) (es : List ℕ) → single es ≡ false → triangle_s C es false 0 ≡ triangles_s C es false 0 0
unfolding triangle_s
several C es q = rw q

there : (o : Option (List ℕ)) (l : List ℕ) (s : Script Event) → o ≡ some l → if_there o s ≡ s
there o l s e = rw e

module _ (F : Flags) where
  pub shows : (r : Rec) (cs : List Coord) → Coords r cs → Shows F (coords_of F r) cs
  shows r cs h =
      record {
        many = refl;
        xy = h.xy;
        fed = record { z = lane_seen F.z h.z; m = lane_seen F.m h.m; t = lane_seen F.t h.t; tm = lane_seen F.tm h.tm };
      }

  fed_rest : (L : Lanes) (c : Coord) (cs : List Coord) → Fed F L (c ∷ cs) → Fed F (tails L) cs
  fed_rest L c cs h = record { z = lane_rest h.z; m = lane_rest h.m; t = lane_rest h.t; tm = lane_rest h.tm }

  fed_drop : (L : Lanes) (qs cs : List Coord) → Fed F L (qs ++ cs) → Fed F (dropped (length qs) L) cs
  fed_drop L qs cs h = record { z = lane_drop qs h.z; m = lane_drop qs h.m; t = lane_drop qs h.t; tm = lane_drop qs h.tm }

  pair-said : (L : Lanes) (c : Coord) (cs : List Coord) (n : ℕ) (k : Script Event) → Fed F L (c ∷ cs) → pair_s (multi F) L c.x c.y n k ≡ say (seen_as F c n) k
  unfolding pair_s coordinate_s
  pair-said L c cs n k h = go (multi F)
    where
      go : (b : Bool) → pair_s b L c.x c.y n k ≡ say (cond b (coord_e c.x c.y (shown F.z c.z) (shown F.m c.m) (shown F.t c.t) (shown F.tm c.tm) n) (xy_e c.x c.y n)) k
      go true = rw (lane_taken h.z, lane_taken h.m, lane_taken h.t, lane_taken h.tm)
      go false = refl

  pairs : (cs ss : List Coord) (L : Lanes) (n : ℕ) (k : List Event) → Fed F L (cs ++ ss) → coords_s (multi F) L (xy_of cs) n 0 ⨟ told k ≡ told (each (coord_of F) cs n k)
  unfolding coords_s ◌⨟◌
  pairs [] ss L n k h = refl
  pairs (c ∷ cs) ss L n k h = rw (pair-said L c (cs ++ ss) n _ h) (ap (say (seen_as F c n)) (pairs cs ss (tails L) (n + 1) k (fed_rest L c (cs ++ ss) h)))

  -- a line in the middle of coordinates
  module _ (qs l ss : List Coord) where
    middle : take (2 * (length qs + length l) - 2 * length qs) (drop (2 * length qs) (xy_of (qs ++ (l ++ ss)))) ≡ xy_of l
    middle =
        rw (xy_append qs (l ++ ss), drop_at (xy_of qs) (xy_of (l ++ ss)) (2 * length qs) (xy_length qs), xy_append l ss)
        (take_at (xy_of l) (xy_of ss) (2 * (length qs + length l) - 2 * length qs) (omega (arith, xy_length l)))

    reaches : 2 * (length qs + length l) ≤ length (xy_of (qs ++ (l ++ ss)))
    reaches = rw (xy_length (qs ++ (l ++ ss)), length-append qs (l ++ ss), length-append l ss) (omega arith)

    between : (C : Seen) (k : List Event) → Shows F C (qs ++ (l ++ ss)) → between_s C.many C.xy C.lanes (length qs) (length qs + length l) ⨟ told k ≡ told (each (coord_of F) l 0 k)
    unfolding between_s
    between C k h = rw (h.many, h.xy, middle, le-ltb _ _ reaches, and-false, pairs l ss _ 0 k (fed_drop _ qs (l ++ ss) h.fed))

    stretch : (C : Seen) (i : ℕ) (k : List Event) → Shows F C (qs ++ (l ++ ss)) → length (qs ++ (l ++ ss)) < 2147483648 → stretch_s C (length qs) (length qs + length l) i ⨟ told k ≡ told (line_of F l i k)
    stretch C i k h b =
        let d : length qs + length l - length qs ≡ length l = omega arith in
        let a : length qs ≤ length qs + length l = omega arith in
        let e : length qs + length l < 2147483648 = omega (arith, length-append qs (l ++ ss), length-append l ss) in
        rw (stretch_good C (length qs) (length qs + length l) i a e, framed_then, d) (ap (say (begin_e 2 false (length l) i)) (between C (end_e 2 false i ∷ k) h))

  lines : (C : Seen) (ls : List Line) (qs : List Coord) (i : ℕ) (k : List Event) → Shows F C (qs ++ joined ls) → length (qs ++ joined ls) < 2147483648 → lines_s C (ends_from (length qs) ls) (length qs) i ⨟ told k ≡ told (each (line_of F) ls i k)
  lines C [] qs i k h b = lines_nil _ _ _ _
  lines C (l ∷ ls) qs i k h b =
      let ih = rw length-append at (lines C ls (qs ++ l) (i + 1) k (rw append_assoc h) (rw append_assoc b)) in
      rw (lines_cons, ih, stretch qs l (joined ls) C i (each (line_of F) ls (i + 1) k) h b)

  pub flat-read : (C : Seen) (cs : List Coord) (type : ℕ) (tagged : Bool) (i : ℕ) (k : List Event) → Shows F C cs → flat_s C type tagged i ⨟ told k ≡ told (group type tagged (coord_of F) cs i k)
  unfolding flat_s flat_o
  flat-read C cs type tagged i k h = rw (h.many, h.xy, framed_then, half) (ap (say (begin_e type tagged (length cs) i)) (pairs cs [] _ 0 (end_e type tagged i ∷ k) (rw append-nil h.fed)))

  -- ---- xy split by ends
  pub stretches-read : (C : Seen) (type : ℕ) (tagged : Bool) (i : ℕ) (es : List ℕ) (ls : List Line) (k : List Event) → Shows F C (joined ls) → Cut es ls → length (joined ls) < 2147483648 → stretches_s type tagged i C es ⨟ told k ≡ told (group type tagged (line_of F) ls i k)
  unfolding stretches_s rings_s
  stretches-read C type tagged i es ls k h (whole l e q) b =
      let s : Shows F C l = rw append-nil at (rw e at h) in
      rw (e, q, framed_then, flat-read C l 2 false 0 (end_e type tagged i ∷ k) s)
  stretches-read C type tagged i es ls k h (split e n) b =
      let q : single es ≡ false = lt-leb (length es) 1 (rw (e, ends-length) n) in
      rw (q, framed_then, e, ends-length, lines C ls [] 0 (end_e type tagged i ∷ k) h b)

  pub multi-read : (C : Seen) (es : List ℕ) (ls : List Line) (i : ℕ) (k : List Event) → Shows F C (joined ls) → Cut es ls → length (joined ls) < 2147483648 → multi_line_s C es i ⨟ told k ≡ told (group 5 false (line_of F) ls i k)
  unfolding multi_line_s
  multi-read C es ls i k h c b = rw (there _ _ _ h.xy) (go (single es))
    where
      go : (q : Bool) → cond q (stretches_s 5 false i C es) (stretches_s 5 false i C es) ⨟ told k ≡ told (group 5 false (line_of F) ls i k)
      go true = stretches-read C 5 false i es ls k h c b
      go false = stretches-read C 5 false i es ls k h c b

  triangles : (C : Seen) (ls : List Line) (qs : List Coord) (i : ℕ) (k : List Event) → Shows F C (qs ++ joined ls) → length (qs ++ joined ls) < 2147483648 → triangles_s C (ends_from (length qs) ls) false (length qs) i ⨟ told k ≡ told (each (triangle_of F false) ls i k)
  triangles C [] qs i k h b = triangles_nil _ _ _ _ _
  triangles C (l ∷ ls) qs i k h b =
      let ih = rw length-append at (triangles C ls (qs ++ l) (i + 1) k (rw append_assoc h) (rw append_assoc b)) in
      rw (triangles_cons, ih, stretch qs l (joined ls) C 0 (end_e 17 false i ∷ each (triangle_of F false) ls (i + 1) k) h b)

  pub one_triangle : (C : Seen) (es : List ℕ) (l : Line) (tagged : Bool) (i : ℕ) (k : List Event) → Shows F C (joined (l ∷ [])) → single es ≡ true → length (joined (l ∷ [])) < 2147483648 → triangle_s C es tagged i ⨟ told k ≡ told (triangle_of F tagged l i k)
  unfolding triangle_s
  one_triangle C es l tagged i k h q b = rw (q, there _ _ _ h.xy) (stretches-read C 17 tagged i es (l ∷ []) k h (whole l refl q) b)

  pub tin_read : (C : Seen) (es : List ℕ) (ls : List Line) (i : ℕ) (k : List Event) → Shows F C (joined ls) → Cut es ls → length (joined ls) < 2147483648 → tin_s C es i ⨟ told k ≡ told (group 16 false (triangle_of F false) ls i k)
  unfolding tin_s
  tin_read C es ls i k h (whole l e q) b = rw (e, framed_then, one_triangle C es l false 0 (end_e 16 false i ∷ k) (rw e at h) q (rw e at b), q)
  tin_read C es ls i k h (split e n) b =
      let q : single es ≡ false = lt-leb (length es) 1 (rw (e, ends-length) n) in
      rw (framed_then, several C es q, q, e, ends-length, triangles C ls [] 0 (end_e 16 false i ∷ k) h b)

  pub point-read : (C : Seen) (c : Coord) (i : ℕ) (k : List Event) → Shows F C (c ∷ []) → point_s C i ⨟ told k ≡ told (simple_of F (point c) i k)
  unfolding point_s
  point-read C c i k h = rw framed_then (ap (say (begin_e 1 false 0 i)) (between [] (c ∷ []) [] C (end_e 1 false i ∷ k) h))
