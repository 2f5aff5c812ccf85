-- The walks over a record's own lists say events that fit, where the lists are words and no longer than an index counts.
use Rattle.std.proofs.Math.Path.{refl}
use Rattle.std.specs.Prelude.{Bool, true, cond, length, get_or, take, leb, ltb}
use Rattle.std.proofs.Math.Bool.{false}
use mathlib.Core.List.{List, [], ◌∷◌}
use Rattle.std.proofs.Math.Option.{Option, none, some}
use Prim.Native.Nat.{ℕ, suc, ◌+◌, ◌-◌, ◌*◌, ◌/◌, ◌<◌, ◌≤◌}
use Rattle.std.proofs.Common.{arith, get_or-take, get_or-drop, lit<}
use Rattle.std.proofs.Math.Decide.{dec_lt}
use Rattle.std.proofs.Math.ListN.{drop, length-take, length-drop, get_or-eq_default}
use borrow.Author.Tests.{leb-false}
use Rattle.laws.specs.Every.{neither}
use Rattle.laws.specs.Script.{Script, stop}
use Rattle.kinds.specs.Event.{well_formed, begin_e, end_e}
use Rattle.kinds.specs.declared.event.Event.{Event}
use Rattle.geometries.specs.Coordinate.{or0}
use Rattle.coords.specs.Coords.{Lanes, Coords, head_of, tail_of, drop_o, dropped, tails, seen as shown, taken, coordinate_s, pair_s, coords_s, between_s}
use Rattle.lines.specs.Lines.{or_none, single, stretches, bad_end, stretch_s, lines_s, flat_o, flat_s, rings_s, stretches_s, if_there, multi_line_s, triangle_at, triangles_s, triangle_s, tin_s, point_s}
use Rattle.least.specs.Fits.{then-said, framed-said, either_said, Fits, Says, U32, U64, Frame, begin_fits_lem, end_fits_lem, frame-says, xy_fits, coord_fits}

-- ---- words of 64 bits (past a list's end `get_or` gives 0)
abbrev pub Words : List ℕ → Type 0
Words l = (i : ℕ) → U64 (get_or l i 0)

pub take_words : (n : ℕ) (l : List ℕ) → Words l → Words (take n l)
take_words n l h i = go (dec_lt i n)
  where
    go : Dec (i < n) → U64 (get_or (take n l) i 0)
    go (yes a) = rw (get_or-take n l i 0 a) (h i)
    go (no a) =
        let e : length (take n l) ≤ i = omega (arith, length-take n l) in
        rw (get_or-eq_default (take n l) 0 e) (lit< tt)

pub drop-words : (n : ℕ) (l : List ℕ) → Words l → Words (drop n l)
drop-words n l h i = rw get_or-drop (h (n + i))

-- ---- z, m, t and tm: lists that may be absent
abbrev pub WordsIn : Option (List ℕ) → Type 0
WordsIn o = Words (or_none o)

head-says : (o : Option (List ℕ)) (f : Option ℕ → Script Event) → WordsIn o → ((v : Option ℕ) → U64 (or0 v) → Says (f v)) → Says (taken (head_of o) f)
unfolding taken
head-says none f h k = k none (lit< tt)
head-says (some []) f h k = tt
head-says (some (v ∷ l)) f h k = k (some v) (h 0)

tail-words : (o : Option (List ℕ)) → WordsIn o → WordsIn (tail_of o)
tail-words none h = h
tail-words (some []) h = h
tail-words (some (v ∷ l)) h = λ i. h (suc i)

later_words : (n : ℕ) (o : Option (List ℕ)) → WordsIn o → WordsIn (drop_o n o)
later_words n none h = h
later_words n (some l) h = drop-words n l h

pub shown-words : (b : Bool) (o : Option (List ℕ)) → WordsIn o → WordsIn (shown b o)
shown-words true o h = h
shown-words false o h = λ i. lit< tt

pub record InLanes (L : Lanes) : Type 0 where
  pub z : WordsIn L.z
  pub m : WordsIn L.m
  pub t : WordsIn L.t
  pub tm : WordsIn L.tm

in_tails : (L : Lanes) → InLanes L → InLanes (tails L)
in_tails L h = record { z = tail-words L.z h.z; m = tail-words L.m h.m; t = tail-words L.t h.t; tm = tail-words L.tm h.tm }

in_dropped : (n : ℕ) (L : Lanes) → InLanes L → InLanes (dropped n L)
in_dropped n L h = record { z = later_words n L.z h.z; m = later_words n L.m h.m; t = later_words n L.t h.t; tm = later_words n L.tm h.tm }

-- ---- pairs
pair-says : (many : Bool) (L : Lanes) (x y idx : ℕ) (k : Script Event) → InLanes L → U64 x → U64 y → U32 idx → Says k → Says (pair_s many L x y idx k)
unfolding pair_s coordinate_s
pair-says false L x y idx k w p q r after = (xy_fits x y idx p q r, after)
pair-says true L x y idx k w p q r after =
    head-says L.z _ w.z
    (λ z z-fits. head-says L.m _ w.m
    (λ m m-fits. head-says L.t _ w.t
    (λ t t-fits. head-says L.tm _ w.tm
    (λ tm tm-fits. (coord_fits x y idx z m t tm p q r z-fits m-fits t-fits tm-fits, after)))))

coords_say : (many : Bool) (L : Lanes) (l : List ℕ) (idx last : ℕ) → InLanes L → Words l → U32 (idx + length l) → Says (coords_s many L l idx last)
unfolding coords_s
coords_say many L [] idx last w h short = tt
coords_say many L (x ∷ []) idx last w h short = tt
coords_say many L (x ∷ (y ∷ l)) idx last w h short =
    pair-says many L x y idx _ w (h 0) (h 1) (omega arith) (coords_say many (tails L) l (idx + 1) last (in_tails L w) (λ i. h (suc (suc i))) (omega arith))

module _ (many : Bool) (L : Lanes) (w : InLanes L) where
  between-says : (o : Option (List ℕ)) (from to : ℕ) → WordsIn o → U32 (length (or_none o)) → Says (between_s many o L from to)
  unfolding between_s
  between-says none from to h short = tt
  between-says (some l) from to h short =
      let rest : List ℕ = drop (2 * from) l in
      let size : ℕ = 2 * to - 2 * from in
      coords_say many (dropped from L) (take size rest) 0 _ (in_dropped from L w) (take_words size rest (drop-words (2 * from) l h)) (omega (arith, length-take size rest, length-drop (2 * from) l))

  whole_says : (o : Option (List ℕ)) (type : ℕ) (tagged : Bool) (idx : ℕ) → Frame type tagged → U32 idx → WordsIn o → U32 (length (or_none o)) → Says (flat_o many o L type tagged idx)
  unfolding flat_o
  whole_says none type tagged idx frame q h short = tt
  whole_says (some l) type tagged idx frame q h short = frame-says type tagged frame (length l / 2) idx (omega arith) q _ (coords_say many L l 0 0 w h (omega arith))

-- ---- the walks over a record's own lists
pub record InCoords (C : Coords) : Type 0 where
  pub xy : WordsIn C.xy
  pub short : U32 (length (or_none C.xy))
  pub lanes : InLanes C.lanes

there-says : (o : Option (List ℕ)) (s : Script Event) → Says s → Says (if_there o s)
there-says none s p = tt
there-says (some l) s p = p

stretches_few : (ends : List ℕ) → U32 (length ends) → U32 (stretches ends)
stretches_few ends h = go (single ends)
  where
    go : (b : Bool) → U32 (cond b 1 (length ends))
    go true = lit< tt
    go false = h

module _ (C : Coords) (h : InCoords C) where
  part_says : (from to : ℕ) → Says (between_s C.many C.xy C.lanes from to)
  part_says from to = between-says C.many C.lanes h.lanes C.xy from to h.xy h.short

  -- an end of 2^31 or more is refused, and so no size passes its field
  stretch_says : (before end idx : ℕ) → U32 idx → Says (stretch_s C before end idx)
  unfolding stretch_s well_formed begin_e end_e
  stretch_says before end idx q =
      either_said Fits (bad_end before end) (stop 8) _ (λ e. tt)
      (λ e. let small = leb-false 2147483648 end (neither (ltb end before) (leb 2147483648 end) e).1 in
      frame-says 2 false (λ size idx. refl) (end - before) idx (omega (arith, small)) q _ (part_says before end))

  lines_say : (ends : List ℕ) (before idx : ℕ) → U32 (idx + length ends) → Says (lines_s C ends before idx)
  unfolding lines_s
  lines_say [] before idx few = tt
  lines_say (end ∷ ends) before idx few = then-said Fits (stretch_s C before end idx) _ (stretch_says before end idx (omega arith)) (lines_say ends end (idx + 1) (omega arith))

  pub flat-says : (type : ℕ) (tagged : Bool) (idx : ℕ) → Frame type tagged → U32 idx → Says (flat_s C type tagged idx)
  unfolding flat_s
  flat-says type tagged idx frame q = whole_says C.many C.lanes h.lanes C.xy type tagged idx frame q h.xy h.short

  pub point-says : (idx : ℕ) → U32 idx → Says (point_s C idx)
  unfolding point_s well_formed begin_e end_e
  point-says idx q = framed-said Fits _ _ _ (begin_fits_lem 1 false 0 idx refl (lit< tt) q) (part_says 0 1) (end_fits_lem 1 false idx refl q)

  triangles_say : (ends : List ℕ) (tagged : Bool) (before idx : ℕ) → U32 (idx + length ends) → Says (triangles_s C ends tagged before idx)
  unfolding triangles_s triangle_at well_formed begin_e end_e
  triangles_say [] tagged before idx few = tt
  triangles_say (end ∷ ends) tagged before idx few =
      then-said Fits (triangle_at C tagged before end idx) _
      (frame-says 17 tagged (λ size idx. refl) 1 idx (lit< tt) (omega arith) _ (stretch_says before end 0 (lit< tt)))
      (triangles_say ends tagged end (idx + 1) (omega arith))

  module _ (ends : List ℕ) (few : U32 (length ends)) where
    rings_say : Says (rings_s C ends)
    unfolding rings_s well_formed begin_e end_e
    rings_say = either_said Fits (single ends) _ _ (λ e. flat-says 2 false 0 (λ size idx. refl) (lit< tt)) (λ e. lines_say ends 0 0 (omega arith))

    pub stretches_say : (type : ℕ) (tagged : Bool) (idx : ℕ) → Frame type tagged → U32 idx → Says (stretches_s type tagged idx C ends)
    unfolding stretches_s
    stretches_say type tagged idx frame q = frame-says type tagged frame (stretches ends) idx (stretches_few ends few) q _ rings_say

    pub multi_line_says : (idx : ℕ) → U32 idx → Says (multi_line_s C ends idx)
    unfolding multi_line_s well_formed begin_e end_e
    multi_line_says idx q =
        let all = stretches_say 5 false idx (λ size idx. refl) q in
        either_said Fits (single ends) _ _ (λ e. there-says C.xy _ all) (λ e. all)

    pub triangle_says : (tagged : Bool) (idx : ℕ) → U32 idx → Says (triangle_s C ends tagged idx)
    unfolding triangle_s well_formed begin_e end_e
    triangle_says tagged idx q =
        either_said Fits (single ends) _ _ (λ e. there-says C.xy _ (stretches_say 17 tagged idx (λ size idx. refl) q)) (λ e. triangles_say ends tagged 0 0 (omega arith))

    pub tin_says : (idx : ℕ) → U32 idx → Says (tin_s C ends idx)
    unfolding tin_s well_formed begin_e end_e
    tin_says idx q = frame-says 16 false (λ size idx. refl) (stretches ends) idx (stretches_few ends few) q _ (triangle_says false 0 (lit< tt))
