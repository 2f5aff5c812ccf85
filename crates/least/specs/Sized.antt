-- Every event that a reading says fits a record of 64 bytes, where the pools that are lent hold words.
use Rattle.std.specs.Prelude.{◌≡◌, Some, None, Bool, ◌&&◌, ◌||◌, length, drop, ltb}
use Rattle.std.proofs.Math.Path.{refl}
use Rattle.std.proofs.Math.Bool.{true, false, not}
use mathlib.Core.List.{List, [], ◌∷◌}
use Rattle.std.proofs.Math.Option.{Option, none, some}
use Prim.Native.Nat.{ℕ, zero, suc, ◌+◌}
use Rattle.std.proofs.Common.{arith, length-take, lit<, ltb-true}
use Rattle.std.proofs.Math.Dec.{leb, eqb}
use Rattle.laws.specs.Every.{never, both, each}
use Rattle.laws.specs.Script.{Script, stop}
use Rattle.kinds.specs.Event.{well_formed, begin_e, end_e}
use Rattle.kinds.specs.Lanes.{xyL, endsL}
use Rattle.kinds.specs.declared.event.Event.{Event}
use Rattle.kinds.specs.declared.flags.Flags.{Flags}
use Rattle.kinds.specs.Geometry.{Span}
use Rattle.store.specs.Records.{Judged, record_at}
use Rattle.store.specs.RecordLaws.{InPool, InTable, within}
use Rattle.store.specs.Lists.{Pools, pools_of, Rec, lent_of, list_of, parts_of, lists_of, seen, record_with}
use Rattle.coords.specs.Coords.{Coords, coords_of}
use Rattle.lines.specs.Lines.{or_none, polygon_s}
use Rattle.reader.specs.Reading.{parts_s, span_s, found, polygon_part, curve_of, curve_s, kind_s, geometry_s, root_s, read_s}
use Rattle.least.specs.Fits.{then-said, either_said, Fits, Says, U32, Frame, frame-says, six_or_fifteen, nine_to_twelve}
use Rattle.least.specs.OwnFits.{Words, WordsIn, take_words, drop-words, shown-words, InCoords, point-says, flat-says, stretches_say, multi_line_says, triangle_says, tin_says}

-- ---- a record whose lists are words, and no longer than an index counts
abbrev FewParts : Option (ℕ × ℕ) → Type 0
FewParts none = Unit {0}
FewParts (some p) = U32 p.1

pub record InRecord (r : Rec) : Type 0 where
  pub xy : WordsIn r.xy
  pub z : WordsIn r.z
  pub m : WordsIn r.m
  pub t : WordsIn r.t
  pub tm : WordsIn r.tm
  pub short : U32 (length (or_none r.xy))
  pub few_ends : U32 (length (or_none r.ends))
  pub few_parts : FewParts r.parts

abbrev pub AllRecords : (ℕ → Option Rec) → Type 0
AllRecords get = (n : ℕ) (r : Rec) → get n ≡ some r → InRecord r

in_coords : (F : Flags) (r : Rec) → InRecord r → InCoords (coords_of F r)
in_coords F r h =
    record {
      xy = h.xy;
      short = h.short;
      lanes = record { z = shown-words F.z r.z h.z; m = shown-words F.m r.m h.m; t = shown-words F.t r.t h.t; tm = shown-words F.tm r.tm h.tm };
    }

-- ---- parts
module _ (part : ℕ → ℕ → Script Event) (says : (n i : ℕ) → U32 i → Says (part n i)) where
  parts_say : (k n i : ℕ) → U32 (i + k) → Says (parts_s part k n i)
  unfolding parts_s
  parts_say zero n i few = tt
  parts_say (suc k) n i few = then-said Fits (part n i) _ (says n i (omega arith)) (parts_say k (n + 1) (i + 1) (omega arith))

  span_says : (o : Option (ℕ × ℕ)) (type idx : ℕ) → Frame type false → FewParts o → U32 idx → Says (span_s part o type idx)
  unfolding span_s
  span_says none type idx frame few q = tt
  span_says (some p) type idx frame few q = frame-says type false frame p.1 idx few q _ (parts_say p.1 p.0 0 (omega arith))

found-says : (o : Option Rec) (f : Rec → Script Event) → ((r : Rec) → o ≡ some r → Says (f r)) → Says (found o f)
found-says none f h = tt
found-says (some r) f h = h r refl

-- ---- a tree, level by level
module _ (F : Flags) (get : ℕ → Option Rec) (all : AllRecords get) where
  polygon-says : (r : Rec) (tagged : Bool) (idx : ℕ) → InRecord r → U32 idx → Says (polygon_s F r tagged idx)
  unfolding polygon_s well_formed begin_e end_e
  polygon-says r tagged idx h q = stretches_say (coords_of F r) (in_coords F r h) (or_none r.ends) h.few_ends 3 tagged idx (λ size idx. refl) q

  polygon_part_says : (left n i : ℕ) → U32 i → Says (polygon_part F left get n i)
  unfolding polygon_part
  polygon_part_says zero n i q = tt
  polygon_part_says (suc left) n i q = found-says (get n) _ (λ p e. polygon-says p false i (all n p e) q)

  curve_of_says : (deeper : Rec → ℕ → ℕ → Script Event) → ((p : Rec) (type i : ℕ) → InRecord p → Frame type false → U32 i → Says (deeper p type i))
      → (above : ℕ) (p : Rec) (i : ℕ) → InRecord p → U32 i → Says (curve_of F deeper above p i)
  unfolding curve_of well_formed begin_e end_e
  curve_of_says deeper says above p i h q =
      let line = flat-says (coords_of F p) (in_coords F p h) in
      either_said Fits (eqb p.kind 2) _ _ (λ e. line 2 false i (λ size idx. refl) q)
      (λ e. either_said Fits (eqb p.kind 8) _ _ (λ e. line 8 false i (λ size idx. refl) q)
      (λ e. either_said Fits (eqb p.kind 9 && not (eqb above 9)) _ _ (λ e. says p 9 i h (λ size idx. refl) q)
      (λ e. either_said Fits (eqb p.kind 3 && eqb above 12) _ _ (λ e. polygon-says p true i h q)
      (λ e. either_said Fits (eqb p.kind 10 && eqb above 12) _ _ (λ e. says p 10 i h (λ size idx. refl) q) (λ e. tt)))))

  curve_says : (left : ℕ) (r : Rec) (type idx : ℕ) → InRecord r → Frame type false → U32 idx → Says (curve_s F left get r type idx)
  unfolding curve_s
  curve_says zero r type idx h frame q = span_says (λ n i. stop 13) (λ n i p. tt) r.parts type idx frame h.few_parts q
  curve_says (suc left) r type idx h frame q =
      span_says _ (λ n i few. found-says (get n) _ (λ p e. curve_of_says (curve_s F left get) (curve_says left) r.kind p i (all n p e) few)) r.parts type idx frame h.few_parts q

  kind_says : (deeper : ℕ → ℕ → Script Event) → ((n i : ℕ) → U32 i → Says (deeper n i)) → (left : ℕ) (r : Rec) (type idx : ℕ) → InRecord r → U32 idx → Says (kind_s F deeper left get r type idx)
  unfolding kind_s well_formed begin_e end_e
  kind_says deeper says left r type idx h q =
      let C : Coords = coords_of F r in
      let ends : List ℕ = or_none r.ends in
      let w : InCoords C = in_coords F r h in
      either_said Fits (eqb type 1) _ _ (λ e. point-says C w idx q)
      (λ e. either_said Fits (eqb type 2) _ _ (λ e. flat-says C w 2 true idx (λ size idx. refl) q)
      (λ e. either_said Fits (eqb type 3) _ _ (λ e. polygon-says r true idx h q)
      (λ e. either_said Fits (eqb type 4) _ _ (λ e. flat-says C w 4 false idx (λ size idx. refl) q)
      (λ e. either_said Fits (eqb type 5) _ _ (λ e. multi_line_says C w ends h.few_ends idx q)
      (λ e. either_said Fits (eqb type 6 || eqb type 15) _ _ (λ e. span_says _ (polygon_part_says left) r.parts type idx (six_or_fifteen type e) h.few_parts q)
      (λ e. either_said Fits (eqb type 7) _ _ (λ e. span_says deeper says r.parts 7 idx (λ size idx. refl) h.few_parts q)
      (λ e. either_said Fits (eqb type 8) _ _ (λ e. flat-says C w 8 false idx (λ size idx. refl) q)
      (λ e. either_said Fits (leb 9 type && leb type 12) _ _ (λ e. curve_says left r type idx h (nine_to_twelve type e) q)
      (λ e. either_said Fits (eqb type 16) _ _ (λ e. tin_says C w ends h.few_ends idx q)
      (λ e. either_said Fits (eqb type 17) _ _ (λ e. triangle_says C w ends h.few_ends true idx q) (λ e. tt)))))))))))

  geometry_says : (left : ℕ) (r : Rec) (type idx : ℕ) → InRecord r → U32 idx → Says (geometry_s F left get r type idx)
  unfolding geometry_s
  geometry_says zero r type idx h q = kind_says (λ n i. stop 13) (λ n i few. tt) zero r type idx h q
  geometry_says (suc left) r type idx h q = kind_says _ (λ n i few. found-says (get n) _ (λ p e. geometry_says left p p.kind i (all n p e) few)) (suc left) r type idx h q

  -- by whatever accessor of records
  pub read-says : (declared : ℕ) → Says (read_s F get declared)
  unfolding read_s root_s
  read-says declared = go (get 0) refl
    where
      go : (o : Option Rec) → get 0 ≡ o → Says (root_s F get o declared)
      go none e = tt
      go (some r) e = geometry_says 15 r _ 0 (all 0 r e) (lit< tt)

-- ---- pools that hold words; their ends need no bound
pub record InWords (P : Pools) : Type 0 where
  pub xy : Words P.xy
  pub z : Words P.z
  pub m : Words P.m
  pub t : Words P.t
  pub tm : Words P.tm

-- that a list holds words is one test
pub words_tested : (l : List ℕ) → each (λ v. ltb v 18446744073709551616) l ≡ true → Words l
words_tested [] h i = lit< tt
words_tested (v ∷ l) h zero = ltb-true v 18446744073709551616 (both (ltb v 18446744073709551616) (each (λ v. ltb v 18446744073709551616) l) h).0
words_tested (v ∷ l) h (suc i) = words_tested l (both (ltb v 18446744073709551616) (each (λ v. ltb v 18446744073709551616) l) h).1 i

-- the pools of a point, whose words are the largest there are
pub largest_words : InWords (pools_of (18446744073709551615 ∷ 18446744073709551615 ∷ []) [] [] [] [] [])
largest_words = record { xy = words_tested (18446744073709551615 ∷ 18446744073709551615 ∷ []) refl; z = words_tested [] refl; m = words_tested [] refl; t = words_tested [] refl; tm = words_tested [] refl }

stretch_words : (pool : List ℕ) (s : Span) → Words pool → WordsIn (list_of pool s)
stretch_words pool None h = λ i. lit< tt
stretch_words pool (Some s) h = take_words s.count (drop s.start pool) (drop-words s.start pool h)

stretch_short : (pool : List ℕ) (s : Span) (lent most : ℕ) → InPool s lent most → U32 most → U32 (length (or_none (list_of pool s)))
stretch_short pool None lent most h k = lit< tt
stretch_short pool (Some s) lent most h k = omega (arith, h.1, length-take s.count (drop s.start pool))

few_in_table : (s : Span) (n lent : ℕ) → InTable s n lent → FewParts (parts_of s)
few_in_table None n lent h = tt
few_in_table (Some s) n lent h = omega (arith, h.2)

module _ (table : List ℕ) (P : Pools) (words : InWords P) where
  records_in_lem : AllRecords (record_with table P)
  unfolding record_with
  records_in_lem n r e = go (record_at table (lent_of P) n) refl e
    where
      go : (j : Judged) → record_at table (lent_of P) n ≡ j → seen P j ≡ some r → InRecord r
      go None a e = absurd (never (cc))
      go (Some g) a e =
          let same : lists_of P g ≡ r = cc in
          let w = within table (lent_of P) n g a in
          rw (← same)
          (record {
            xy = stretch_words P.xy g.xy words.xy;
            z = stretch_words P.z g.z words.z;
            m = stretch_words P.m g.m words.m;
            t = stretch_words P.t g.t words.t;
            tm = stretch_words P.tm g.tm words.tm;
            short = stretch_short P.xy g.xy _ 131072 (w.lists xyL) (lit< tt);
            few_ends = stretch_short P.ends g.ends _ 65536 (w.lists endsL) (lit< tt);
            few_parts = few_in_table g.parts n _ w.parts;
          })

  -- in whatever table and pools, under whatever flags and declared type
  pub table-says : (F : Flags) (declared : ℕ) → Says (read_s F (record_with table P) declared)
  table-says F declared = read-says F (record_with table P) records_in_lem declared
