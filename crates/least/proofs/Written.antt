-- The tree that the writer leaves for a geometry holds no more than the least.
use Rattle.std.specs.Prelude.{◌≡◌, Bool, true, cond, List, [], ◌∷◌, map, ℕ, zero, suc, ◌+◌, ◌≤◌, ◌<◌, length, leb}
use Rattle.std.proofs.Math.Path.{refl}
use Rattle.std.proofs.Common.{sym, ap, ◌∙◌, length-append, le-ltb}
use Rattle.std.proofs.Math.Bool.{false}
use Rattle.std.proofs.Math.Option.{Option, none, some}
use native.Mathlib.Omega.{arith}
use Rattle.std.proofs.Math.Decide.{dec_lt}
use Rattle.std.proofs.lemmas.List.{length-map}
use Rattle.std.proofs.lemmas.Bool.{lt-leb}
use Rattle.laws.specs.Every.{never}
use Rattle.kinds.specs.declared.flags.Flags.{Flags}
use Rattle.store.specs.Lists.{Rec}
use Rattle.geometries.specs.Coordinate.{is}
use Rattle.asking.specs.declared.typing.Typing.{Typing}
use Rattle.writer_model.specs.Writer.{longer, part_of, tree}
use Rattle.writer_model.specs.Tree.{Holds}
use Rattle.geometries.specs.Geometry.{Coord, Line, Rings, Simple}
use Rattle.geometries.specs.Events.{shown}
use Rattle.format.specs.Format.{joined, ends_from}
use Rattle.format.specs.FormatLaws.{xy_length, ends-length}
use Rattle.format.specs.Writable.{All, Some, Has, HasRings, Held, coords, lines, polygons, Writable, a_point, a_line, a_polygon, many_points, many_lines, many_polygons, an_arc, a_surface, a_tin, a_triangle}
use Rattle.format.specs.Amid.{amid}
use Rattle.format.specs.Writes.{ending, parts-root}
use Rattle.format.specs.Tables.{listed, vals, table_of, rings_table, root_table, all-joined}
use Rattle.least.specs.Size.{count, numbers, weight, is_part, size_of}
use Rattle.least.specs.Least.{sum, there, words, of_pairs, ends, of_lines, of_polygons, least_of}
use Rattle.least.specs.Values.{Value, by_value, zV, mV, tV, tmV, flag_in, value_in, tally, words-tally}
use Rattle.least.specs.Sums.{weights}
use Rattle.least.specs.Above.{and_off, size_most}

-- ---- the numbers of a table
longer-count : (most : ℕ) (l : List ℕ) → count (longer most l) ≡ cond (leb (length l) most) 0 (length l)
unfolding longer
longer-count most l = go (leb (length l) most)
  where
    go : (b : Bool) → count (cond b none (some l)) ≡ cond b 0 (length l)
    go true = refl
    go false = refl

all-count : (l : List ℕ) → count (longer 0 l) ≡ length l
all-count [] = longer-count 0 []
all-count (v ∷ l) = longer-count 0 (v ∷ l) ∙ rw (lt-leb (suc (length l)) 0 (omega arith))

ends-count : (ls : List Line) → count (longer 1 (ends_from 0 ls)) ≡ ends ls
ends-count ls = longer-count 1 (ends_from 0 ls) ∙ ap (λ (n : ℕ). cond (leb n 1) 0 n) (ends-length 0 ls)

listed-length : (b : Bool) (o : Option ℕ) → is o ≡ b → length (listed o) ≡ there (shown b o)
listed-length true none e = absurd (never e)
listed-length true (some v) e = refl
listed-length false none e = refl
listed-length false (some v) e = absurd (never (sym e))

has_value : (F : Flags) (c : Coord) → Has F c → (v : Value) → is (value_in c v) ≡ flag_in F v
has_value F c h = by_value _ h.z h.m h.t h.tm

module _ (F : Flags) where
  values_length : (v : Value) (cs : List Coord) → All (Has F) cs → length (vals (λ c. value_in c v) cs) ≡ tally F v cs
  values_length v [] q = refl
  values_length v (c ∷ cs) q =
      omega (arith, length-append (listed (value_in c v)) (vals (λ c. value_in c v) cs), listed-length (flag_in F v) (value_in c v) (has_value F c q.0 v), values_length v cs q.1)

  module _ (type : ℕ) where
    table-numbers : (cs : List Coord) (es : List ℕ) → All (Has F) cs → numbers (table_of type cs es) ≡ sum (words F) cs + count (longer 1 es)
    unfolding numbers table_of
    table-numbers cs es q =
        omega (
          arith,
          words-tally F cs,
          xy_length cs,
          all-count (vals (λ c. c.z) cs),
          values_length zV cs q,
          all-count (vals (λ c. c.m) cs),
          values_length mV cs q,
          all-count (vals (λ c. c.t) cs),
          values_length tV cs q,
          all-count (vals (λ c. c.tm) cs),
          values_length tmV cs q,
        )

    lines-weight : (ls : List Line) → All (All (Has F)) ls → weight (some (rings_table type ls)) ≡ of_lines F ls
    lines-weight ls q = omega (arith, table-numbers (joined ls) (ends_from 0 ls) (all-joined (Has F) ls q), ends-count ls)

  -- ---- what is pending is the root
  module _ (h : Typing) (N : ℕ) (get : ℕ → Option Rec) where
    no_parts : (cs : List Coord) (es : List ℕ) (n : ℕ) → is_part (some (table_of h.current cs es)) n ≡ false
    unfolding table_of
    no_parts cs es n = refl

    alone : (cs : List Coord) (es : List ℕ) → Holds get 0 (tree (amid h cs es [])) → size_of N get ≤ weight (some (table_of h.current cs es))
    unfolding amid part_of table_of
    alone cs es o = omega (arith, size_most get 0 closed N (table_of h.current cs es) o.0)
      where
        closed : (m n : ℕ) → m ≤ 0 → 0 < n → is_part (get m) n ≡ false
        closed m n a b = let z : m ≡ 0 = omega arith in rw (z, o.0) (no_parts cs es n)

    pairs-alone : (cs : List Coord) → All (Has F) cs → Holds get 0 (tree (ending h (coords cs))) → size_of N get ≤ of_pairs F cs
    pairs-alone cs q o = omega (arith, alone cs [] o, table-numbers h.current cs [] q, longer-count 1 [])

    lines-alone : (ls : List Line) → All (All (Has F)) ls → Holds get 0 (tree (ending h (lines ls))) → size_of N get ≤ of_lines F ls
    lines-alone ls q o = omega (arith, alone (joined ls) (ends_from 0 ls) o, lines-weight h.current ls q)

    -- ---- a root over polygons
    parts-weight : (ps : List Rings) (n : ℕ) → All (HasRings F) ps → Holds get n (map (rings_table h.current) ps) → weights get (length ps) n ≡ sum (of_lines F) ps
    parts-weight [] n q o = refl
    parts-weight (p ∷ ps) n q o = rw o.0 (omega (arith, lines-weight h.current p q.0.1, parts-weight ps (n + 1) q.1 o.1))

    parts_bare : (ps : List Rings) (from m n : ℕ) → Holds get from (map (rings_table h.current) ps) → from ≤ m → m < from + length ps → is_part (get m) n ≡ false
    parts_bare [] from m n o a b = absurd (omega arith)
    parts_bare (p ∷ ps) from m n o a b = go (dec_lt from m) (λ past. parts_bare ps (from + 1) m n o.1 (omega arith) (omega arith))
      where
        go : Dec (from < m) → (from < m → is_part (get m) n ≡ false) → is_part (get m) n ≡ false
        go (yes past) later = later past
        go (no here) later = let z : m ≡ from = omega arith in rw (z, o.0) (no_parts (joined p) (ends_from 0 p) n)

    root-numbers : (n : ℕ) → numbers (root_table h.current n) ≡ 0
    unfolding numbers
    root-numbers n = refl

    roots : (ps : List Rings) → Some ps → Holds get 0 (tree (ending h (polygons ps))) → Holds get 0 (root_table h.current (length ps) ∷ map (rings_table h.current) ps)
    roots [] s o = absurd s
    roots (p ∷ ps) s o = rw (length-map (p ∷ ps) (rings_table h.current)) at (parts-root h get (map (rings_table h.current) (p ∷ ps)) tt o)

    over : (ps : List Rings) → All (HasRings F) ps → Holds get 0 (root_table h.current (length ps) ∷ map (rings_table h.current) ps) → size_of N get ≤ of_polygons F ps
    over ps q o = omega (arith, size_most get (length ps) closed N (root_table h.current (length ps)) o.0, root-numbers (length ps), parts-weight ps 1 q o.1)
      where
        closed : (m n : ℕ) → m ≤ length ps → length ps < n → is_part (get m) n ≡ false
        closed zero n a b = rw (o.0, le-ltb n (1 + length ps) (omega arith)) (and_off (leb 1 n))
        closed (suc m) n a b = parts_bare ps 1 (suc m) n o.1 (omega arith) (omega arith)

    pub written_least : (s : Simple) (k : Held) → Writable F s k → Holds get 0 (tree (ending h k)) → size_of N get ≤ least_of F s
    unfolding least_of
    written_least s k (a_point c q) o = pairs-alone (c ∷ []) (q, tt) o
    written_least s k (a_line l q) o = pairs-alone l q o
    written_least s k (a_polygon rs q) o = lines-alone rs q.1 o
    written_least s k (many_points cs q) o = pairs-alone cs q o
    written_least s k (many_lines ls q) o = lines-alone ls q.1 o
    written_least s k (many_polygons ps one q) o = over ps q (roots ps one o)
    written_least s k (an_arc l q) o = pairs-alone l q o
    written_least s k (a_surface ps one q) o = over ps q (roots ps one o)
    written_least s k (a_tin ts q) o = lines-alone ts q.1 o
    written_least s k (a_triangle l q) o = lines-alone (l ∷ []) (q, tt) o
