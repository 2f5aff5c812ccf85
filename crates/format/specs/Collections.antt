-- Collections: those that a writer makes so that the tree means what it was given.
use Rattle.std.specs.Prelude.{◌≡◌, Bool, not, ◌&&◌, ℕ, suc, ◌+◌, length, ltb, eqb}
use Rattle.std.proofs.Math.Path.{refl}
use Rattle.std.proofs.Common.{ap}
use Rattle.std.proofs.Math.Bool.{true, false}
use mathlib.Core.List.{List, [], ◌∷◌, ◌++◌, append_assoc, append-nil}
use Rattle.std.proofs.Math.Option.{Option}
use Rattle.kinds.specs.Event.{is_tagged_type, begin_e, end_e}
use Rattle.kinds.specs.declared.event.Event.{Event}
use Rattle.kinds.specs.declared.flags.Flags.{Flags}
use Rattle.store.specs.Lists.{Rec}
use Rattle.asking.specs.declared.typing.Typing.{Typing}
use Rattle.asking.specs.SetType.{typing, unknown_type, collected, set_type}
use Rattle.asking.specs.Ask.{begun}
use Rattle.writer_model.specs.Writer.{Writer, longer, part_of, finish_part, end_pushed, line_end, after, after_all, tree}
use Rattle.writer_model.specs.Tree.{Holds}
use Rattle.geometries.specs.Geometry.{Coord, Line, Simple, point, line_string, multi_line_string, tin, triangle, collection, type_of}
use Rattle.geometries.specs.Events.{each, line_of, simple_of, geometry_of}
use Rattle.format.specs.Format.{Lines, Each, Is, Means, Tree}
use Rattle.format.specs.Writable.{All, Some, Has}
use Rattle.format.specs.Tables.{table_of, root_table, table_coords}
use Rattle.format.specs.Amid.{amid, all_cons, all_nil, on_begin, on_coords}
use Rattle.format.specs.Writes.{normal, resting, parts-typing, parts-root}

-- the elements that are kept have one line each: only the ends of a Point and of a LineString make a part of it
pub data Element (F : Flags) : Simple → List Coord → Type 0 where
  a_point : (c : Coord) → Has F c → Element F (point c) (c ∷ [])
  a_line : (l : Line) → All (Has F) l → Element F (line_string l) l
  one_line : (l : Line) → All (Has F) l → Element F (multi_line_string (l ∷ [])) l
  one_triangle : (l : Line) → All (Has F) l → Element F (tin (l ∷ [])) l
  a_triangle : (l : Line) → All (Has F) l → Element F (triangle l) l

abbrev element_table : Simple → List Coord → Rec
element_table s cs = table_of (type_of s) cs []

-- elements and their tables
pub data Elements (F : Flags) : List Simple → List Rec → Type 0 where
  none : Elements F [] []
  more : (s : Simple) (cs : List Coord) (gs : List Simple) (rs : List Rec) → Element F s cs → Elements F gs rs → Elements F (s ∷ gs) (table_of (type_of s) cs [] ∷ rs)

abbrev pub last_type : ℕ → List Simple → ℕ
last_type c [] = c
last_type c (s ∷ gs) = last_type (type_of s) gs

-- ---- the writer inside a collection
module _ (F : Flags) (detect promote : Bool) where
  abbrev pub gathering : ℕ → Typing
  gathering c = typing 7 detect promote c 1

  abbrev having : ℕ → List Rec → Writer
  having c parts = amid (gathering c) [] [] parts

  on_type : (c type : ℕ) (tagged : Bool) (n i : ℕ) (parts : List Rec) → eqb type 7 ≡ false → ltb type 32 ≡ true → (is_tagged_type type && not tagged) ≡ false → after (having c parts) (begin_e type tagged n i) ≡ having type parts
  unfolding after amid begin_e begun set_type collected
  on_type c type tagged n i parts e l t = rw (l, t, e)

  on_line_end : (c i : ℕ) (tagged : Bool) (cs : List Coord) (parts : List Rec) → after (amid (gathering c) cs [] parts) (end_e 2 tagged i) ≡ having c (parts ++ (table_of c cs [] ∷ []))
  unfolding after amid end_e line_end end_pushed finish_part part_of table_of longer
  on_line_end c i true cs parts = refl
  on_line_end c i false cs parts = refl

  on_point_end : (c i : ℕ) (cs : List Coord) (parts : List Rec) → after (amid (gathering c) cs [] parts) (end_e 1 false i) ≡ having c (parts ++ (table_of c cs [] ∷ []))
  unfolding after amid end_e finish_part part_of table_of longer
  on_point_end c i cs parts = refl

  -- every other end makes no part
  on_lines_end : (c i : ℕ) (parts : List Rec) → after (having c parts) (end_e 5 false i) ≡ having c parts
  unfolding after amid end_e
  on_lines_end c i parts = refl

  on_tin_end : (c i : ℕ) (parts : List Rec) → after (having c parts) (end_e 16 false i) ≡ having c parts
  unfolding after amid end_e
  on_tin_end c i parts = refl

  on_triangle_end : (c i : ℕ) (tagged : Bool) (parts : List Rec) → after (having c parts) (end_e 17 tagged i) ≡ having c parts
  unfolding after amid end_e
  on_triangle_end c i tagged parts = refl

  on_line : (c i : ℕ) (l : Line) (parts : List Rec) (k : List Event) → All (Has F) l → after_all (having c parts) (line_of F l i k) ≡ after_all (having c (parts ++ (table_of c l [] ∷ []))) k
  on_line c i l parts k q = rw (all_cons, on_begin F (gathering c) 2 [] [] parts (length l) i refl refl, on_coords F (gathering c) [] l [] parts 0 (end_e 2 false i ∷ k) q, all_cons, on_line_end c i false l parts)

  on_element : (s : Simple) (cs : List Coord) → Element F s cs → (c i : ℕ) (parts : List Rec) (k : List Event) → after_all (having c parts) (simple_of F s i k) ≡ after_all (having (type_of s) (parts ++ (element_table s cs ∷ []))) k
  on_element s cs (a_point p q) c i parts k = rw (all_cons, on_type c 1 false 0 i parts refl refl refl, on_coords F (gathering 1) [] (p ∷ []) [] parts 0 (end_e 1 false i ∷ k) (q, tt), all_cons, on_point_end 1 i (p ∷ []) parts)
  on_element s cs (a_line l q) c i parts k = rw (all_cons, on_type c 2 true (length l) i parts refl refl refl, on_coords F (gathering 2) [] l [] parts 0 (end_e 2 true i ∷ k) q, all_cons, on_line_end 2 i true l parts)
  on_element s cs (one_line l q) c i parts k = rw (all_cons, on_type c 5 false 1 i parts refl refl refl, on_line 5 0 l parts (end_e 5 false i ∷ k) q, all_cons, on_lines_end 5 i _)
  on_element s cs (one_triangle l q) c i parts k =
      rw (all_cons, on_type c 16 false 1 i parts refl refl refl, all_cons, on_begin F (gathering 16) 17 [] [] parts 1 0 refl refl, on_line 16 0 l parts (end_e 17 false 0 ∷ end_e 16 false i ∷ k) q, all_cons, on_triangle_end 16 0 false _, all_cons, on_tin_end 16 i _)
  on_element s cs (a_triangle l q) c i parts k = rw (all_cons, on_type c 17 true 1 i parts refl refl refl, on_line 17 0 l parts (end_e 17 true i ∷ k) q, all_cons, on_triangle_end 17 i true _)

  on_elements : (gs : List Simple) (rs : List Rec) → Elements F gs rs → (c i : ℕ) (parts : List Rec) (k : List Event) → after_all (having c parts) (each (simple_of F) gs i k) ≡ after_all (having (last_type c gs) (parts ++ rs)) k
  on_elements gs rs none c i parts k = rw append-nil
  on_elements _ _ (more s cs gs rs q qs) c i parts k = rw (on_element s cs q c i parts _, on_elements gs rs qs (type_of s) (i + 1) (parts ++ (element_table s cs ∷ [])) k, append_assoc)

-- ---- an element's table means the element, under its own type
module _ (F : Flags) (get : ℕ → Option Rec) where
  lines_of_one : (type : ℕ) (l : Line) → All (Has F) l → Lines (table_of type l []) (l ∷ [])
  lines_of_one type l q = record { coords = rw (append-nil l) (table_coords F type l [] q); ends = unfold table_of longer in refl }

  element_is : (s : Simple) (cs : List Coord) → Element F s cs → Is get (element_table s cs) s
  element_is s cs (a_point c q) = table_coords F 1 (c ∷ []) [] (q, tt)
  element_is s cs (a_line l q) = table_coords F 2 l [] q
  element_is s cs (one_line l q) = lines_of_one 5 l q
  element_is s cs (one_triangle l q) = lines_of_one 16 l q
  element_is s cs (a_triangle l q) = lines_of_one 17 l q

  element_means : (s : Simple) (cs : List Coord) → Element F s cs → Means get 0 (element_table s cs).kind (element_table s cs) s
  element_means s cs q = (unfold table_of in refl, element_is s cs q)

  elements_mean : (gs : List Simple) (rs : List Rec) (n : ℕ) → Elements F gs rs → Holds get n rs → Each get (λ p s. Means get 0 p.kind p s) n gs
  elements_mean gs rs n none o = tt
  elements_mean _ _ n (more s cs gs rs q qs) o = ((element_table s cs, o.0, element_means s cs q), elements_mean gs rs (n + 1) qs o.1)

  elements_length : (gs : List Simple) (rs : List Rec) → Elements F gs rs → length rs ≡ length gs
  elements_length gs rs none = refl
  elements_length _ _ (more s cs gs rs q qs) = ap suc (elements_length gs rs qs)

-- ---- a collection of one level
-- GeometryCollection is declared, or none is and the type is detected
pub data Collects (d : ℕ) (detect : Bool) : Type 0 where
  declared : d ≡ 7 → Collects d detect
  detected : d ≡ 0 → detect ≡ true → Collects d detect

module _ (F : Flags) (d c : ℕ) (detect promote : Bool) (st : Collects d detect) where
  first : (n : ℕ) → after (resting (normal d c detect promote)) (begin_e 7 false n 0) ≡ having F detect promote c []
  unfolding after amid begin_e begun set_type unknown_type collected
  first n = go st promote
    where
      go : Collects d detect → (promote : Bool) → after (resting (normal d c detect promote)) (begin_e 7 false n 0) ≡ having F detect promote c []
      go (declared e) promote = rw e
      go (detected e q) true = rw (e, q)
      go (detected e q) false = rw (e, q)

  module _ (gs : List Simple) (rs : List Rec) (qs : Elements F gs rs) where
    abbrev pub gathered : Writer
    gathered = after_all (resting (normal d c detect promote)) (geometry_of F 1 (collection gs) 0 [])

    pub gathered-is : gathered ≡ amid (normal 7 (last_type c gs) detect promote) [] [] rs
    gathered-is = rw (all_cons, first (length gs), on_elements F detect promote gs rs qs c 0 [] (end_e 7 false 0 ∷ []), all_cons) (unfold after amid end_e in all_nil _)

    pub gathers : Some rs → (get : ℕ → Option Rec) → Holds get 0 (tree gathered) → Tree get 1 gathered.typing.declared (collection gs)
    gathers s get o =
        let g = parts-root (normal 7 (last_type c gs) detect promote) get rs s (rw gathered-is at o) in
        rw (gathered-is, parts-typing _ rs)
        (record {
          root = root_table (last_type c gs) (length gs);
          has = rw (elements_length F get gs rs qs) at g.0;
          means = (refl, record { from = 1; parts = refl; each = elements_mean F get gs rs 1 qs g.1 });
        })
