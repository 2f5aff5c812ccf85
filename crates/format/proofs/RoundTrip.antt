-- What is written in a row is read back: by way of the format.
use Rattle.std.specs.Prelude.{◌≡◌, Bool, true, false, cond, ◌||◌, List, [], ◌∷◌, ℕ, ◌≤◌, length, eqb}
use Rattle.std.proofs.Math.Path.{refl}
use Rattle.std.proofs.Math.Option.{Option}
use Rattle.std.proofs.Common.{arith, eqb-true}
use Rattle.laws.specs.Every.{never}
use Rattle.laws.specs.Cut.{room_of, Said}
use Rattle.kinds.specs.declared.flags.Flags.{Flags}
use Rattle.store.specs.Lists.{Rec, record_with}
use Rattle.event_log.specs.Log.{events}
use Rattle.store.specs.Records.{table_good}
use Rattle.reader.specs.Reading.{read_s}
use Rattle.writing.specs.declared.state.State.{State}
use Rattle.writing.specs.State.{Mem}
use Rattle.writer_model.specs.Writer.{Writer, fresh, root_over, finish, tree}
use Rattle.writer_model.specs.Stands.{Agrees}
use Rattle.writer_model.specs.Rows.{Reached}
use Rattle.writer_model.proofs.Rows.{row_stands}
use Rattle.writer_model.specs.Tree.{Holds}
use Rattle.writer_model.proofs.Tree.{row-tree}
use Rattle.geometries.specs.Geometry.{Coord, Simple, simple, collection, Geometry, deep, flatly, simple_depth, depth}
use Rattle.geometries.specs.Events.{events_of}
use Rattle.format.specs.Format.{Tree}
use Rattle.geometries.specs.Told.{Complete}
use Rattle.format.specs.Reads.{agrees}
use Rattle.format.proofs.ReadLaws.{reads}
use Rattle.format.proofs.ReadsCall.{reads_said}
use Rattle.format.specs.Writable.{Held, Writable, a_point, a_line, a_polygon, many_points, many_lines, many_polygons, an_arc, a_surface, a_tin, a_triangle}
use Rattle.format.specs.Promoted.{Lifts, line, rings}
use Rattle.format.specs.Collections.{Element, one_line, one_triangle, Elements, more}
use Rattle.format.specs.Rows.{Keeps, itself, multi, together, typed, Row, KeepsAll, over, EachMeans}
use Rattle.format.proofs.Rows.{rows}
use Rattle.format.specs.RoundTrip.{EachReads}

-- ---- what a writer keeps has few levels, and is no type that is read by what is stored
record Plain (g : Geometry 1) : Type 0 where
  no_curve : (eqb (typed g) 12 || eqb (typed g) 10 || eqb (typed g) 11) ≡ false
  low : depth 1 g ≤ 15

agrees-plain : (type stored τ : ℕ) → cond (eqb type 0) stored type ≡ τ → (eqb τ 12 || eqb τ 10 || eqb τ 11) ≡ false → agrees type stored ≡ true
agrees-plain type stored τ e q = go (eqb type 0) refl e
  where
    three : (a b c d e : Bool) → (a || b || c) ≡ false → cond a d (cond (b || c) e true) ≡ true
    three true b c d e h = absurd (never (cc))
    three false true c d e h = absurd (never (cc))
    three false false true d e h = absurd (never (cc))
    three false false false d e h = refl

    go : (b : Bool) → eqb type 0 ≡ b → cond b stored type ≡ τ → agrees type stored ≡ true
    go true z e = rw (eqb-true type 0 z)
    go false z e = rw e (three (eqb τ 12) (eqb τ 10) (eqb τ 11) _ _ q)

flat-deep : {A : Type 0} (xs : List A) → deep flatly xs ≤ 1
flat-deep [] = omega arith
flat-deep (x ∷ xs) = omega (arith, flat-deep xs)

module _ (F : Flags) where
  simple_plain : (s : Simple) (k : Held) → Writable F s k → Plain (simple s)
  simple_plain s k (a_point c q) = record { no_curve = refl; low = omega arith }
  simple_plain s k (a_line l q) = record { no_curve = refl; low = omega arith }
  simple_plain s k (a_polygon rs q) = record { no_curve = refl; low = omega arith }
  simple_plain s k (many_points cs q) = record { no_curve = refl; low = omega arith }
  simple_plain s k (many_lines ls q) = record { no_curve = refl; low = omega arith }
  simple_plain s k (many_polygons ps s' q) = record { no_curve = refl; low = omega (arith, flat-deep ps) }
  simple_plain s k (an_arc l q) = record { no_curve = refl; low = omega arith }
  simple_plain s k (a_surface ps s' q) = record { no_curve = refl; low = omega (arith, flat-deep ps) }
  simple_plain s k (a_tin ts q) = record { no_curve = refl; low = omega arith }
  simple_plain s k (a_triangle l q) = record { no_curve = refl; low = omega arith }

  lifted-plain : (s m : Simple) (k : Held) → Lifts F s m k → Plain (simple m)
  lifted-plain s m k (line l q) = record { no_curve = refl; low = omega arith }
  lifted-plain s m k (rings rs q) = record { no_curve = refl; low = omega arith }

  element_flat : (s : Simple) (cs : List Coord) → Element F s cs → simple_depth s ≤ 0
  element_flat s cs (Element.a_point c q) = omega arith
  element_flat s cs (Element.a_line l q) = omega arith
  element_flat s cs (one_line l q) = omega arith
  element_flat s cs (one_triangle l q) = omega arith
  element_flat s cs (Element.a_triangle l q) = omega arith

  elements_deep : (gs : List Simple) (rs : List Rec) → Elements F gs rs → deep (depth 0) gs ≤ 1
  elements_deep gs rs Elements.none = omega arith
  elements_deep _ _ (more s cs gs rs q qs) = omega (arith, element_flat s cs q, elements_deep gs rs qs)

  kept-plain : (d : ℕ) (detect promote : Bool) (g k : Geometry 1) → Keeps F d detect promote g k → Plain k
  kept-plain d detect promote g k (itself s h st q) = simple_plain s h q
  kept-plain d detect promote g k (multi s m h known e p q) = lifted-plain s m h q
  kept-plain d detect promote g k (together gs rs st there q) = record { no_curve = refl; low = omega (arith, elements_deep gs rs q) }

under_type : (get : ℕ → Option Rec) (type : ℕ) (g : Geometry 1) (t : Tree get 1 type g) → cond (eqb type 0) t.root.kind type ≡ typed g
under_type get type (simple s) t = t.means.0
under_type get type (collection gs) t = t.means.0

plain-agrees : (get : ℕ → Option Rec) (type : ℕ) (g : Geometry 1) (t : Tree get 1 type g) → Plain g → agrees type t.root.kind ≡ true
plain-agrees get type g t p = agrees-plain type t.root.kind (typed g) (under_type get type g t) p.no_curve

all_read : (F : Flags) (detect promote : Bool) (rs : List Row) (d : ℕ) (w : Writer) → KeepsAll F d detect promote rs → EachMeans F w rs → EachReads F w rs
all_read F detect promote [] d w q m = tt
all_read F detect promote (r ∷ rs) d w q m =
    let p = kept-plain F d detect promote r.given r.kept q.0 in
    (λ get small o. let t = m.0 get o in reads F get small 1 _ r.kept t (plain-agrees get _ r.kept t p) p.low, all_read F detect promote rs _ _ q.1 m.1)

pub round_trip : (F : Flags) (detect promote : Bool) (rs : List Row) (d : ℕ) → KeepsAll F d detect promote rs → EachReads F (fresh d detect promote) rs
round_trip F detect promote rs d q = all_read F detect promote rs d (fresh d detect promote) q (rows F detect promote rs d q)

-- ---- by calls: after any row of them, accepted and refused, that ends with a feature's finish, a read of the memory, or of any that agrees with it
module _ (F : Flags) (w : Writer) (r : Row) (means : (get : ℕ → Option Rec) → Holds get 0 (tree (over F w r.given)) → Tree get 1 (over F w r.given).typing.declared r.kept) (s : State) (k m : Mem) (l : List ℕ) (row : Reached s k (finish (over F w r.given)) l) (same : Agrees s k m) (table : table_good m.table ≡ true) where
  -- the tree means what is kept, under the type that the state declares
  pub call_means : Tree (record_with m.table m.pools) 1 s.typing.declared r.kept
  unfolding finish
  call_means = rw (row_stands row).typing (means _ (row-tree row (root_over v v.parts) refl m same table))
    where
      v : Writer
      v = over F w r.given

  -- read back, the log gets the events of the geometry that is kept
  pub call_reads : (d : ℕ) (detect promote : Bool) → Keeps F d detect promote r.given r.kept → (feature : ℕ) (L : List ℕ) (number count : ℕ) (M : List ℕ) → length (events_of F 1 r.kept) ≤ room_of 64 L
      → Said (events feature) (read_s F (record_with m.table m.pools) s.typing.declared) L number count M → Complete (events feature) (events_of F 1 r.kept) L number count M
  call_reads d detect promote q feature L number count M room said =
      let p = kept-plain F d detect promote r.given r.kept q in
      reads_said m.table m.pools F 1 _ r.kept feature L number count M call_means (plain-agrees _ _ r.kept call_means p) p.low room said
