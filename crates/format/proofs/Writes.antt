-- What the writer makes of a geometry's events means that geometry.
use Rattle.std.specs.Prelude.{◌≡◌, Bool, cond, ℕ, length, eqb}
use Rattle.std.proofs.Math.Path.{refl}
use Rattle.std.proofs.Math.Bool.{true, false}
use mathlib.Core.List.{List, [], ◌∷◌, map}
use Rattle.std.proofs.Math.Option.{Option, some}
use Rattle.std.proofs.lemmas.List.{length-map}
use Rattle.kinds.specs.Event.{begin_e, end_e}
use Rattle.kinds.specs.declared.event.Event.{Event}
use Rattle.kinds.specs.declared.flags.Flags.{Flags}
use Rattle.store.specs.Lists.{Rec}
use Rattle.asking.specs.declared.typing.Typing.{Typing}
use Rattle.writer_model.specs.Writer.{Writer, part_of, line_end, polygon_end, after, after_all, tree}
use Rattle.writer_model.specs.Tree.{Holds}
use Rattle.geometries.specs.Geometry.{Line, Coord, Simple, type_of}
use Rattle.geometries.specs.Events.{Tells, each, group, coord_of, line_of, triangle_of, simple_of, begins}
use Rattle.format.specs.Format.{Coords, Lines, Parts, Is, Tree}
use Rattle.format.specs.Writable.{All, Some, Has, HasRings, Held, coords, lines, polygons, Writable, a_point, a_line, a_polygon, many_points, many_lines, many_polygons, an_arc, a_surface, a_tin, a_triangle}
use Rattle.format.specs.Tables.{table_of, rings_table, root_table, table_coords, parts_are}
use Rattle.format.proofs.Tables.{table-lines}
use Rattle.format.specs.Amid.{amid, all_nil, all_cons, on_coords}
use Rattle.format.proofs.Amid.{on_lines, on_triangles, on_polygons}
use Rattle.format.specs.Writes.{normal, resting, ending, ending-typing, parts-root, Starts, then_declared, starts}

some-map : {A B : Type 0} (f : A → B) (xs : List A) → Some xs → Some (map f xs)
some-map f [] s = s
some-map f (x ∷ xs) s = tt

-- ---- the finished tree
module _ (F : Flags) (get : ℕ → Option Rec) where
  abbrev Good : Held → Type 0
  Good (coords cs) = All (Has F) cs
  Good (lines ls) = HasRings F ls
  Good (polygons ps) = Some ps × All (HasRings F) ps

  abbrev IsHeld : Rec → Held → Type 0
  IsHeld r (coords cs) = Coords r cs
  IsHeld r (lines ls) = Lines r ls
  IsHeld r (polygons ps) = Parts get Lines r ps

  record Root (h : Typing) (M : Rec → Type 0) : Type 0 where
    root : Rec
    has : get 0 ≡ some root
    kind : root.kind ≡ h.current
    means : M root

  ending-root : (h : Typing) (k : Held) → Good k → Holds get 0 (tree (ending h k)) → Root h (λ r. IsHeld r k)
  ending-root h (coords cs) q o = record { root = table_of h.current cs []; has = unfold amid part_of table_of in o.0; kind = unfold table_of in refl; means = table_coords F h.current cs [] q }
  ending-root h (lines ls) q o = record { root = rings_table h.current ls; has = unfold amid part_of table_of in o.0; kind = unfold table_of in refl; means = table-lines F h.current ls q }
  ending-root h (polygons ps) q o =
      let g = parts-root h get _ (some-map (rings_table h.current) ps q.0) o in
      record {
        root = root_table h.current (length ps);
        has = rw (length-map ps (rings_table h.current)) at g.0;
        kind = refl;
        means = record { from = 1; parts = refl; each = parts_are Lines (HasRings F) (rings_table h.current) (table-lines F h.current) get ps 1 q.1 g.1 };
      }

  good : (s : Simple) (k : Held) → Writable F s k → Good k
  good s k (a_point c q) = (q, tt)
  good s k (a_line l q) = q
  good s k (a_polygon rs q) = q
  good s k (many_points cs q) = q
  good s k (many_lines ls q) = q
  good s k (many_polygons ps s' q) = (s', q)
  good s k (an_arc l q) = q
  good s k (a_surface ps s' q) = (s', q)
  good s k (a_tin ts q) = q
  good s k (a_triangle l q) = (tt, (q, tt))

  held-is : (s : Simple) (k : Held) (r : Rec) → Writable F s k → IsHeld r k → Is get r s
  held-is s k r (a_point c q) m = m
  held-is s k r (a_line l q) m = m
  held-is s k r (a_polygon rs q) m = m
  held-is s k r (many_points cs q) m = m
  held-is s k r (many_lines ls q) m = m
  held-is s k r (many_polygons ps s' q) m = m
  held-is s k r (an_arc l q) m = m
  held-is s k r (a_surface ps s' q) m = m
  held-is s k r (a_tin ts q) m = m
  held-is s k r (a_triangle l q) m = m

  pub ending_means : (h : Typing) (type : ℕ) (s : Simple) (k : Held) → Writable F s k → cond (eqb type 0) h.current type ≡ type_of s → Holds get 0 (tree (ending h k)) → Tree get 0 type s
  ending_means h type s k q e o =
      let r = ending-root h k (good s k q) o in
      record { root = r.root; has = r.has; means = (rw r.kind e, held-is s k r.root q r.means) }

-- ---- from the first event to the last
group-done : {A : Type 0} (w₀ w₁ w₂ : Writer) (type : ℕ) (tagged : Bool) (f : Tells A) (xs : List A) → after w₀ (begin_e type tagged (length xs) 0) ≡ w₁ → ((k : List Event) → after_all w₁ (each f xs 0 k) ≡ after_all w₂ k) → after w₂ (end_e type tagged 0) ≡ w₂ → after_all w₀ (group type tagged f xs 0 []) ≡ w₂
group-done w₀ w₁ w₂ type tagged f xs e m q = rw (all_cons, e, m, all_cons, q, all_nil)

module _ (F : Flags) (d c : ℕ) (detect promote : Bool) (w₀ : Writer) where
  abbrev h : Typing
  h = normal d c detect promote

  coords_done : (type : ℕ) (tagged : Bool) (cs : List Coord) → after (ending h (coords cs)) (end_e type tagged 0) ≡ ending h (coords cs) → after w₀ (begin_e type tagged (length cs) 0) ≡ resting h → All (Has F) cs → after_all w₀ (group type tagged (coord_of F) cs 0 []) ≡ ending h (coords cs)
  coords_done type tagged cs q e p = group-done w₀ (resting h) (ending h (coords cs)) type tagged (coord_of F) cs e (λ k. on_coords F h [] cs [] [] 0 k p) q

  lines-done : (type : ℕ) (tagged : Bool) (ls : List Line) → after (ending h (lines ls)) (end_e type tagged 0) ≡ ending h (lines ls) → after w₀ (begin_e type tagged (length ls) 0) ≡ resting h → All (All (Has F)) ls → after_all w₀ (group type tagged (line_of F) ls 0 []) ≡ ending h (lines ls)
  lines-done type tagged ls q e p = group-done w₀ (resting h) (ending h (lines ls)) type tagged (line_of F) ls e (λ k. on_lines F h refl ls [] [] [] 0 k p) q

  pub ends_so : (s : Simple) (k : Held) → Writable F s k → after w₀ (begins s) ≡ resting h → after_all w₀ (simple_of F s 0 []) ≡ ending h k
  unfolding end_e
  ends_so s k (a_point p q) e = rw (all_cons, e, on_coords F h [] (p ∷ []) [] [] 0 (end_e 1 false 0 ∷ []) (q, tt), all_cons) (unfold after amid in all_nil _)
  ends_so s k (a_line l q) e = coords_done 2 true l (unfold after amid line_end in refl) e q
  ends_so s k (a_polygon rs q) e = lines-done 3 true rs (unfold after amid polygon_end in refl) e q.1
  ends_so s k (many_points cs q) e = coords_done 4 false cs (unfold after amid in refl) e q
  ends_so s k (many_lines ls q) e = lines-done 5 false ls (unfold after amid in refl) e q.1
  ends_so s k (many_polygons ps s' q) e = group-done w₀ (resting h) _ 6 false (group 3 false (line_of F)) ps e (λ k. on_polygons F h refl ps [] 0 k q) (unfold after amid in refl)
  ends_so s k (an_arc l q) e = coords_done 8 false l (unfold after amid in refl) e q
  ends_so s k (a_surface ps s' q) e = group-done w₀ (resting h) _ 15 false (group 3 false (line_of F)) ps e (λ k. on_polygons F h refl ps [] 0 k q) (unfold after amid in refl)
  ends_so s k (a_tin ts q) e = group-done w₀ (resting h) _ 16 false (triangle_of F false) ts e (λ k. on_triangles F h refl ts [] [] [] 0 k q.1) (unfold after amid in refl)
  ends_so s k (a_triangle l q) e = lines-done 17 true (l ∷ []) (unfold after amid in refl) e (q, tt)

module _ (F : Flags) (d c : ℕ) (detect promote : Bool) (s : Simple) (k : Held) (st : Starts d promote s) (q : Writable F s k) where
  abbrev over : Writer
  over = after_all (resting (normal d c detect promote)) (simple_of F s 0 [])

  pub over-is : over ≡ ending (normal (then_declared d detect (type_of s)) (starts d c detect promote s st).current detect promote) k
  over-is = ends_so F _ _ detect promote _ s k q (starts d c detect promote s st).begun

  -- the finished tree, under the type that the writer then declares, means the geometry
  pub writes : (get : ℕ → Option Rec) → Holds get 0 (tree over) → Tree get 0 over.typing.declared s
  writes get o = rw (over-is, ending-typing _ k) (ending_means F get _ _ s k q (starts d c detect promote s st).type (rw over-is at o))
