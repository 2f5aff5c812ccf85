-- Promoted: a LineString or Polygon given to a writer of the multi type, or of none yet, is kept as a multi of one.
use Rattle.std.specs.Prelude.{◌≡◌, Bool, cond, ℕ, ◌+◌, length, eqb}
use Rattle.std.proofs.Math.Path.{refl}
use Rattle.std.proofs.Math.Bool.{true, false}
use mathlib.Core.List.{[], ◌∷◌, append-nil}
use Rattle.std.proofs.Math.Option.{Option}
use Rattle.std.proofs.Common.{arith}
use Rattle.kinds.specs.Event.{begin_e, end_e}
use Rattle.kinds.specs.declared.flags.Flags.{Flags}
use Rattle.store.specs.Lists.{Rec}
use Rattle.asking.specs.declared.typing.Typing.{Typing}
use Rattle.asking.specs.SetType.{typing, with_mode, unknown_type, collected, set_type}
use Rattle.asking.specs.Ask.{begun}
use Rattle.writer_model.specs.Writer.{Writer, part_of, finish_part, end_pushed, line_end, polygon_end, after, after_all, tree}
use Rattle.writer_model.specs.Tree.{Holds}
use Rattle.geometries.specs.Geometry.{Simple, type_of}
use Rattle.geometries.specs.Events.{simple_of, begins}
use Rattle.format.specs.Format.{Tree}
use Rattle.format.specs.FormatLaws.{half}
use Rattle.format.specs.Writable.{Held, Writable, many_lines, many_polygons}
use Rattle.format.specs.Tables.{table_of}
use Rattle.format.specs.Amid.{amid, all_nil, all_cons, on_coords}
use Rattle.format.proofs.Amid.{on_lines}
use Rattle.format.specs.Writes.{normal, resting, ending, ending-typing, on_first, then_declared}
use Rattle.format.proofs.Writes.{ending_means}
use Rattle.format.specs.Promoted.{Lifts, declaring, line, rings}

module _ (F : Flags) (c : ℕ) (known detect : Bool) where
  -- where the type is detected or declared, the current type stays
  abbrev pub then_current : ℕ → ℕ
  then_current type = cond known c (cond detect c type)

  abbrev pub then : Simple → Typing
  then s = normal (then_declared (declaring known s) detect (type_of s)) (then_current (type_of s)) detect true

  abbrev before : Simple → Writer
  before s = resting (normal (declaring known s) c detect true)

  abbrev pub lifted : Simple → Simple → Writer
  lifted s multi = after_all (before multi) (simple_of F s 0 [])

  first : (s multi : Simple) (k : Held) → Lifts F s multi k → after (before multi) (begins s) ≡ resting (with_mode (then multi) 2)
  unfolding after amid begin_e begun set_type unknown_type collected
  first s multi k (line l q) = go known detect
    where
      go : (known detect : Bool) → after (resting (normal (cond known 5 0) c detect true)) (begin_e 2 true (length l) 0) ≡ resting (typing (then_declared (cond known 5 0) detect 5) detect true (cond known c (cond detect c 5)) 2)
      go true detect = refl
      go false true = refl
      go false false = refl
  first s multi k (rings rs q) = go known detect
    where
      go : (known detect : Bool) → after (resting (normal (cond known 6 0) c detect true)) (begin_e 3 true (length rs) 0) ≡ resting (typing (then_declared (cond known 6 0) detect 6) detect true (cond known c (cond detect c 6)) 2)
      go true detect = refl
      go false true = refl
      go false false = refl

  pub lifted-is : (s multi : Simple) (k : Held) → Lifts F s multi k → lifted s multi ≡ ending (then multi) k
  lifted-is s multi k (line l q) =
      let z : 0 + length l ≡ length l = omega arith in
      rw (z, all_cons, first s multi k (line l q), on_coords F _ [] l [] [] 0 (end_e 2 true 0 ∷ []) q, all_cons, append-nil) (unfold after amid end_e line_end end_pushed in rw half (all_nil _))
  lifted-is s multi k (rings rs q) =
      rw (all_cons, first s multi k (rings rs q), on_lines F (with_mode (then multi) 2) refl rs [] [] [] 0 (end_e 3 true 0 ∷ []) q.1, all_cons) (unfold after amid end_e polygon_end finish_part part_of table_of in all_nil _)

  as_multi : (s multi : Simple) (k : Held) → Lifts F s multi k → Writable F multi k
  as_multi s multi k (line l q) = many_lines (l ∷ []) (tt, (q, tt))
  as_multi s multi k (rings rs q) = many_polygons (rs ∷ []) tt (q, tt)

  type_is : (type : ℕ) → eqb type 0 ≡ false → cond (eqb (then_declared (cond known type 0) detect type) 0) (then_current type) (then_declared (cond known type 0) detect type) ≡ type
  type_is type e = go known detect
    where
      go : (known detect : Bool) → cond (eqb (then_declared (cond known type 0) detect type) 0) (cond known c (cond detect c type)) (then_declared (cond known type 0) detect type) ≡ type
      go true detect = rw (e, e)
      go false true = rw e
      go false false = refl

  pub lifts : (s multi : Simple) (k : Held) → Lifts F s multi k → (get : ℕ → Option Rec) → Holds get 0 (tree (lifted s multi)) → Tree get 0 (lifted s multi).typing.declared multi
  lifts s multi k q get o = rw (lifted-is s multi k q, ending-typing _ k) (ending_means F get _ _ multi k (as_multi s multi k q) (type_is (type_of multi) (on_first (then multi) multi).known) (rw (lifted-is s multi k q) at o))
