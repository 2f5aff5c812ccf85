-- A row of geometries, written one after another by one writer.
use Rattle.std.specs.Prelude.{◌≡◌, Bool, List, [], ◌∷◌, ℕ}
use Rattle.std.proofs.Common.{◌∙◌}
use Rattle.std.proofs.Math.Option.{Option}
use Rattle.kinds.specs.declared.flags.Flags.{Flags}
use Rattle.store.specs.Lists.{Rec}
use Rattle.writer_model.specs.Writer.{Writer, fresh, finish, tree, next}
use Rattle.writer_model.specs.Tree.{Holds}
use Rattle.geometries.specs.Geometry.{Simple, simple, Geometry, type_of}
use Rattle.geometries.specs.Events.{events_of}
use Rattle.format.specs.Format.{Tree}
use Rattle.format.specs.Writes.{normal, resting, fresh_rests, parts-rest, ending_rests, then_declared, starts}
use Rattle.format.proofs.Writes.{over-is, writes}
use Rattle.format.proofs.Promoted.{then_current, lifted-is, lifts}
use Rattle.format.specs.Collections.{last_type, Collects, declared, detected, gathered-is, gathers}
use Rattle.format.specs.Rows.{Keeps, typed, Row, KeepsAll, over, EachMeans, itself, multi, together}

as_shape : (get : ℕ → Option Rec) (d : ℕ) (s : Simple) → Tree get 0 d s → Tree get 1 d (simple s)
as_shape get d s t = record { root = t.root; has = t.has; means = t.means }

module _ (F : Flags) (detect promote : Bool) where
  abbrev at : ℕ → ℕ → Writer
  at d c = resting (normal d c detect promote)

  one_means : (d c : ℕ) (g k : Geometry 1) → Keeps F d detect promote g k → (get : ℕ → Option Rec) → Holds get 0 (tree (over F (at d c) g)) → Tree get 1 (over F (at d c) g).typing.declared k
  unfolding events_of
  one_means d c g k (itself s h st q) get o = as_shape get _ s (writes F d c detect promote s h st q get o)
  one_means d c g k (multi s m h known e p q) get o = rw (e, p) (as_shape get _ m (lifts F c known detect s m h q get (rw (e, p) at o)))
  one_means d c g k (together gs rs st there q) get o = gathers F d c detect promote st gs rs q there get o

  one_rests : (d c : ℕ) (g k : Geometry 1) → Keeps F d detect promote g k → (c' : ℕ) × (next (finish (over F (at d c) g)) ≡ at (then_declared d detect (typed k)) c')
  unfolding events_of
  one_rests d c g k (itself s h st q) = ((starts d c detect promote s st).current, rw (over-is F d c detect promote s h st q) (ending_rests _ h))
  one_rests d c g k (multi s m h known e p q) = (then_current F c known detect (type_of m), rw (e, p, lifted-is F c known detect s m h q) (ending_rests _ h))
  one_rests d c g k (together gs rs st there q) = (last_type c gs, rw (gathered-is F d c detect promote st gs rs q) (parts-rest _ rs ∙ go st))
    where
      go : Collects d detect → at 7 (last_type c gs) ≡ at (then_declared d detect 7) (last_type c gs)
      go (declared e) = rw e
      go (detected e f) = rw (e, f)

  rows-from : (rs : List Row) (d c : ℕ) → KeepsAll F d detect promote rs → EachMeans F (at d c) rs
  rows-from [] d c q = tt
  rows-from (r ∷ rs) d c q =
      let n = one_rests d c r.given r.kept q.0 in
      (one_means d c r.given r.kept q.0, rw n.1 (rows-from rs (then_declared d detect (typed r.kept)) n.0 q.1))

  pub rows : (rs : List Row) (d : ℕ) → KeepsAll F d detect promote rs → EachMeans F (fresh d detect promote) rs
  rows rs d q = rw (fresh_rests d detect promote) (rows-from rs d 0 q)
