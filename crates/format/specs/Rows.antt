-- A row of geometries, written one after another by one writer.
use Rattle.std.specs.Prelude.{◌≡◌, Bool, true, List, [], ◌∷◌, ℕ}
use Rattle.std.proofs.Math.Option.{Option}
use Rattle.kinds.specs.declared.flags.Flags.{Flags}
use Rattle.store.specs.Lists.{Rec}
use Rattle.writer_model.specs.Writer.{Writer, after_all, finish, tree, next}
use Rattle.writer_model.specs.Tree.{Holds}
use Rattle.geometries.specs.Geometry.{Simple, simple, collection, Geometry, type_of}
use Rattle.geometries.specs.Events.{events_of}
use Rattle.format.specs.Format.{Tree}
use Rattle.format.specs.Writable.{Some, Held, Writable}
use Rattle.format.specs.Writes.{then_declared, Starts}
use Rattle.format.specs.Promoted.{Lifts, declaring}
use Rattle.format.specs.Collections.{Elements, Collects}

-- what a writer, with d declared, keeps of a geometry: itself; of a LineString or Polygon that is promoted, the multi of that one
pub data Keeps (F : Flags) (d : ℕ) (detect promote : Bool) : Geometry 1 → Geometry 1 → Type 0 where
  itself : (s : Simple) (k : Held) → Starts d promote s → Writable F s k → Keeps F d detect promote (simple s) (simple s)
  multi : (s m : Simple) (k : Held) (known : Bool) → d ≡ declaring known m → promote ≡ true → Lifts F s m k → Keeps F d detect promote (simple s) (simple m)
  together : (gs : List Simple) (rs : List Rec) → Collects d detect → Some rs → Elements F gs rs → Keeps F d detect promote (collection gs) (collection gs)

abbrev pub typed : Geometry 1 → ℕ
typed (simple s) = type_of s
typed (collection gs) = 7

pub record Row : Type 0 where
  pub given : Geometry 1
  pub kept : Geometry 1

abbrev pub KeepsAll : Flags → ℕ → Bool → Bool → List Row → Type 0
KeepsAll F d detect promote [] = Unit {0}
KeepsAll F d detect promote (r ∷ rs) = Keeps F d detect promote r.given r.kept × KeepsAll F (then_declared d detect (typed r.kept)) detect promote rs

-- the writer when a geometry's events are over
abbrev pub over : Flags → Writer → Geometry 1 → Writer
over F w g = after_all w (events_of F 1 g)

-- each finished tree, in whatever table it stands, means what is kept, under what is then declared
abbrev pub EachMeans : Flags → Writer → List Row → Type 0
EachMeans F w [] = Unit {0}
EachMeans F w (r ∷ rs) = ((get : ℕ → Option Rec) → Holds get 0 (tree (over F w r.given)) → Tree get 1 (over F w r.given).typing.declared r.kept) × EachMeans F (next (finish (over F w r.given))) rs
