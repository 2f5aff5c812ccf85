-- No tree that reads to a geometry's events is smaller than the one that the writer leaves.
use Rattle.std.specs.Prelude.{◌≡◌, List, ℕ, suc, ◌≤◌}
use Rattle.std.proofs.Math.Path.{refl}
use Rattle.std.proofs.Math.Option.{Option, none, some}
use Rattle.std.proofs.Common.{arith}
use Rattle.kinds.specs.declared.flags.Flags.{Flags}
use Rattle.store.specs.Lists.{Pools, Rec, record_with}
use Rattle.reader.specs.Reading.{root_s, read_s}
use Rattle.asking.specs.declared.typing.Typing.{Typing}
use Rattle.writer_model.specs.Writer.{tree}
use Rattle.writer_model.specs.Tree.{Holds}
use Rattle.geometries.specs.Geometry.{Simple, type_of}
use Rattle.geometries.specs.Events.{events_of}
use Rattle.geometries.specs.Told.{told}
use Rattle.format.specs.Writable.{Held, Writable}
use Rattle.format.specs.Writes.{ending}
use Rattle.least.specs.Size.{size_of, Sound}
use Rattle.least.specs.Least.{least_of}
use Rattle.least.proofs.Root.{of_root, some-event}
use Rattle.least.specs.Below.{size_least}
use Rattle.least.specs.Sound.{tree_size, table_sound}
use Rattle.least.proofs.Written.{written_least}

module _ (F : Flags) (s : Simple) where
  -- by whatever accessor of records
  pub at_least : (N : ℕ) (get : ℕ → Option Rec) → Sound (suc N) get → read_s F get (type_of s) ≡ told (events_of F 0 s) → least_of F s ≤ size_of (suc N) get
  unfolding read_s root_s events_of
  at_least N get sound h = go (get 0) refl h
    where
      go : (o : Option Rec) → get 0 ≡ o → root_s F get o (type_of s) ≡ told (events_of F 0 s) → least_of F s ≤ size_of (suc N) get
      go none e h = some-event F s h
      go (some r) e h = omega (arith, of_root F s get r h, size_least get N r r.parts sound e refl)

  -- in whatever table and pools
  pub table_at_least : (table : List ℕ) (P : Pools) → read_s F (record_with table P) (type_of s) ≡ told (events_of F 0 s) → least_of F s ≤ tree_size table P
  unfolding tree_size
  table_at_least table P h = at_least 4095 (record_with table P) (table_sound table P) h

  -- the tree that the writer leaves, on any memory that holds it
  pub table_at_most : (k : Held) (h : Typing) (table : List ℕ) (P : Pools) → Writable F s k → Holds (record_with table P) 0 (tree (ending h k)) → tree_size table P ≤ least_of F s
  unfolding tree_size
  table_at_most k h table P q o = written_least F h 4096 (record_with table P) s k q o

  -- the one is no larger than the other, in whatever table and pools each stands
  pub smallest : (k : Held) (h : Typing) (table table' : List ℕ) (P P' : Pools) → Writable F s k → Holds (record_with table P) 0 (tree (ending h k)) → read_s F (record_with table' P') (type_of s) ≡ told (events_of F 0 s) → tree_size table P ≤ tree_size table' P'
  smallest k h table table' P P' q o e = omega (arith, table_at_most k h table P q o, table_at_least table' P' e)
