-- What a log's bytes tell of the script that was said to it: where they are a list's records, and all fit, the script says that list.
use Rattle.std.specs.Prelude.{ℕ, ◌≤◌}
use Rattle.std.proofs.Common.{arith}
use mathlib.Core.List.{List}
use Rattle.laws.specs.Cut.{Said}
use Rattle.kinds.specs.declared.flags.Flags.{Flags}
use Rattle.event_log.specs.Log.{events}
use Rattle.store.specs.Lists.{Pools, record_with}
use Rattle.reader.specs.Reading.{read_s}
use Rattle.least.specs.Fits.{Fits}
use Rattle.least.specs.Sized.{InWords}
use Rattle.asking.specs.declared.typing.Typing.{Typing}
use Rattle.writer_model.specs.Writer.{tree}
use Rattle.writer_model.specs.Tree.{Holds}
use Rattle.geometries.specs.Geometry.{Simple, type_of}
use Rattle.geometries.specs.Events.{events_of}
use Rattle.geometries.specs.Told.{Complete}
use Rattle.format.specs.Writable.{All, Held, Writable}
use Rattle.format.specs.Writes.{ending}
use Rattle.least.specs.Least.{least_of}
use Rattle.least.specs.Sound.{tree_size}
use Rattle.least.proofs.Smallest.{table_at_least, table_at_most}
use Rattle.least.specs.Logged.{logged_reads}

-- ---- no table and pools of words that leave a geometry's events in a log are smaller than the least, nor than the tree that the writer leaves
module _ (F : Flags) (s : Simple) (fit : All Fits (events_of F 0 s)) (table : List ℕ) (P : Pools) (words : InWords P) (feature : ℕ) (L : List ℕ) (number count : ℕ) (M : List ℕ)
    (said : Said (events feature) (read_s F (record_with table P) (type_of s)) L number count M) (complete : Complete (events feature) (events_of F 0 s) L number count M) where
  pub logged_at_least : least_of F s ≤ tree_size table P
  logged_at_least = table_at_least F s table P (logged_reads F table P words (type_of s) (events_of F 0 s) fit feature L number count M said complete)

  pub logged_smallest : (k : Held) (h : Typing) (own : List ℕ) (pools : Pools) → Writable F s k → Holds (record_with own pools) 0 (tree (ending h k)) → tree_size own pools ≤ tree_size table P
  logged_smallest k h own pools q o = omega (arith, table_at_most F s k h own pools q o, logged_at_least)
