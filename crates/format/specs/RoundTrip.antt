-- What is written in a row is read back: by way of the format.
use Rattle.std.specs.Prelude.{◌≡◌, List, [], ◌∷◌, ℕ}
use Rattle.std.proofs.Math.Option.{Option}
use Rattle.kinds.specs.declared.flags.Flags.{Flags}
use Rattle.store.specs.Lists.{Rec}
use Rattle.reader.specs.Reading.{read_s}
use Rattle.writer_model.specs.Writer.{Writer, finish, tree, next}
use Rattle.writer_model.specs.Tree.{Holds}
use Rattle.geometries.specs.Events.{events_of}
use Rattle.geometries.specs.Told.{told}
use Rattle.format.specs.Reads.{AllSmall}
use Rattle.format.specs.Rows.{Row, over}

-- ---- each finished tree, in whatever table it stands, is read as the events of what is kept
abbrev pub EachReads : Flags → Writer → List Row → Type 0
EachReads F w [] = Unit {0}
EachReads F w (r ∷ rs) = ((get : ℕ → Option Rec) → AllSmall get → Holds get 0 (tree (over F w r.given)) → read_s F get (over F w r.given).typing.declared ≡ told (events_of F 1 r.kept)) × EachReads F (next (finish (over F w r.given))) rs
