-- The tables that the writer makes mean what was written.
use Rattle.std.specs.Prelude.{ℕ, length}
use Rattle.std.proofs.Math.Path.{refl}
use Rattle.std.proofs.Common.{arith}
use mathlib.Core.List.{List, [], ◌∷◌}
use Rattle.std.proofs.lemmas.Bool.{lt-leb}
use Rattle.kinds.specs.declared.flags.Flags.{Flags}
use Rattle.lines.specs.Lines.{or_none}
use Rattle.writer_model.specs.Writer.{longer}
use Rattle.geometries.specs.Geometry.{Line}
use Rattle.format.specs.Format.{joined, ends_from, Ends, Lines}
use Rattle.format.specs.FormatLaws.{ends-length}
use Rattle.format.specs.Writable.{Some, Has, HasRings}
use Rattle.format.specs.Tables.{table_of, rings_table, all-joined, table_coords}

module _ (F : Flags) (type : ℕ) where
  table-ends : (ls : List Line) → Some ls → Ends (or_none (longer 1 (ends_from 0 ls))) ls
  unfolding longer
  table-ends [] q = absurd q
  table-ends (l ∷ []) q = refl
  table-ends (l ∷ l' ∷ ls) q = rw (lt-leb (length (ends_from 0 (l ∷ l' ∷ ls))) 1 (omega (arith, ends-length 0 (l ∷ l' ∷ ls)))) refl

  pub table-lines : (ls : List Line) → HasRings F ls → Lines (rings_table type ls) ls
  table-lines ls q = record { coords = table_coords F type (joined ls) (ends_from 0 ls) (all-joined (Has F) ls q.1); ends = unfold table_of in table-ends ls q.0 }
