-- A feature on lent memory: its events under its number, finish, the tree that is read, next. That all is accepted is again a test that looks at lengths alone.
use Rattle.std.specs.Prelude.{◌≡◌, true, List, ℕ, ◌<◌}
use Rattle.std.proofs.Math.Path.{refl}
use Rattle.kinds.specs.declared.event.Event.{Event}
use Rattle.store.specs.Lists.{record_with}
use Rattle.store.specs.Records.{table_good}
use Rattle.writing.specs.declared.state.State.{State}
use Rattle.writing.specs.State.{Mem}
use Rattle.writing.specs.Calls.{finished}
use Rattle.writer_model.specs.Writer.{Writer, after_all, root_over, finish, tree}
use Rattle.writer_model.specs.Rows.{Reached}
use Rattle.writer_model.proofs.Rows.{row_stands}
use Rattle.writer_model.specs.Tree.{Holds, tree-read}
use Rattle.writer_model.specs.Feature.{finishes_in, finished_mem, whole_same, finish_lengths, finish-reached}

module _ (s : State) (n : ℕ) (k : Mem) (w : Writer) (l : List ℕ) (es : List Event) (fits : n < 4294967296) (ok : finishes_in s n k es ≡ true) (r : Reached s k w l) where
  -- the tree is read from the memory that finish leaves
  pub tree-left : table_good k.table ≡ true → Holds (record_with (finished_mem s n k es).table (finished_mem s n k es).pools) 0 (tree (after_all w es))
  unfolding finished finish
  tree-left whole =
      let v : Writer = after_all w es in
      tree-read _ (finished_mem s n k es) (finish v) (row_stands (finish-reached s n k w l es fits ok r)) (root_over v v.parts) refl (whole_same k _ (finish_lengths s n k w l es fits ok r) whole)
