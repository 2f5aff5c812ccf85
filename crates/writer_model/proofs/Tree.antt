-- A finished tree, read off the memory: record 0 and the parts, as the lists have them.
use Rattle.std.specs.Prelude.{◌≡◌, refl, List, ◌∷◌, ℕ}
use Rattle.std.proofs.Math.Bool.{true}
use Rattle.std.proofs.Math.Option.{some}
use Rattle.store.specs.Lists.{Rec, record_with}
use Rattle.store.specs.Records.{table_good}
use Rattle.writing.specs.declared.state.State.{State}
use Rattle.writing.specs.State.{Mem}
use Rattle.writing.specs.Calls.{finish_call}
use Rattle.writer_model.specs.Writer.{Writer, root_over, tree, finish}
use Rattle.writer_model.specs.Stands.{Stands, Agrees}
use Rattle.writer_model.specs.Stays.{stands_agree}
use Rattle.writer_model.proofs.FinishStands.{finish_stands}
use Rattle.writer_model.specs.Rows.{Reached}
use Rattle.writer_model.proofs.Rows.{row_stands}
use Rattle.writer_model.specs.Tree.{Holds, tree-read}

-- between finish and next, on any memory that agrees with what finish left
pub finished-read : (s : State) (k m : Mem) (w : Writer) → Stands s k w → (finish_call s k).wrote.number ≡ 0 → Agrees (finish_call s k).wrote.state (finish_call s k).mem m
    → table_good m.table ≡ true → Holds (record_with m.table m.pools) 0 (tree w)
unfolding finish
finished-read s k m w h q a whole =
    tree-read _ m (finish w) (stands_agree _ (finish_call s k).mem m (finish w) a (finish_stands s k w h q)) (root_over w w.parts) refl whole

-- after any row of calls, while a feature waits, what is lent holds that feature's tree
pub row-tree : {s : State} {k : Mem} {w : Writer} {l : List ℕ} → Reached s k w l → (r : Rec) → w.root ≡ some r → (m : Mem) → Agrees s k m
    → table_good m.table ≡ true → Holds (record_with m.table m.pools) 0 (r ∷ w.parts)
row-tree {s} {k} {w} row r waits m a whole = tree-read s m w (stands_agree s k m w a (row_stands row)) r waits whole
