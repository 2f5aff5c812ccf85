-- Next takes memory that stands for a finished writer to memory that stands for the one that goes on, with what was pending.
use Rattle.std.specs.Prelude.{◌≡◌, refl}
use Rattle.std.proofs.Common.{arith}
use Rattle.writing.specs.declared.state.State.{State}
use Rattle.pending.specs.Words.{words_in}
use Rattle.writing.specs.State.{Mem}
use Rattle.pending.specs.Growth.{fronted}
use Rattle.writing.specs.Calls.{renewed, pool_moved, next_call}
use Rattle.writer_model.specs.Writer.{Writer, next}
use Rattle.writer_model.specs.Lanes.{words-by, pool_by}
use Rattle.writer_model.specs.Stands.{Stands}
use Rattle.writer_model.specs.Took.{took-next}
use Rattle.writer_model.specs.Pool.{lies_move}

pub next_stands : (s : State) (k : Mem) (w : Writer) → Stands s k w → (next_call s k).wrote.number ≡ 0 → Stands (next_call s k).wrote.state (next_call s k).mem (next w)
unfolding next_call renewed next
next_stands s k w st q =
    let t = took-next s k q in
    rw t.is (record {
      typing = st.typing;
      waiting = refl;
      count = refl;
      most = omega arith;
      starts = λ n. rw (words-by (λ m. fronted (words_in s.pending m)) n);
      pending = λ n. rw (pool_by (pool_moved s k.pools) n, words-by (λ m. fronted (words_in s.pending m)) n) (lies_move (st.pending n));
      parts = tt;
      root = tt;
    })
