-- A state is the writer's typing, counts and lengths, and nothing more but the properties' length and the feature in hand; so all the words of a writer fit the usable room.
use Rattle.std.specs.Prelude.{◌≡◌, ◌+◌, ◌≤◌, length}
use Rattle.std.proofs.Common.{arith}
use Rattle.kinds.specs.Lanes.{Lane, usable}
use Rattle.pending.specs.declared.words.Words.{Words}
use Rattle.writing.specs.declared.state.State.{State}
use Rattle.pending.specs.Words.{words, words_in, pending_of}
use Rattle.writing.specs.State.{with_typing, with_waiting, with_parts, with_pending, pool_in, Mem}
use Rattle.writer_model.specs.Writer.{Writer, waits}
use Rattle.writer_model.specs.Laid.{laid}
use Rattle.writer_model.specs.Stands.{Stands}
use Rattle.writer_model.specs.Pool.{lies_count}

-- the pending words come after those of the records
abbrev pub placed : Writer → Lane → Words
placed w n = words (length (laid w n)) (length (pool_in w.pending n))

module _ (s : State) (k : Mem) (w : Writer) (h : Stands s k w) where
  placed-is : (n : Lane) → words_in s.pending n ≡ placed w n
  placed-is n = λ i. record { start = h.starts n i; count = lies_count (h.pending n) i }

  pub state-is : s ≡ with_pending (with_parts (with_waiting (with_typing s w.typing) (waits w)) (length w.parts)) (pending_of (placed w))
  state-is = λ i. with_pending (with_parts (with_waiting (with_typing s (h.typing i)) (h.waiting i)) (h.count i)) (pending_of (λ n. placed-is n i))

  pub words_fit : (n : Lane) → length (laid w n) + length (pool_in w.pending n) ≤ usable n
  words_fit n = omega (arith, h.starts n, lies_count (h.pending n), (h.pending n).fits)
