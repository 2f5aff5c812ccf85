-- The pending words, by lane.
use Rattle.std.specs.Prelude.{ℕ, ◌+◌}
use Rattle.kinds.specs.declared.lanes.Lanes.{Lanes}
use Rattle.kinds.specs.Lanes.{Lane, lane, lanes_of}
use Rattle.pending.specs.declared.words.Words.{Words}

abbrev pub Pending : Type 0
Pending = Lanes Words

abbrev pub words : ℕ → ℕ → Words
words start count = record { start = start; count = count }

abbrev pub words_in : Pending → Lane → Words
words_in p n = lane p n

abbrev pub pending_of : (Lane → Words) → Pending
pending_of f = lanes_of f

-- a pool is used up to its last pending word
abbrev pub used : Words → ℕ
used p = p.start + p.count
