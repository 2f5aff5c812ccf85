-- SPEC 6.2, 6.3: a writer's state as words, 0 the typing and marks, 1 the parts, 2 the property bytes, 3 the feature's number, then start and count of each pending list.
use Rattle.std.specs.Prelude.{Bool, true, false, cond, List, [], ◌∷◌, ℕ, ◌+◌, ◌*◌, ◌/◌, ◌%◌, eqb, get_or, Some, None}
use Rattle.kinds.specs.Event.{bit_set}
use Rattle.asking.specs.declared.typing.Typing.{Typing}
use Rattle.pending.specs.declared.words.Words.{Words}
use Rattle.pending.specs.Words.{Pending}
use Rattle.writing.specs.Feature.{Feature}
use Rattle.writing.specs.declared.state.State.{State}
use Rattle.runs.specs.Events.{Took}
use Rattle.writing.specs.State.{Wrote}

-- ---- a state from any words: spare bits are not looked at

-- a byte of a word, by what it counts for there
abbrev pub byte_of : ℕ → ℕ → ℕ
byte_of word unit = word / unit % 256

-- from the lowest byte: declared type, current type, mode, and the marks detect 1, promote 2, waiting 4, numbered 8
abbrev pub marks_of : ℕ → ℕ
marks_of head = byte_of head 16777216

unfoldable pub typing_of : ℕ → Typing
typing_of head =
    let marks = marks_of head in
    record { declared = byte_of head 1; detect = bit_set marks 1; promote = bit_set marks 2; current = byte_of head 256; mode = byte_of head 65536 }

-- a word by its number
abbrev pub word : List ℕ → ℕ → ℕ
word words i = get_or words i 0

-- a pending list's start and count, from word i on
abbrev pub list_at : List ℕ → ℕ → Words
list_at words i = record { start = word words i; count = word words (i + 1) }

unfoldable pub pending_of : List ℕ → Pending
pending_of words = record { xy = list_at words 4; ends = list_at words 6; z = list_at words 8; m = list_at words 10; t = list_at words 12; tm = list_at words 14 }

-- where no number is held, the word for it is not looked at
abbrev pub feature_by : Bool → ℕ → Feature
feature_by numbered number = cond numbered (Some number) None

unfoldable pub state_of : List ℕ → State
state_of words =
    let head = word words 0 in
    record {
      typing = typing_of head;
      waiting = bit_set (marks_of head) 4;
      parts = word words 1;
      properties = word words 2;
      feature = feature_by (bit_set (marks_of head) 8) (word words 3);
      pending = pending_of words;
    }

-- ---- a state's words
abbrev pub mark : Bool → ℕ → ℕ
mark on bit = cond on bit 0

unfoldable pub head_of : Typing → Bool → Bool → ℕ
head_of h waiting numbered = h.declared + 256 * h.current + 65536 * h.mode + 16777216 * (mark h.detect 1 + mark h.promote 2 + mark waiting 4 + mark numbered 8)

abbrev pub is_numbered : Feature → Bool
is_numbered None = false
is_numbered (Some n) = true

-- 0 where none is held
abbrev pub number_of : Feature → ℕ
number_of None = 0
number_of (Some n) = n

-- a pending list's two words, and those behind them
abbrev pub list_then : Words → List ℕ → List ℕ
list_then list rest = list.start ∷ list.count ∷ rest

unfoldable pub words_of_pending : Pending → List ℕ
words_of_pending p = list_then p.xy (list_then p.ends (list_then p.z (list_then p.m (list_then p.t (list_then p.tm [])))))

unfoldable pub words_of : State → List ℕ
words_of s = head_of s.typing s.waiting (is_numbered s.feature) ∷ s.parts ∷ s.properties ∷ number_of s.feature ∷ words_of_pending s.pending

-- the words after a call: a refusal leaves them as they were
unfoldable pub words_after : List ℕ → Wrote → List ℕ
words_after words r = cond (eqb r.number 0) (words_of r.state) words

-- after events: as the last that was taken leaves them
unfoldable pub words_after_all : List ℕ → Took → List ℕ
words_after_all words r = cond (eqb r.taken 0) words (words_of r.state)
