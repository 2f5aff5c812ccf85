-- The calls of the library, on words and numbers.
use Rattle.std.specs.Prelude.{Bool, cond, not, List, ℕ, eqb}
use Rattle.writing.specs.State.{Mem, Outcome}
use Rattle.runs.specs.Events.{Progress}
use Rattle.as_words.specs.Words.{words_after, words_after_all}

-- 0 is no, all else yes
abbrev pub yes : ℕ → Bool
yes n = not (eqb n 0)

-- 1 for true, 0 for false
abbrev pub one : Bool → ℕ
one b = cond b 1 0

-- what a writing call comes to: the number, the state's words, and the final contents of all lent memory
pub record Kept : Type 0 where
  pub number : ℕ
  pub words : List ℕ
  pub mem : Mem

abbrev pub kept : ℕ → List ℕ → Mem → Kept
kept number words mem = record { number = number; words = words; mem = mem }

unfoldable pub kept_of : List ℕ → Outcome → Kept
kept_of words o = kept o.wrote.number (words_after words o.wrote) o.mem

-- what taking events comes to: how many were taken, too
pub record Taken : Type 0 where
  pub number : ℕ
  pub taken : ℕ
  pub words : List ℕ
  pub mem : Mem

abbrev pub taken : ℕ → ℕ → List ℕ → Mem → Taken
taken number count words mem = record { number = number; taken = count; words = words; mem = mem }

unfoldable pub taken_of : List ℕ → Progress → Taken
taken_of words p = taken p.took.number p.took.taken (words_after_all words p.took) p.mem
