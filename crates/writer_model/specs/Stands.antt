-- Lent memory that stands for a writer on lists, and what of it a state uses: all else is free.
use Rattle.std.specs.Prelude.{Some, ◌≡◌, true, List, ℕ, ◌+◌, ◌≤◌, length, take, drop}
use Rattle.std.proofs.Math.Option.{Option, none, some}
use Rattle.kinds.specs.Lanes.{Lane, usable, span_in}
use Rattle.kinds.specs.declared.geometry.Geometry.{Geometry}
use Rattle.store.specs.Records.{record_in}
use Rattle.store.specs.RecordLaws.{InPool, InTable}
use Rattle.store.specs.Lists.{Rec, lists_of}
use Rattle.pending.specs.declared.words.Words.{Words}
use Rattle.writing.specs.declared.state.State.{State}
use Rattle.pending.specs.Words.{words_in, used}
use Rattle.writing.specs.State.{pool_in, Mem}
use Rattle.writer_model.specs.Writer.{Writer, waits}
use Rattle.writer_model.specs.Laid.{laid}
use Rattle.writer_model.specs.Each.{Each}

-- in one pool the pending words are where the state says, within what is lent and usable
pub record Lies (pool : List ℕ) (p : Words) (most : ℕ) (pending : List ℕ) : Type 0 where
  pub there : take p.count (drop p.start pool) ≡ pending
  pub lent : used p ≤ length pool
  pub fits : used p ≤ most

-- record n, with its lists, is r; the lists end before the pending words, and parts are above it, among the state's records
pub record Shows (s : State) (k : Mem) (n : ℕ) (r : Rec) : Type 0 where
  pub geometry : Geometry
  pub read : record_in k.table n ≡ Some geometry
  pub lists : lists_of k.pools geometry ≡ r
  pub below : (m : Lane) → InPool (span_in geometry m) (words_in s.pending m).start (usable m)
  pub above : InTable geometry.parts n (s.parts + 1)

abbrev pub IfThere : (Rec → Type 0) → Option Rec → Type 0
IfThere P none = Unit {0}
IfThere P (some r) = P r

-- part i is record i + 1, record 0 the root's; the pending words begin where the records' words end
pub record Stands (s : State) (k : Mem) (w : Writer) : Type 0 where
  pub typing : s.typing ≡ w.typing
  pub waiting : s.waiting ≡ waits w
  pub count : s.parts ≡ length w.parts
  pub most : s.parts + 1 ≤ 4096
  pub starts : (n : Lane) → (words_in s.pending n).start ≡ length (laid w n)
  pub pending : (n : Lane) → Lies (pool_in k.pools n) (words_in s.pending n) (usable n) (pool_in w.pending n)
  pub parts : Each (Shows s k) 1 w.parts
  pub root : IfThere (Shows s k 0) w.root

-- the words and records that a state uses are the same in both: its parts at records 1 to n, and record 0 once a finished feature waits
pub record Agrees (s : State) (k k' : Mem) : Type 0 where
  pub pools : (n : Lane) → take (used (words_in s.pending n)) (pool_in k'.pools n) ≡ take (used (words_in s.pending n)) (pool_in k.pools n)
  pub table : (i : ℕ) → i ≤ s.parts → (i ≡ 0 → s.waiting ≡ true) → record_in k'.table i ≡ record_in k.table i
