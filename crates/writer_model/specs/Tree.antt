-- A finished tree, read off the memory: record 0 and the parts, as the lists have them.
use Rattle.std.specs.Prelude.{None, Some, ◌≡◌, refl, List, [], ◌∷◌, ◌++◌, ℕ, ◌+◌, ◌≤◌, ◌<◌, length}
use Rattle.std.proofs.Common.{ap, ◌∙◌, append_assoc, arith, length-append}
use Rattle.std.proofs.Math.Bool.{true}
use Rattle.std.proofs.Math.Option.{Option, some}
use Rattle.std.proofs.Math.ListN.{get_elem?}
use borrow.Author.Tests.{le-leb, lt-ltb}
use Rattle.kinds.specs.Lanes.{Lane, usable, span_in, lent_in}
use Rattle.kinds.specs.Geometry.{Span}
use Rattle.store.specs.Lists.{Rec, lent_of, seen, record_with, with_good}
use Rattle.store.specs.Records.{records_lent, table_good, has_record, record_in, in_pool, in_table, lists_in}
use Rattle.store.specs.RecordLaws.{InPool, InTable, record_is, good_lent}
use Rattle.writing.specs.declared.state.State.{State}
use Rattle.pending.specs.Words.{words_in}
use Rattle.writing.specs.State.{pool_in, Mem}
use Rattle.kinds.specs.LaneLaws.{every_of_lanes}
use Rattle.writer_model.specs.Writer.{Writer}
use Rattle.writer_model.specs.Each.{Each, each-still}
use Rattle.writer_model.specs.Lanes.{lent_by}
use Rattle.writer_model.specs.Stands.{Shows, Stands}

-- an accessor of records by number has these, from a number on
abbrev pub Holds : (ℕ → Option Rec) → ℕ → List Rec → Type 0
Holds get = Each (λ n r. get n ≡ some r)

-- a list of records, as an accessor
pub list_holds : (before rs : List Rec) → Holds (get_elem? (before ++ rs)) (length before) rs
list_holds before [] = tt
list_holds before (r ∷ rs) = (at before, simp (append_assoc, length-append) at (list_holds (before ++ (r ∷ [])) rs))
  where
    at : (before : List Rec) → get_elem? (before ++ r ∷ rs) (length before) ≡ some r
    at [] = refl
    at (q ∷ before) = at before

-- ---- the tests of a record that is where it should be
pool_in_lem : (span : Span) (n lent most : ℕ) → InPool span n most → n ≤ lent → in_pool span lent most ≡ true
pool_in_lem None n lent most i h = refl
pool_in_lem (Some span) n lent most i h = rw (le-leb (span.start + span.count) lent (omega (arith, i.0)), le-leb (span.start + span.count) most i.1)

table_in : (span : Span) (i n lent : ℕ) → InTable span i n → n ≤ lent → in_table span i lent ≡ true
table_in None i n lent t h = refl
table_in (Some span) i n lent t h = rw (lt-ltb i span.start t.0, le-leb (span.start + span.count) lent (omega (arith, t.1)), le-leb (span.start + span.count) 4096 t.2)

module _ (s : State) (k : Mem) (w : Writer) (h : Stands s k w) (r : Rec) (waits : w.root ≡ some r) where
  shown : Each (Shows s k) 0 (r ∷ w.parts)
  shown = (rw waits at h.root, h.parts)

  -- the table has room for it, since its records are read from it
  last : (n : ℕ) (rs : List Rec) → n ≤ records_lent k.table → Each (Shows s k) n rs → n + length rs ≤ records_lent k.table
  last n [] b e = omega arith
  last n (a ∷ rs) b e = omega (arith, last (n + 1) rs (omega (arith, good_lent k.table n e.0.geometry e.0.read)) e.1)

  lent : s.parts + 1 ≤ records_lent k.table
  lent = omega (arith, h.count, last 0 (r ∷ w.parts) (omega arith) shown)

  -- from any table, whole or not
  pub tree-records : Holds (λ n. seen k.pools (record_in k.table n)) 0 (r ∷ w.parts)
  tree-records = each-still (Shows s k) _ 0 (r ∷ w.parts) (λ i a b c q. rw q.read (ap some q.lists)) shown

  -- from a table of whole records, as a reader does
  module _ (whole : table_good k.table ≡ true) where
    has : (n : ℕ) → n < s.parts + 1 → has_record k.table n ≡ true
    unfolding has_record
    has n b = rw (whole, lt-ltb n (records_lent k.table) (omega (arith, lent)), lt-ltb n 4096 (omega (arith, h.most)))

    lists_in_lem : (n : ℕ) (a : Rec) (q : Shows s k n a) → lists_in q.geometry (lent_of k.pools) n (records_lent k.table) ≡ true
    unfolding lists_in
    lists_in_lem n a q = rw (every_of_lanes (λ m. in_pool (span_in q.geometry m) (lent_in (lent_of k.pools) m) (usable m)) pool, table_in q.geometry.parts n (s.parts + 1) (records_lent k.table) q.above lent)
      where
        pool : (m : Lane) → in_pool (span_in q.geometry m) (lent_in (lent_of k.pools) m) (usable m) ≡ true
        pool m = rw (lent_by k.pools m) (pool_in_lem (span_in q.geometry m) (words_in s.pending m).start (length (pool_in k.pools m)) (usable m) (q.below m) (omega (arith, (h.pending m).lent)))

    read : (n : ℕ) (a : Rec) → n < s.parts + 1 → Shows s k n a → record_with k.table k.pools n ≡ some a
    read n a b q =
        with_good k.table k.pools n q.geometry (record_is k.table (lent_of k.pools) n (has n b) ∙ rw (q.read, lists_in_lem n a q))
        ∙ ap some q.lists

    pub tree-read : Holds (record_with k.table k.pools) 0 (r ∷ w.parts)
    tree-read = each-still (Shows s k) _ 0 (r ∷ w.parts) (λ i a b c q. read i a (omega (arith, h.count)) q) shown
