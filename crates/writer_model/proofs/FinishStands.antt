-- Finish takes memory that stands for a writer to memory that stands for it with its tree finished.
use Rattle.std.specs.Prelude.{None, Some, ◌≡◌, true, ℕ, ◌+◌, ◌≤◌, ◌<◌}
use Rattle.std.proofs.Math.Path.{refl, ap}
use Rattle.std.proofs.Common.{sym, ◌∙◌, subst, eq-eqb, ne_eqb}
use mathlib.Core.List.{List, [], ◌∷◌, ◌++◌, append-nil}
use Rattle.std.proofs.Math.Option.{none, some}
use native.Mathlib.Omega.{arith}
use Rattle.std.proofs.Math.ListN.{length}
use Rattle.kinds.specs.LaneLaws.{by_lane}
use Rattle.kinds.specs.Geometry.{SpanSized, GeometrySized}
use Rattle.kinds.specs.Lanes.{Lane}
use Rattle.store.specs.Lists.{Pools, Rec}
use Rattle.store.specs.Records.{record_in, records_lent, put_record}
use Rattle.store.specs.RecordLaws.{put_same, put_other}
use Rattle.asking.specs.declared.typing.Typing.{Typing}
use Rattle.writing.specs.declared.state.State.{State}
use Rattle.pending.specs.Words.{words_in}
use Rattle.writing.specs.State.{with_waiting, with_pending, Mem, memory}
use Rattle.asking.specs.Ask.{no_words}
use Rattle.pending.specs.Growth.{omitted, past, past_all, part_of as part_at, root_over as root_at}
use Rattle.writing.specs.Calls.{finished, root_of, finish_call}
use Rattle.writer_model.specs.Writer.{Writer, writer, root_over, finish}
use Rattle.writer_model.specs.Laid.{words_of, joined}
use Rattle.writer_model.specs.Lanes.{words-by, none_by}
use Rattle.writer_model.specs.Stands.{Shows, Stands}
use Rattle.writer_model.specs.Stays.{parts-still, no_root}
use Rattle.writer_model.specs.Took.{Room, took-finish}
use Rattle.writer_model.specs.Pool.{lies_past}
use Rattle.writer_model.proofs.PartShown.{part_ends, part_sized, part_shown}

-- ---- the record of a root with type and parts alone
root-sized : (kind parts : ℕ) → parts ≤ 4096 → GeometrySized (root_at kind parts)
unfolding root_at
root-sized kind parts most = record { xy = absent; ends = absent; z = absent; m = absent; t = absent; tm = absent; parts = record { start = omega arith; count = omega arith } }
  where
    absent : SpanSized None
    absent = record { start = omega arith; count = omega arith }

root-shown : (s : State) (table : List ℕ) (P : Pools) (kind kind' n : ℕ) → kind ≡ kind' → s.parts ≡ n → s.parts + 1 ≤ 4096 → record_in table 0 ≡ Some (root_at kind s.parts)
    → Shows s (memory table P) 0 (record { kind = kind'; xy = none; ends = none; z = none; m = none; t = none; tm = none; parts = some (1, n) })
unfolding root_at
root-shown s table P kind kind' n e f most r = record {
  geometry = root_at kind s.parts;
  read = r;
  lists = λ i. record { kind = e i; xy = none; ends = none; z = none; m = none; t = none; tm = none; parts = some (1, f i) };
  below = by_lane _ tt tt tt tt tt tt;
  above = (omega arith, omega arith, omega arith);
}

-- ---- finish
module _ (s : State) (k : Mem) (h : Typing) (pending : Pools) (room : Room s.pending no_words (s.parts + 1) k) where
  in_table : 0 < records_lent k.table
  in_table = omega (arith, room.table)

  -- no part: the pending lists are the root's
  alone_stands : Stands s k (writer h pending [] none)
      → Stands (with_waiting (with_pending s (past_all s.pending)) true) (memory (put_record k.table 0 (part_at s.typing.current s.pending)) k.pools) (finish (writer h pending [] none))
  unfolding finish past_all
  alone_stands st = record {
    typing = st.typing;
    waiting = refl;
    count = st.count;
    most = st.most;
    starts = λ n. rw (words-by (λ m. past (words_in s.pending m) (omitted m)) n, part_ends k.pools s.pending (writer h pending [] none) st.pending n, append-nil) (omega (arith, st.starts n));
    pending = λ n. rw (words-by (λ m. past (words_in s.pending m) (omitted m)) n, none_by n) (lies_past (st.pending n) (omitted n));
    parts = tt;
    root = part_shown k.pools s.pending (writer h pending [] none) st.pending _ _ 0 s.typing.current refl (ap (λ (x : Typing). x.current) st.typing) written;
  }
    where
      written : record_in (put_record k.table 0 (part_at s.typing.current s.pending)) 0 ≡ Some (part_at s.typing.current s.pending)
      written = put_same k.table 0 _ in_table (part_sized k.pools s.pending (writer h pending [] none) st.pending s.typing.current)

  -- parts: a root with type and parts alone
  over_stands : (p : Rec) (ps : List Rec) → Stands s k (writer h pending (p ∷ ps) none)
      → Stands (with_waiting s true) (memory (put_record k.table 0 (root_at s.typing.current s.parts)) k.pools) (finish (writer h pending (p ∷ ps) none))
  unfolding finish
  over_stands p ps st = record {
    typing = st.typing;
    waiting = refl;
    count = st.count;
    most = st.most;
    starts = λ n. st.starts n ∙ ap (λ (l : List ℕ). length (l ++ joined (p ∷ ps) n)) (sym (bare n));
    pending = st.pending;
    parts = parts-still s k _ _ (record { pools = λ m. refl; starts = λ m. omega arith; parts = omega arith }) (p ∷ ps) (λ i b c. put_other k.table 0 (root_at s.typing.current s.parts) in_table i (λ z. omega arith)) st.parts;
    root = root-shown _ _ k.pools s.typing.current h.current (length (p ∷ ps)) (ap (λ (x : Typing). x.current) st.typing) st.count st.most written;
  }
    where
      written : record_in (put_record k.table 0 (root_at s.typing.current s.parts)) 0 ≡ Some (root_at s.typing.current s.parts)
      written = put_same k.table 0 _ in_table (root-sized s.typing.current s.parts (omega (arith, st.most)))

      bare : (n : Lane) → words_of (root_over (writer h pending (p ∷ ps) none) (p ∷ ps)) n ≡ []
      bare = by_lane _ refl refl refl refl refl refl

  finished_stands : (rs : List Rec) → Stands s k (writer h pending rs none) → Stands (finished s) (memory (put_record k.table 0 (root_of s)) k.pools) (finish (writer h pending rs none))
  unfolding finished root_of
  finished_stands [] st = rw (eq-eqb s.parts 0 st.count) (alone_stands st)
  finished_stands (p ∷ ps) st = rw (ne_eqb s.parts 0 (λ z. omega (arith, st.count))) (over_stands p ps st)

pub finish_stands : (s : State) (k : Mem) (w : Writer) → Stands s k w → (finish_call s k).wrote.number ≡ 0 → Stands (finish_call s k).wrote.state (finish_call s k).mem (finish w)
unfolding finish_call
finish_stands s k w st q =
    let t = took-finish s k q in
    let e : w ≡ writer w.typing w.pending w.parts none = ap (writer w.typing w.pending w.parts) (no_root s k w st t.going) in
    rw (t.is, ap finish e) (finished_stands s k w.typing w.pending t.has w.parts (subst (Stands s k) e st))
