-- A finished part's record is the list-level part.
use Rattle.std.specs.Prelude.{Some, ◌≡◌, List, ℕ, ◌+◌, length}
use Rattle.std.proofs.Math.Option.{none}
use native.Mathlib.Omega.{arith}
use Rattle.kinds.specs.LaneLaws.{by_lane}
use Rattle.kinds.specs.Geometry.{GeometrySized}
use Rattle.kinds.specs.Lanes.{Lane, xyL, endsL, zL, mL, tL, tmL, usable, span_in}
use Rattle.store.specs.Records.{record_in}
use Rattle.store.specs.RecordLaws.{InPool, InTable}
use Rattle.store.specs.Lists.{Pools, lists_of}
use Rattle.pending.specs.Words.{Pending, words_in}
use Rattle.writing.specs.declared.state.State.{State}
use Rattle.writing.specs.State.{pool_in, memory}
use Rattle.pending.specs.Growth.{omitted, past, past_all, part_of as part_at}
use Rattle.writer_model.specs.Writer.{Writer, part_of}
use Rattle.writer_model.specs.Laid.{words_of}
use Rattle.writer_model.specs.Lanes.{words-by}
use Rattle.writer_model.specs.Stands.{Lies, Shows}
use Rattle.writer_model.specs.Pool.{listed_has, shown-has, listed-sized, shown-sized}

module _ (P : Pools) (p : Pending) (w : Writer) (h : (n : Lane) → Lies (pool_in P n) (words_in p n) (usable n) (pool_in w.pending n)) where
  part_lists : (kind : ℕ) → kind ≡ w.typing.current → lists_of P (part_at kind p) ≡ part_of w
  unfolding part_at part_of
  part_lists kind e =
      λ i. record {
        kind = e i;
        xy = (listed_has (h xyL)).list i;
        ends = (shown-has (h endsL) 1).list i;
        z = (shown-has (h zL) 0).list i;
        m = (shown-has (h mL) 0).list i;
        t = (shown-has (h tL) 0).list i;
        tm = (shown-has (h tmL) 0).list i;
        parts = none;
      }

  part_below : (kind : ℕ) (n : Lane) → InPool (span_in (part_at kind p) n) (past (words_in p n) (omitted n)).start (usable n)
  unfolding part_at
  part_below kind =
      by_lane _ (listed_has (h xyL)).below (shown-has (h endsL) 1).below (shown-has (h zL) 0).below (shown-has (h mL) 0).below (shown-has (h tL) 0).below (shown-has (h tmL) 0).below

  -- the next pending words begin where its words end
  pub part_ends : (n : Lane) → (past (words_in p n) (omitted n)).start ≡ (words_in p n).start + length (words_of (part_of w) n)
  unfolding part_of
  part_ends =
      by_lane _ (listed_has (h xyL)).ends (shown-has (h endsL) 1).ends (shown-has (h zL) 0).ends (shown-has (h mL) 0).ends (shown-has (h tL) 0).ends (shown-has (h tmL) 0).ends

  pub part_sized : (kind : ℕ) → GeometrySized (part_at kind p)
  unfolding part_at
  part_sized kind = record {
    xy = listed-sized (h xyL) (omega arith);
    ends = shown-sized (h endsL) 1 (omega arith);
    z = shown-sized (h zL) 0 (omega arith);
    m = shown-sized (h mL) 0 (omega arith);
    t = shown-sized (h tL) 0 (omega arith);
    tm = shown-sized (h tmL) 0 (omega arith);
    parts = record { start = omega arith; count = omega arith };
  }

  -- read from the table at a number, by a state whose pending words begin after it
  pub part_shown : (s : State) (table : List ℕ) (n kind : ℕ) → s.pending ≡ past_all p → kind ≡ w.typing.current → record_in table n ≡ Some (part_at kind p) → Shows s (memory table P) n (part_of w)
  unfolding past_all
  part_shown s table n kind past_is e r = record {
    geometry = part_at kind p;
    read = r;
    lists = part_lists kind e;
    below = λ m. rw (past_is, words-by (λ n. past (words_in p n) (omitted n)) m) (part_below kind m);
    above = no_parts;
  }
    where
      no_parts : InTable (part_at kind p).parts n (s.parts + 1)
      no_parts = unfold part_at in tt
