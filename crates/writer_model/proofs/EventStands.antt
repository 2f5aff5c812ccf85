-- An accepted event takes memory that stands for a writer to memory that stands for the writer after it.
use Rattle.std.specs.Prelude.{Some, ◌≡◌, refl, Bool, true, ℕ, ◌+◌, ◌/◌, ◌≤◌, ◌<◌, length, take}
use Rattle.std.proofs.Common.{sym, ◌∙◌, arith}
use Rattle.std.proofs.Math.Path.{ap, subst}
use Rattle.std.proofs.Math.Bool.{false, cond}
use mathlib.Core.List.{List, [], ◌∷◌, ◌++◌}
use Rattle.std.proofs.Math.ListN.{length-append}
use Rattle.kinds.specs.Lanes.{Lane, xyL, endsL, zL, mL, tL, tmL, usable}
use Rattle.kinds.specs.declared.event.Event.{Event}
use Rattle.kinds.specs.declared.geometry.Geometry.{Geometry}
use Rattle.store.specs.Lists.{Pools}
use Rattle.store.specs.Records.{records_lent, put_record}
use Rattle.store.specs.RecordLaws.{put_same, put_other}
use Rattle.asking.specs.declared.typing.Typing.{Typing}
use Rattle.pending.specs.Words.{Pending, words_in, used}
use Rattle.writing.specs.declared.state.State.{State}
use Rattle.asking.specs.SetType.{Typed}
use Rattle.asking.specs.Ask.{Added, ask, ask_of, adds_to}
use Rattle.asking.specs.declared.ask.Ask.{Ask}
use Rattle.writing.specs.State.{pool_in, pools_by, Mem, memory}
use Rattle.writing.specs.Calls.{values_of, gives, records_for, state_after, table_after, pool_after, mem_after, event_with}
use Rattle.pending.specs.Growth.{at_once, more, grown, grown_all, omitted, past, past_all, part_of as part_at}
use Rattle.writer_model.specs.Writer.{Writer, part_of, finish_part, after}
use Rattle.writer_model.specs.Laid.{words_of, laid, laid_snoc}
use Rattle.writer_model.specs.Each.{Each, each_snoc}
use Rattle.writer_model.specs.Lanes.{words-by, pool_by, none_by}
use Rattle.writer_model.specs.Stretches.{front_same, front_kept}
use Rattle.writer_model.specs.Stands.{Lies, Shows, IfThere, Stands}
use Rattle.writer_model.specs.Stays.{Later, parts-still, no_root}
use Rattle.writer_model.specs.Took.{Room, took-event}
use Rattle.writer_model.specs.Asked.{counted, extended, acted, after_is}
use Rattle.writer_model.specs.Pool.{lies_count, lies_push, lies_past}
use Rattle.writer_model.proofs.PartShown.{part_ends, part_sized, part_shown}

-- the words are as many as asked
more_long : (s : State) (a : Added) (e : Event) (n : Lane) → length (gives s a e n) ≡ more a n
more_long s a e n = go (adds_to a n) n
  where
    go : (b : Bool) (n : Lane) → length (cond b (values_of s e n) []) ≡ cond b (at_once n) 0
    go false n = refl
    go true xyL = refl
    go true endsL = refl
    go true zL = refl
    go true mL = refl
    go true tL = refl
    go true tmL = refl

-- an end counts the same pairs
same-values : (s s' : State) (e : Event) (n : Lane) → s.pending.xy.count ≡ s'.pending.xy.count → values_of s e n ≡ values_of s' e n
same-values s s' e xyL q = refl
same-values s s' e endsL q = ap (λ (c : ℕ). c / 2 ∷ []) q
same-values s s' e zL q = refl
same-values s s' e mL q = refl
same-values s s' e tL q = refl
same-values s s' e tmL q = refl

module _ (s : State) (k : Mem) (w : Writer) (h : Stands s k w) (number : ℕ) (e : Event) (a : Added) (to : Typing) where
  abbrev p' : Pending
  p' = grown_all s.pending a

  abbrev P' : Ask → Pools
  P' x = pools_by (pool_after s x e k.pools)

  module _ (typed : Typed) (part : Bool) (room : Room s.pending a (records_for s (ask typed a part)) k) where
    abbrev asks : Ask
    asks = ask typed a part

    grown_lies : (n : Lane) → Lies (pool_in (P' asks) n) (words_in p' n) (usable n) (pool_in (extended w a e).pending n)
    unfolding grown_all
    grown_lies n =
        let same : gives s a e n ≡ gives (counted w) a e n = ap (λ (vs : List ℕ). cond (adds_to a n) vs []) (same-values s (counted w) e n (lies_count (h.pending xyL))) in
        rw (pool_by (pool_after s asks e k.pools) n, words-by (λ m. grown (words_in s.pending m) (more a m)) n, pool_by (λ m. pool_in w.pending m ++ gives (counted w) a e m) n, ← same)
        (lies_push (h.pending n) (gives s a e n) (more a n) (more_long s a e n) (room.lent n) (room.fits n))

    later : (s' : State) (table : List ℕ) → ((m : Lane) → (words_in s.pending m).start ≤ (words_in s'.pending m).start) → s.parts ≤ s'.parts → Later s k s' (memory table (P' asks))
    later s' table starts parts = record { pools = pools; starts = starts; parts = parts }
      where
        pools : (m : Lane) → take (words_in s.pending m).start (pool_in (P' asks) m) ≡ take (words_in s.pending m).start (pool_in k.pools m)
        pools m =
            let u : ℕ = used (words_in s.pending m) in
            let kept = front_kept (pool_in k.pools m) (gives s a e m) u (omega (arith, room.lent m, more_long s a e m)) in
            rw (pool_by (pool_after s asks e k.pools) m) (front_same u (pool_in k.pools m) _ kept (words_in s.pending m).start (omega arith))

  abbrev Result : Typed → Bool → Type 0
  Result typed part = Stands (state_after s number (ask typed a part) to) (mem_after s (ask typed a part) e k) (acted w (ask typed a part) e to)

  -- no part is finished
  added_stands : (typed : Typed) → Room s.pending a (records_for s (ask typed a false)) k → s.waiting ≡ false → Result typed false
  unfolding state_after mem_after table_after acted
  added_stands typed room going = record {
    typing = refl;
    waiting = h.waiting;
    count = h.count;
    most = h.most;
    starts = λ n. same_start n ∙ h.starts n;
    pending = grown_lies typed false room;
    parts = parts-still s k _ _ (later typed false room _ k.table (λ m. omega (arith, same_start m)) (omega arith)) w.parts (λ i b c. refl) h.parts;
    root = subst (IfThere _) (sym (no_root s k w h going)) tt;
  }
    where
      same_start : (m : Lane) → (words_in p' m).start ≡ (words_in s.pending m).start
      same_start m = unfold grown_all in rw (words-by (λ n. grown (words_in s.pending n) (more a n)) m)

  -- a part is finished
  parted_stands : (typed : Typed) → Room s.pending a (s.parts + 2) k → s.waiting ≡ false → Result typed true
  unfolding state_after mem_after table_after acted finish_part past_all grown_all
  parted_stands typed room going = record {
    typing = refl;
    waiting = h.waiting;
    count = omega (arith, h.count, length-append w.parts (part_of v ∷ []));
    most = omega (arith, room.most);
    starts = begins;
    pending = λ n. rw (words-by (λ m. past (words_in p' m) (omitted m)) n, none_by n) (lies_past (lies n) (omitted n));
    parts = each_snoc (Shows s' k') 1 (s.parts + 1) w.parts (part_of v) (omega (arith, h.count)) before there;
    root = subst (IfThere _) (sym (no_root s k w h going)) tt;
  }
    where
      v : Writer
      v = extended w a e

      g : Geometry
      g = part_at s.typing.current p'

      table : List ℕ
      table = put_record k.table (s.parts + 1) g

      s' : State
      s' = state_after s number (ask typed a true) to

      k' : Mem
      k' = mem_after s (ask typed a true) e k

      lies : (n : Lane) → Lies (pool_in (P' (ask typed a true)) n) (words_in p' n) (usable n) (pool_in v.pending n)
      lies = grown_lies typed true room

      in_table : s.parts + 1 < records_lent k.table
      in_table = omega (arith, room.table)

      starts : (m : Lane) → (words_in s.pending m).start ≤ (words_in s'.pending m).start
      starts m = rw (words-by (λ n. past (words_in p' n) (omitted n)) m, words-by (λ n. grown (words_in s.pending n) (more a n)) m) (omega arith)

      begins : (n : Lane) → (words_in s'.pending n).start ≡ length (laid (finish_part v) n)
      begins n =
          rw (words-by (λ m. past (words_in p' m) (omitted m)) n, part_ends k'.pools p' v lies n, words-by (λ m. grown (words_in s.pending m) (more a m)) n, laid_snoc w.root w.parts (part_of v) n)
          (omega (arith, h.starts n, length-append (laid w n) (words_of (part_of v) n)))

      before : Each (Shows s' k') 1 w.parts
      before = parts-still s k s' k' (later typed true room s' table starts (omega arith)) w.parts (λ i b c. put_other k.table (s.parts + 1) g in_table i (λ z. omega (arith, h.count))) h.parts

      there : Shows s' k' (s.parts + 1) (part_of v)
      there =
          let written = put_same k.table (s.parts + 1) g in_table (part_sized k'.pools p' v lies s.typing.current) in
          part_shown k'.pools p' v lies s' table (s.parts + 1) s.typing.current refl (ap (λ (x : Typing). x.current) h.typing) written

  asked_stands : (typed : Typed) (part : Bool) → Room s.pending a (records_for s (ask typed a part)) k → s.waiting ≡ false → Result typed part
  asked_stands typed true = parted_stands typed
  asked_stands typed false = added_stands typed

pub event_stands : (s : State) (k : Mem) (w : Writer) (n : ℕ) (e : Event) → Stands s k w → (event_with s n (ask_of s.typing e) e k).wrote.number ≡ 0
    → Stands (event_with s n (ask_of s.typing e) e k).wrote.state (event_with s n (ask_of s.typing e) e k).mem (after w e)
unfolding event_with
event_stands s k w n e h q =
    let a : Ask = ask_of s.typing e in
    let t = took-event s n a k q in
    let b : (ask_of w.typing e).typed ≡ Some t.to = ap (λ (g : Typing). (ask_of g e).typed) (sym h.typing) ∙ t.typed in
    let c : after w e ≡ acted w a e t.to = after_is w e t.to b ∙ ap (λ (g : Typing). acted w (ask_of g e) e t.to) (sym h.typing) in
    rw (t.is, c) (asked_stands s k w h n e a.added t.to a.typed a.part t.has t.going)
