-- Every lent length is kept.
use Rattle.std.specs.Prelude.{◌≡◌, Bool, true, false, List, ℕ, ◌+◌, ◌≤◌, take, drop}
use Rattle.std.proofs.Math.Path.{refl, ap}
use Rattle.std.proofs.Common.{◌∙◌, arith, length-append, length-drop}
use Rattle.std.proofs.Math.ListN.{length}
use Rattle.std.proofs.Math.Seq.{length-sets}
use Rattle.kinds.specs.Lanes.{Lane, xyL, endsL, zL, mL, tL, tmL}
use Rattle.kinds.specs.declared.event.Event.{Event}
use Rattle.kinds.specs.Event.{Parsed, WellFormed, Malformed}
use Rattle.store.specs.Lists.{lent_of, stretch_length}
use Rattle.event_log.specs.Log.{heard, feature_in}
use Rattle.store.specs.RecordLaws.{put-length}
use Rattle.writing.specs.declared.state.State.{State}
use Rattle.asking.specs.SetType.{Typed}
use Rattle.asking.specs.Ask.{Added, ask, ask_of}
use Rattle.asking.specs.declared.ask.Ask.{Ask}
use Rattle.pending.specs.Words.{words_in, used}
use Rattle.writing.specs.State.{pool_in, Mem}
use Rattle.writing.specs.Calls.{gives, table_after, pool_after, mem_after, event_with, event_of, event_call, root_of, finish_call, moved, pool_moved, next_call}
use Rattle.pending.specs.Growth.{grown_all, part_of}
use Rattle.writer_model.specs.Lanes.{pool_by}
use Rattle.writer_model.specs.Took.{took-event, took-finish, took-next}
use Rattle.writer_model.specs.Call.{Call, event_c, finish_c, next_c, called}

pub record SameLengths (k k' : Mem) : Type 0 where
  pub table : length k'.table ≡ length k.table
  pub pools : (n : Lane) → length (pool_in k'.pools n) ≡ length (pool_in k.pools n)

pub lent_same : (k k' : Mem) → SameLengths k k' → lent_of k'.pools ≡ lent_of k.pools
lent_same k k' h = λ i. record { xy = h.pools xyL i; ends = h.pools endsL i; z = h.pools zL i; m = h.pools mL i; t = h.pools tL i; tm = h.pools tmL i }

asked_table : (s : State) (typed : Typed) (added : Added) (part : Bool) (table : List ℕ) → length (table_after s (ask typed added part) table) ≡ length table
unfolding table_after
asked_table s typed added true table = put-length table (s.parts + 1) (part_of s.typing.current (grown_all s.pending added))
asked_table s typed added false table = refl

moved_length : (l : List ℕ) (start count : ℕ) → start + count ≤ length l → length (moved l start count) ≡ length l
moved_length l start count h = omega (arith, length-append (take count (drop start l)) (drop count l), stretch_length l start count h, length-drop count l)

module _ (s : State) (k : Mem) where
  pub event_lengths : (n : ℕ) (e : Event) → (event_with s n (ask_of s.typing e) e k).wrote.number ≡ 0 → SameLengths k (event_with s n (ask_of s.typing e) e k).mem
  unfolding event_with mem_after
  event_lengths n e q =
      let a : Ask = ask_of s.typing e in
      rw (took-event s n a k q).is (record {
        table = asked_table s a.typed a.added a.part k.table;
        pools = λ m. ap length (pool_by (pool_after s a e k.pools) m) ∙ length-sets (pool_in k.pools m) (used (words_in s.pending m)) (gives s a.added e m);
      })

  heard_lengths : (n : ℕ) (p : Parsed) → (event_of s k n p).wrote.number ≡ 0 → SameLengths k (event_of s k n p).mem
  heard_lengths n Malformed q = record { table = refl; pools = λ m. refl }
  heard_lengths n (WellFormed e) q = event_lengths n e q

  pub call_lengths : (c : Call) → (called s k c).wrote.number ≡ 0 → SameLengths k (called s k c).mem
  unfolding event_call finish_call next_call
  call_lengths (event_c bytes) q = heard_lengths (feature_in bytes) (heard bytes) q
  call_lengths finish_c q = rw (took-finish s k q).is (record { table = put-length k.table 0 (root_of s); pools = λ n. refl })
  call_lengths next_c q =
      let t = took-next s k q in
      rw t.is (record {
        table = refl;
        pools = λ n. ap length (pool_by (pool_moved s k.pools) n) ∙ moved_length (pool_in k.pools n) (words_in s.pending n).start (words_in s.pending n).count (omega (arith, t.has.lent n));
      })
