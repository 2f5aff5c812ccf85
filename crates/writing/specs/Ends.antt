-- What a call comes to, from what its steps ensure.
use Rattle.std.specs.Prelude.{◌≡◌, refl, Bool, true, false, cond, List, ℕ, ◌+◌}
use Rattle.std.proofs.Common.{sym, ap, ◌∙◌, eq-eqb, ne_eqb}
use Rattle.kinds.specs.Event.{Parsed, WellFormed, Malformed}
use Rattle.kinds.specs.Lanes.{xyL, endsL, zL, mL, tL, tmL, Lent}
use Rattle.kinds.specs.declared.event.Event.{Event}
use Rattle.store.specs.Lists.{lent_of}
use Rattle.event_log.specs.Log.{heard, feature_in}
use Rattle.store.specs.Records.{records_lent, put_record}
use Rattle.writing.specs.declared.state.State.{State}
use Rattle.asking.specs.declared.ask.Ask.{Ask}
use Rattle.writing.specs.State.{Mem, memory, mem_of, Outcome, outcome, settled, wrote, Wrote}
use Rattle.writing.specs.Feature.{belongs}
use Rattle.writing.specs.Due.{out_of_turn, of_another}
use Rattle.asking.specs.Ask.{no_words, ask_of}
use Rattle.writing.specs.Calls.{mem_after, decide_event, event_with, event_of, event_call, root_of, decide_finish, finish_call, pool_moved, decide_next, next_call}
use Rattle.pending.specs.Room.{Room}
use Rattle.writing.specs.Accepted.{finish_accepted, next_accepted}

-- ---- done, with the memory as the call says; refused, with nothing changed
done : {r d : Wrote} {k' after : Mem} (k : Mem) → r ≡ d → r.number ≡ 0 → k' ≡ after → outcome r k' ≡ settled d k after
done {r} k e h m = rw (← e, eq-eqb r.number 0 h, m)

refused : {r d : Wrote} (k after : Mem) → r ≡ d → (r.number ≡ 0 → ⊥) → outcome r k ≡ settled d k after
refused {r} k after e h = rw (← e, ne_eqb r.number 0 h)

-- what is decided on the counts that were taken is decided on the lent memory
pub decided : (k : Mem) (decide : ℕ → Lent → Wrote) {records : ℕ} {pools : Lent} {r : Wrote} → records ≡ records_lent k.table → pools ≡ lent_of k.pools → r ≡ decide records pools → r ≡ decide (records_lent k.table) (lent_of k.pools)
decided k decide records words decides = decides ∙ (λ i. decide (records i) (words i))

numbered : {r d : Wrote} → r ≡ d → r.number ≡ 0 → d.number ≡ 0
numbered e h = ap (λ (w : Wrote). w.number) (sym e) ∙ h

-- ---- event
pub malformed : (s : State) (k : Mem) (bytes : List ℕ) {p : Parsed} → p ≡ heard bytes → p ≡ Malformed → outcome (wrote 11 s) k ≡ event_call s k bytes
unfolding event_call
malformed s k bytes h e = ap (event_of s k (feature_in bytes)) (sym e ∙ h)

pub well_formed_lem : (s : State) (k : Mem) (e : Event) (bytes : List ℕ) {p : Parsed} {o : Outcome} → p ≡ heard bytes → p ≡ WellFormed e → o ≡ event_with s (feature_in bytes) (ask_of s.typing e) e k → o ≡ event_call s k bytes
unfolding event_call
well_formed_lem s k e bytes h f is = is ∙ ap (event_of s k (feature_in bytes)) (sym f ∙ h)

-- an event of another feature, whatever it asks for
pub another_feature : (s : State) (k : Mem) (e : Event) (bytes : List ℕ) → heard bytes ≡ WellFormed e → belongs s.feature (feature_in bytes) ≡ false → outcome (wrote (cond s.waiting 15 17) s) k ≡ event_call s k bytes
unfolding event_with decide_event
another_feature s k e bytes is differs = well_formed_lem s k e bytes (sym is) refl (by_turn s.waiting refl)
  where
    a : Ask
    a = ask_of s.typing e

    by_turn : (waiting : Bool) → s.waiting ≡ waiting → outcome (wrote (cond waiting 15 17) s) k ≡ event_with s (feature_in bytes) a e k
    by_turn true turn = ap (λ (w : Wrote). settled w k (mem_after s a e k)) (out_of_turn s (feature_in bytes) _ turn)
    by_turn false turn = ap (λ (w : Wrote). settled w k (mem_after s a e k)) (of_another s (feature_in bytes) _ turn differs)

-- ---- finish
module _ (s : State) (k : Mem) {records : ℕ} {pools : Lent} {r : Wrote} (lends : records ≡ records_lent k.table) (words : pools ≡ lent_of k.pools) (decides : r ≡ decide_finish s records pools) where
  pub finish-room : r.number ≡ 0 → Room s.pending no_words (s.parts + 1) (records_lent k.table) (lent_of k.pools)
  finish-room h = finish_accepted s _ _ (numbered (decided k (decide_finish s) lends words decides) h)

  pub finish-taken : r.number ≡ 0 → {table : List ℕ} → table ≡ put_record k.table 0 (root_of s) → outcome r (memory table k.pools) ≡ finish_call s k
  unfolding finish_call
  finish-taken ok table_is = done k (decided k (decide_finish s) lends words decides) ok (λ i. memory (table_is i) k.pools)

  pub finish_refused : (r.number ≡ 0 → ⊥) → outcome r k ≡ finish_call s k
  unfolding finish_call
  finish_refused not_done = refused k _ (decided k (decide_finish s) lends words decides) not_done

-- ---- next
module _ (s : State) (k : Mem) {records : ℕ} {pools : Lent} {r : Wrote} (lends : records ≡ records_lent k.table) (words : pools ≡ lent_of k.pools) (decides : r ≡ decide_next s records pools) where
  pub next-room : r.number ≡ 0 → Room s.pending no_words (s.parts + 1) (records_lent k.table) (lent_of k.pools)
  next-room h = next_accepted s _ _ (numbered (decided k (decide_next s) lends words decides) h)

  pub next-taken : r.number ≡ 0 → {xy ends z m t tm : List ℕ}
      → xy ≡ pool_moved s k.pools xyL
      → ends ≡ pool_moved s k.pools endsL
      → z ≡ pool_moved s k.pools zL
      → m ≡ pool_moved s k.pools mL
      → t ≡ pool_moved s k.pools tL
      → tm ≡ pool_moved s k.pools tmL
      → outcome r (mem_of k.table xy ends z m t tm) ≡ next_call s k
  unfolding next_call
  next-taken ok xy_is ends_is z-is m-is t-is tm-is =
      done k (decided k (decide_next s) lends words decides) ok (λ i. mem_of k.table (xy_is i) (ends_is i) (z-is i) (m-is i) (t-is i) (tm-is i))

  pub next_refused : (r.number ≡ 0 → ⊥) → outcome r k ≡ next_call s k
  unfolding next_call
  next_refused not_done = refused k _ (decided k (decide_next s) lends words decides) not_done
