-- Any row of calls from start, accepted and refused, over any number of features: the memory stands for the writer on lists, and the accepted pairs are in it.
use Rattle.std.specs.Prelude.{◌≡◌, Bool, false, cond, ℕ}
use Rattle.std.proofs.Math.Path.{refl, sym, ap}
use Rattle.std.proofs.Common.{◌∙◌, arith}
use mathlib.Core.List.{List, [], ◌++◌}
use Rattle.kinds.specs.Lanes.{xyL}
use Rattle.kinds.specs.Event.{Parsed, WellFormed, Malformed}
use Rattle.event_log.specs.Log.{heard, feature_in}
use Rattle.asking.specs.declared.typing.Typing.{Typing}
use Rattle.writing.specs.declared.state.State.{State}
use Rattle.writing.specs.State.{Mem}
use Rattle.asking.specs.Ask.{ask_of}
use Rattle.writing.specs.Calls.{event_with, event_of, event_call, finish_call}
use Rattle.writer_model.specs.Writer.{Writer, fresh}
use Rattle.writer_model.specs.Stands.{Stands}
use Rattle.writer_model.specs.Stays.{stands_start, stands_agree, stands_properties, no_root}
use Rattle.writer_model.specs.Took.{took-event, took-finish}
use Rattle.writer_model.proofs.EventStands.{event_stands}
use Rattle.writer_model.proofs.FinishStands.{finish_stands}
use Rattle.writer_model.specs.NextStands.{next_stands}
use Rattle.writer_model.specs.Call.{Call, event_c, finish_c, next_c, called, hears, after_call}
use Rattle.writer_model.specs.Refused.{refused}
use Rattle.writer_model.specs.Pairs.{all_xy, event_xy, finish_xy, next_xy, xy_at, parts_xy, all_xy_at, xy_is}
use Rattle.writer_model.specs.Rows.{pair_in, pairs_after, Reached, start, lent, accepted, property, refusal}

-- ---- one accepted call
module _ (s : State) (k : Mem) (w : Writer) (h : Stands s k w) where
  heard_stands : (n : ℕ) (p : Parsed) → (event_of s k n p).wrote.number ≡ 0 → Stands (event_of s k n p).wrote.state (event_of s k n p).mem (hears w p)
  heard_stands n Malformed q = absurd (omega arith)
  heard_stands n (WellFormed e) q = event_stands s k w n e h q

  pub call_stands : (c : Call) → (called s k c).wrote.number ≡ 0 → Stands (called s k c).wrote.state (called s k c).mem (after_call w c)
  unfolding event_call
  call_stands (event_c bytes) q = heard_stands (feature_in bytes) (heard bytes) q
  call_stands finish_c q = finish_stands s k w h q
  call_stands next_c q = next_stands s k w h q

  heard_xy : (n : ℕ) (p : Parsed) → (event_of s k n p).wrote.number ≡ 0 → all_xy (hears w p) ≡ all_xy w ++ pair_in p
  unfolding event_with
  heard_xy n Malformed q = absurd (omega arith)
  heard_xy n (WellFormed e) q =
      let t = took-event s n (ask_of s.typing e) k q in
      event_xy w e t.to (ap (λ (g : Typing). (ask_of g e).typed) (sym h.typing) ∙ t.typed)

  call_xy : (c : Call) (l : List ℕ) → (called s k c).wrote.number ≡ 0 → all_xy w ≡ l → all_xy (after_call w c) ≡ pairs_after s k c l
  unfolding event_call finish_call
  call_xy (event_c bytes) l q e = heard_xy (feature_in bytes) (heard bytes) q ∙ ap (λ (x : List ℕ). x ++ pair_in (heard bytes)) e
  call_xy finish_c l q e = finish_xy w (no_root s k w h (took-finish s k q).going) ∙ e
  call_xy next_c l q e = next_xy w ∙ sym (h.pending xyL).there

-- after a row of calls memory stands for the writer on lists, and its xy lists are the accepted pairs: both at once, by the row
reached : {s : State} {k : Mem} {w : Writer} {l : List ℕ} → Reached s k w l → Stands s k w × (all_xy w ≡ l)
reached (start declared detect promote k) = (stands_start declared detect promote k, empty)
  where
    empty : all_xy (fresh declared detect promote) ≡ []
    empty = unfold fresh in refl
reached (lent {s = s} {k = k} {w = w} m a r) = let t = reached r in (stands_agree s k m w a t.0, t.1)
reached (accepted {s = s} {k = k} {w = w} {l = l} c q r) = let t = reached r in (call_stands s k w t.0 c q, call_xy s k w t.0 c l q t.1)
reached (property {s = s} {k = k} {w = w} n r) = let t = reached r in (stands_properties s k w n t.0, t.1)
reached (refusal {s = s} {k = k} {w = w} m c q r) = let t = reached r in (rw (refused s m c q).state t.0, t.1)

pub row_stands : {s : State} {k : Mem} {w : Writer} {l : List ℕ} → Reached s k w l → Stands s k w
row_stands r = (reached r).0

pub row_lists : {s : State} {k : Mem} {w : Writer} {l : List ℕ} → Reached s k w l → all_xy w ≡ l
row_lists r = (reached r).1

-- the accepted pairs since next, after those carried in, are all the xy words in use
pub row-pairs : {s : State} {k : Mem} {w : Writer} {l : List ℕ} → Reached s k w l → all_xy_at s k ≡ l
row-pairs {s} {k} {w} r = xy_is s k w (row_stands r) ∙ row_lists r

-- while events are given, the accepted pairs are exactly the parts' xy lists joined in order, then the pending list
pub accepted_pairs : {s : State} {k : Mem} {w : Writer} {l : List ℕ} → Reached s k w l → s.waiting ≡ false → parts_xy s k ≡ l
accepted_pairs {s} {k} r e = ap (λ (b : Bool). cond b (xy_at k 0) [] ++ parts_xy s k) (sym e) ∙ row-pairs r
