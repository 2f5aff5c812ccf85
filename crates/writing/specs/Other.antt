-- A begin that sets a type, or an end: it adds to the ends at most, and asks for room for that and for a part's record.
use Rattle.std.specs.Prelude.{◌≡◌, refl, true, false, cond, not, ◌&&◌, List, ℕ, ◌+◌, ◌≤◌, ◌<◌, leb, Some, None}
use Rattle.std.proofs.Common.{sym, subst, ◌∙◌, arith, leb-true, leb-false}
use Rattle.std.proofs.Math.Path.{ap}
use Rattle.std.proofs.Math.Bool.{Bool}
use Rattle.laws.specs.Cond.{if_so, if_not}
use Rattle.laws.specs.Every.{never, both}
use Rattle.kinds.specs.LaneLaws.{by_lane}
use Rattle.kinds.specs.Event.{well_formed}
use Rattle.kinds.specs.EventLaws.{no_kind}
use Rattle.kinds.specs.Lanes.{xyL, endsL, zL, mL, tL, tmL, Lent}
use Rattle.kinds.specs.declared.event.Event.{Event}
use Rattle.event_log.specs.LogLaws.{HeardOther, heard-event}
use Rattle.asking.specs.declared.ask.Ask.{Ask}
use Rattle.asking.specs.SetType.{Typed}
use Rattle.asking.specs.declared.typing.Typing.{Typing}
use Rattle.writing.specs.declared.state.State.{State}
use Rattle.pending.specs.Words.{used}
use Rattle.writing.specs.State.{records_used, wrote, Wrote}
use Rattle.asking.specs.Ask.{no_words, end_if, ask, OnlyEnds, Added}
use Rattle.pending.specs.Room.{room_in, has_room, Fits, room_in_lem, and_true, room_tested, room_apart}
use Rattle.writing.specs.Calls.{is_ready, records_for, state_after, decide_typed, if_due, decide_event}
use Rattle.writing.specs.Feature.{belongs}
use Rattle.writing.specs.Due.{out_of_turn, of_another, when-due, is-due, due-number}
use Rattle.writing.specs.Apart.{used-before}

-- room for what a begin or an end adds: a part's record, and an end
abbrev pub other_room : State → Ask → ℕ → ℕ → Bool
other_room s a records ends = room_in (records_for s a) records 4096 && room_in (used s.pending.ends + cond a.added.ends 1 0) ends 65536

-- the answer to a begin or an end, where it is known whether the writer is ready
unfoldable pub decide_other : State → ℕ → Ask → Bool → ℕ → ℕ → Wrote
decide_other s n a ready records ends = if_due s n (decide_typed s n a (ready && other_room s a records ends) a.typed)

-- ---- its kind is below 64, where pairs begin
pub other-below : {bytes : List ℕ} (e : Event) → HeardOther bytes e → e.kind < 64
unfolding well_formed
other-below {bytes} e h = by-test (leb 64 e.kind) refl
  where
    by-test : (b : Bool) → leb 64 e.kind ≡ b → e.kind < 64
    by-test false is = leb-false 64 e.kind is
    by-test true is =
        let none = no_kind e.kind (leb-true 64 e.kind is) h.not_xy h.not-coordinate in
        absurd (never (rw none at (heard-event bytes e h.is).formed))

-- ---- what its test of room tells
module _ (s : State) (a : Ask) (records ends : ℕ) (room : other_room s a records ends ≡ true) where
  tests : (room_in (records_for s a) records 4096 ≡ true) × (room_in (used s.pending.ends + cond a.added.ends 1 0) ends 65536 ≡ true)
  tests = both (room_in (records_for s a) records 4096) _ room

  pub other-end : used s.pending.ends + cond a.added.ends 1 0 ≤ ends
  other-end = (room_in_lem _ _ _ tests.1).0

  pub other_part : a.part ≡ true → (s.parts + 2 ≤ records) × (s.parts + 2 ≤ 4096)
  other_part h =
      let t = room_in_lem (records_for s a) records 4096 tests.0 in
      let is = ap (λ (b : Bool). cond b (s.parts + 2) (records_used s)) h in
      (omega (arith, t.0, is), omega (arith, t.1, is))

  pub other_fits : OnlyEnds a → Fits s.pending no_words → Fits s.pending a.added
  other_fits only fits = subst (λ (added : Added). Fits s.pending added) (sym only) (by_lane _ (fits xyL) ((room_in_lem _ _ _ tests.1).1) (fits zL) (fits mL) (fits tL) (fits tmL))

-- ---- its answer: out of its turn, of another feature, types mixed, done, no room
module _ (s : State) (n : ℕ) (a : Ask) (ready : Bool) (records ends : ℕ) where
  pub other-waits : s.waiting ≡ true → wrote 15 s ≡ decide_other s n a ready records ends
  unfolding decide_other
  other-waits waits = out_of_turn s n _ waits

  pub other_differs : s.waiting ≡ false → belongs s.feature n ≡ false → wrote 17 s ≡ decide_other s n a ready records ends
  unfolding decide_other
  other_differs turn differs = of_another s n _ turn differs

  module _ (turn : s.waiting ≡ false) (own : belongs s.feature n ≡ true) where
    by-typed : {r : Wrote} (t : Typed) → a.typed ≡ t → r ≡ decide_typed s n a (ready && other_room s a records ends) t → r ≡ decide_other s n a ready records ends
    unfolding decide_other
    by-typed t e h = h ∙ ap (decide_typed s n a (ready && other_room s a records ends)) (sym e) ∙ when-due s n _ (record { turn = turn; own = own })

    pub other-mixed : a.typed ≡ None → wrote 5 s ≡ decide_other s n a ready records ends
    other-mixed e = by-typed None e refl

    pub other-done : {after : State} (h : Typing) → a.typed ≡ Some h → (ready && other_room s a records ends) ≡ true → after ≡ state_after s n a h → wrote 0 after ≡ decide_other s n a ready records ends
    other-done h e room is = by-typed (Some h) e (if_so _ room (ap (wrote 0) is))

    pub other_full : (h : Typing) → a.typed ≡ Some h → (ready && other_room s a records ends) ≡ false → wrote 12 s ≡ decide_other s n a ready records ends
    other_full h e full = by-typed (Some h) e (if_not _ full refl)

-- where a begin or an end is accepted, the writer was ready and there was room
pub other_accepted : (s : State) (n : ℕ) (a : Ask) (ready : Bool) (records ends : ℕ) → (decide_other s n a ready records ends).number ≡ 0 → (ready ≡ true) × (other_room s a records ends ≡ true)
unfolding decide_other
other_accepted s n a ready records ends ok = by_case (ready && other_room s a records ends) a.typed refl (due-number s n _ ok)
  where
    by_case : (room : Bool) (t : Typed) → (ready && other_room s a records ends) ≡ room → (decide_typed s n a room t).number ≡ 0 → (ready ≡ true) × (other_room s a records ends ≡ true)
    by_case room None is ok = absurd (omega (arith, ok))
    by_case false (Some h) is ok = absurd (omega (arith, ok))
    by_case true (Some h) is ok = both ready (other_room s a records ends) is

-- and its feature is in hand then
pub after-held : (s : State) (n : ℕ) (a : Ask) (h : Typing) → (state_after s n a h).feature ≡ Some n
unfolding state_after
after-held s n a h = by_part a.part
  where
    by_part : (part : Bool) → (state_after s n (ask a.typed a.added part) h).feature ≡ Some n
    by_part true = refl
    by_part false = refl

pub other-held : (s : State) (n : ℕ) (a : Ask) (ready : Bool) (records ends : ℕ) → (decide_other s n a ready records ends).number ≡ 0 → (decide_other s n a ready records ends).state.feature ≡ Some n
unfolding decide_other
other-held s n a ready records ends ok = ap (λ (w : Wrote). w.state.feature) (is-due s n _ ok) ∙ by_case (ready && other_room s a records ends) a.typed (due-number s n _ ok)
  where
    by_case : (room : Bool) (t : Typed) → (decide_typed s n a room t).number ≡ 0 → (decide_typed s n a room t).state.feature ≡ Some n
    by_case room None ok = absurd (omega (arith, ok))
    by_case false (Some h) ok = absurd (omega (arith, ok))
    by_case true (Some h) ok = after-held s n a h

-- ---- the test of room is that of readiness and its own
module _ (s : State) (typed : Typed) (end part : Bool) (records : ℕ) (pools : Lent) where
  room-is : has_room s.pending (end_if end) (cond part (s.parts + 2) (records_used s)) records pools
      ≡ (has_room s.pending no_words (records_used s) records pools && other_room s (ask typed (end_if end) part) records pools.ends)
  room-is =
      room_apart s.pending (end_if end) (records_used s) (cond part (s.parts + 2) (records_used s)) records pools _ (used-before s part)
      (λ r. and_true (room_tested r.table r.records_fit) (room_tested (r.words endsL) (r.fits endsL)))
      (λ r t.
      let u = both (room_in (cond part (s.parts + 2) (records_used s)) records 4096) _ t in
      let table = room_in_lem _ _ _ u.0 in
      let ends = room_in_lem _ _ _ u.1 in
      record {
        table = table.0;
        records_fit = table.1;
        words = by_lane _ (r.words xyL) ends.0 (r.words zL) (r.words mL) (r.words tL) (r.words tmL);
        fits = by_lane _ (r.fits xyL) ends.1 (r.fits zL) (r.fits mL) (r.fits tL) (r.fits tmL);
      })

  pub other_decides : (n : ℕ) (ready : Bool) → is_ready s records pools ≡ ready → decide_other s n (ask typed (end_if end) part) ready records pools.ends ≡ decide_event s n (ask typed (end_if end) part) records pools
  unfolding decide_other decide_event if_due
  other_decides n ready tells = by_turn s.waiting tells
    where
      own : Bool
      own = belongs s.feature n

      by_turn : (waiting : Bool) → (not waiting && has_room s.pending no_words (records_used s) records pools) ≡ ready
          → cond waiting (wrote 15 s) (cond own (decide_typed s n (ask typed (end_if end) part) (ready && other_room s (ask typed (end_if end) part) records pools.ends) typed) (wrote 17 s))
          ≡ cond waiting (wrote 15 s) (cond own (decide_typed s n (ask typed (end_if end) part) (has_room s.pending (end_if end) (cond part (s.parts + 2) (records_used s)) records pools) typed) (wrote 17 s))
      by_turn true tells = refl
      by_turn false tells =
          ap (λ (room : Bool). cond own (decide_typed s n (ask typed (end_if end) part) room typed) (wrote 17 s))
          (ap (λ (ready : Bool). ready && other_room s (ask typed (end_if end) part) records pools.ends) (sym tells) ∙ sym room-is)
