use mathlib.Core.Path.{◌≡◌, sym, ap, ◌∙◌}
use mathlib.Core.Bool.{Bool, ◌&&◌}
use mathlib.Core.List.{List, []}
use Prim.Native.Nat.{ℕ, ◌+◌, ◌*◌, ◌-◌, ◌/◌, ◌<◌}
use native.Mathlib.Omega.{arith}
use lib.ListN.{length, take, drop}
use lib.Dec.{eqb}
use borrow.Author.Rules.{rules}
use borrow.Author.Tests.{ne_eqb}
use Rattle.kinds.specs.Event.{told_apart}
use Rattle.kinds.specs.declared.event.Heard.{Heard}
use Rattle.kinds.specs.Lanes.{Lent}
use Rattle.event_log.specs.Log.{heard, feature_in, record_of}
use Rattle.event_log.specs.LogLaws.{Behind, behind}
use Rattle.asking.specs.Ask.{Added}
use Rattle.pending.specs.Words.{Pending}
use Rattle.pending.specs.Growth.{grown_values}
use Rattle.writing.specs.Other.{other-below}
use Rattle.runs.specs.Run.{Values, lent_with, values_now, values_room, lent_values, pair_room, pushed, Run, whole_record, pair-taken, pair_blocked, quiet_taken, quiet_blocked, coordinate-taken, coordinate_blocked, another_blocked}
use Rattle.runs.proofs.run.take_plain.Goals as goal

-- a turn's record is heard, under its number
number_is : (bytes : List ℕ) (taken n : ℕ) → n ≡ feature_in (take (64 * taken + 64 - 64 * taken) (drop (64 * taken) bytes)) → n ≡ feature_in (record_of bytes taken)
number_is bytes taken n e = e ∙ ap feature_in (whole_record bytes taken)

told_as : (bytes : List ℕ) (taken : ℕ) (r h : Heard) → r ≡ told_apart (heard (take (64 * taken + 64 - 64 * taken) (drop (64 * taken) bytes))) → r ≡ h → Behind (record_of bytes taken) h
told_as bytes taken r h e is = behind (record_of bytes taken) h (sym (e ∙ ap (λ (l : List ℕ). told_apart (heard l)) (whole_record bytes taken)) ∙ is)

-- the tests of room, of what was lent when the run began: no list changes its length
module _ {bytes : List ℕ} {ready : Bool} {held from : ℕ} {p : Pending} {v : Values} {taken : ℕ} {p' : Pending} {v' : Values} (so_far : Run bytes ready held from p v taken p' v') {lent : Lent} (lent_is : lent ≡ lent_with [] v) (due : Bool) {room told : Bool} where
  pair_told : room ≡ pair_room p' lent.xy → (due && room) ≡ told → (due && pair_room p' (length v'.xy)) ≡ told
  pair_told is e = ap (λ (b : Bool). due && b) (sym (is ∙ ap (pair_room p') (ap (λ (l : Lent). l.xy) lent_is ∙ sym so_far.long_xy))) ∙ e

  values_told : {a a' : Added} → room ≡ values_room p' a lent.xy lent.z lent.m lent.t lent.tm → a ≡ a' → (due && room) ≡ told → (due && lent_values v' p' a') ≡ told
  values_told {a} {a'} is asked e =
      ap (λ (b : Bool). due && b)
      (sym (is
      ∙ (λ i. values_room p' (asked i) (lent_is i).xy (lent_is i).z (lent_is i).m (lent_is i).t (lent_is i).tm)
      ∙ sym (λ i. values_room p' a' (so_far.long_xy i) (so_far.long_z i) (so_far.long_m i) (so_far.long_t i) (so_far.long_tm i))))
      ∙ e

pub returns-then-not-due-lane_room-clause-ran : goal.returns-then-not-due-lane_room-clause-ran
returns-then-not-due-lane_room-clause-ran c =
    let run = c.loop-taken.invariant.0 in
    let more : c.loop-taken.taken < length c.args.bytes.now / 64 = omega arith in
    record {
      run = run;
      stop = pair_blocked run more (number_is c.args.bytes.now c.loop-taken.taken _ c.feature_in.ensures) (told_as c.args.bytes.now c.loop-taken.taken _ _ c.hear.ensures c.in-Pair.is)
          (pair_told run c.lent-lent.ensures _ c.lane_room.ensures c.if-not-due-lane_room.true);
    }

pub loop-taken-preserved-in-Pair : goal.loop-taken-preserved-in-Pair
loop-taken-preserved-in-Pair c =
    let run = c.loop-taken.invariant.0 in
    let more : c.loop-taken.taken < length c.args.bytes.now / 64 = omega arith in (
      pair-taken run more (number_is c.args.bytes.now c.loop-taken.taken _ c.feature_in.ensures) (told_as c.args.bytes.now c.loop-taken.taken _ _ c.hear.ensures c.in-Pair.is)
          (pair_told run c.lent-lent.ensures _ c.lane_room.ensures c.if-not-due-lane_room.false) c.push_pair.ensures,
      search rules,
    )

pub returns-then-not-due-values_room-clause-ran : goal.returns-then-not-due-values_room-clause-ran
returns-then-not-due-values_room-clause-ran c =
    let run = c.loop-taken.invariant.0 in
    let more : c.loop-taken.taken < length c.args.bytes.now / 64 = omega arith in
    record {
      run = run;
      stop = coordinate_blocked run more (number_is c.args.bytes.now c.loop-taken.taken _ c.feature_in.ensures) c.in-Coordinate.e (told_as c.args.bytes.now c.loop-taken.taken _ _ c.hear.ensures c.in-Coordinate.is)
          (values_told run c.lent-lent.ensures _ c.values_room.ensures c.pair_with-added.ensures c.if-not-due-values_room.true);
    }

pub loop-taken-preserved-in-Coordinate : goal.loop-taken-preserved-in-Coordinate
loop-taken-preserved-in-Coordinate c =
    let run = c.loop-taken.invariant.0 in
    let asked = c.pair_with-added.ensures in
    let push = c.push_values-pending.ensures in
    let more : c.loop-taken.taken < length c.args.bytes.now / 64 = omega arith in (
      coordinate-taken run more (number_is c.args.bytes.now c.loop-taken.taken _ c.feature_in.ensures) c.in-Coordinate.e (told_as c.args.bytes.now c.loop-taken.taken _ _ c.hear.ensures c.in-Coordinate.is)
          (values_told run c.lent-lent.ensures _ c.values_room.ensures asked c.if-not-due-values_room.false)
          (push.pending ∙ ap (grown_values c.loop-taken.pending) asked)
          (push.values ∙ ap (λ (a : Added). pushed (values_now c.loop-taken.values) c.loop-taken.pending a c.in-Coordinate.e) asked),
      search rules,
    )

pub returns-then-not-due-clause-ran : goal.returns-then-not-due-clause-ran
returns-then-not-due-clause-ran c =
    let more : c.loop-taken.taken < length c.args.bytes.now / 64 = omega arith in
    record { run = c.loop-taken.invariant.0; stop = quiet_blocked c.loop-taken.invariant.0 more (number_is c.args.bytes.now c.loop-taken.taken _ c.feature_in.ensures) (told_as c.args.bytes.now c.loop-taken.taken _ _ c.hear.ensures c.in-Quiet.is) c.if-not-due.true }

pub loop-taken-preserved : goal.loop-taken-preserved
loop-taken-preserved c =
    let more : c.loop-taken.taken < length c.args.bytes.now / 64 = omega arith in
    (quiet_taken c.loop-taken.invariant.0 more (number_is c.args.bytes.now c.loop-taken.taken _ c.feature_in.ensures) (told_as c.args.bytes.now c.loop-taken.taken _ _ c.hear.ensures c.in-Quiet.is) c.if-not-due.false, c.loop-taken.invariant.1)

pub returns-in-Other-clause-ran : goal.returns-in-Other-clause-ran
returns-in-Other-clause-ran c =
    let more : c.loop-taken.taken < length c.args.bytes.now / 64 = omega arith in
    let other = told_as c.args.bytes.now c.loop-taken.taken _ _ c.hear.ensures c.in-Other.is in
    record { run = c.loop-taken.invariant.0; stop = (more, other.is, other-below c.in-Other.e other, sym c.if-not-own.false ∙ number_is c.args.bytes.now c.loop-taken.taken _ c.feature_in.ensures) }

pub returns-then-not-own-clause-ran : goal.returns-then-not-own-clause-ran
returns-then-not-own-clause-ran c =
    let more : c.loop-taken.taken < length c.args.bytes.now / 64 = omega arith in
    record { run = c.loop-taken.invariant.0; stop = another_blocked c.loop-taken.invariant.0 more (number_is c.args.bytes.now c.loop-taken.taken _ c.feature_in.ensures) _ (told_as c.args.bytes.now c.loop-taken.taken _ _ c.hear.ensures c.in-Other.is).is (ne_eqb _ _ c.if-not-own.true) }
