-- Rows of calls there are: memory that is free between calls, refused calls, and two features of any two numbers with a pair left over from the first, which is carried into the second.
use Rattle.std.specs.Prelude.{◌≡◌, true, ℕ, ◌<◌}
use Rattle.std.proofs.Math.Path.{refl, ap, subst}
use Rattle.std.proofs.Common.{sym, ◌∙◌}
use Rattle.std.proofs.Math.Bool.{false}
use mathlib.Core.List.{[], ◌∷◌}
use Rattle.std.proofs.Math.Option.{none}
use Rattle.kinds.specs.Event.{begin_e, end_e, xy_e, well_formed}
use Rattle.store.specs.Lists.{lent_of, record_with}
use Rattle.store.specs.Records.{records_lent}
use Rattle.writing.specs.declared.state.State.{State}
use Rattle.asking.specs.SetType.{set_type, collected}
use Rattle.writing.specs.Calls.{started, state_after, if_due, decide_event, finished, decide_finish, renewed, decide_next}
use Rattle.asking.specs.Ask.{ask_of, begun}
use Rattle.pending.specs.Room.{has_room}
use Rattle.pending.specs.Growth.{grown_all, past_all}
use Rattle.writer_model.specs.Writer.{fresh, longer, part_of, finish_part, coordinate, after, after_all, finish, next}
use Rattle.writer_model.specs.Bench.{rec, root}
use Rattle.writer_model.specs.Lengths.{SameLengths}
use Rattle.writer_model.specs.Rows.{Reached, start}
use Rattle.writer_model.proofs.Rows.{row_lists}
use Rattle.writer_model.specs.Tree.{Holds}
use Rattle.writer_model.specs.Fed.{fed_to}
use Rattle.writer_model.specs.Feature.{finishes_in, finished_mem, finishes-same, whole_same, next-reached, next_lengths}
use Rattle.writer_model.proofs.Feature.{tree-left}
use Rattle.writer_model.specs.AnyNumber.{finishes-any, goes_any, renewed-any}
use Rattle.writer_model.specs.Example.{first, second, carried, blank, begin, again, over, carrying}

-- under number 0 these are computed
taken_once : finishes_in begin 0 blank first ≡ true
unfolding started ask_of begun set_type collected has_room grown_all past_all state_after decide_event if_due decide_finish well_formed begin_e end_e xy_e
taken_once = refl

goes_once : (decide_next (finished (fed_to begin 0 blank first)) (records_lent blank.table) (lent_of blank.pools)).number ≡ 0
unfolding started ask_of begun set_type collected has_room grown_all past_all state_after decide_event if_due finished decide_next begin_e end_e xy_e
goes_once = refl

again_once : finishes_in (again 0) 0 blank second ≡ true
unfolding started ask_of begun set_type collected has_room grown_all past_all state_after decide_event if_due finished decide_finish renewed well_formed begin_e end_e xy_e
again_once = refl

module _ (n : ℕ) where
  pub all-taken : finishes_in begin n blank first ≡ true
  unfolding started
  all-taken = finishes-any begin n 0 refl blank first ∙ taken_once

  pub goes_on : (decide_next (finished (fed_to begin n blank first)) (records_lent blank.table) (lent_of blank.pools)).number ≡ 0
  unfolding started
  goes_on = goes_any begin n 0 refl blank first ∙ goes_once

  -- next lets the number go: the state has nothing of it
  pub again-is : again n ≡ again 0
  unfolding started
  again-is = renewed-any begin n 0 refl blank first

  module _ (fits : n < 4294967296) where
    lengths : SameLengths blank (over n)
    lengths = next_lengths begin n blank (fresh 7 false false) [] first fits all-taken (start 7 false false blank) goes_on

    -- the pair that is left over is all that is carried in
    pub first-over : Reached (again n) (over n) carrying (3 ∷ 4 ∷ [])
    unfolding fresh after_all after begun set_type collected coordinate finish_part part_of longer finish next begin_e end_e xy_e
    first-over =
        let r = next-reached begin n blank (fresh 7 false false) [] first fits all-taken (start 7 false false blank) goes_on in
        subst (Reached (again n) (over n) carrying) (sym (row_lists r)) r

    module _ (m : ℕ) where
      pub again-taken : finishes_in (again n) m (over n) second ≡ true
      unfolding renewed
      again-taken = finishes-same (again n) m second blank (over n) lengths (finishes-any (again n) m 0 refl blank second ∙ ap (λ (s : State). finishes_in s 0 blank second) again-is ∙ again_once)

      pub second-read : m < 4294967296 → Holds (record_with (finished_mem (again n) m (over n) second).table (finished_mem (again n) m (over n) second).pools) 0 (root 1 1 ∷ rec 1 (3 ∷ 4 ∷ 5 ∷ 6 ∷ []) none ∷ [])
      second-read small =
          subst (Holds (record_with (finished_mem (again n) m (over n) second).table (finished_mem (again n) m (over n) second).pools) 0) carried
          (tree-left (again n) m (over n) carrying (3 ∷ 4 ∷ []) second small again-taken first-over (whole_same blank (over n) lengths refl))
