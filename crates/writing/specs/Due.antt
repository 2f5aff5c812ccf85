-- An event that is due: it is the writer's turn, and the event is of the feature in hand. Any other is refused, with 15 or 17, whatever it asks for.
use Rattle.std.specs.Prelude.{◌≡◌, Bool, cond, ℕ}
use Rattle.std.proofs.Math.Path.{refl}
use Rattle.std.proofs.Common.{sym, ap, ◌∙◌, arith}
use Rattle.std.proofs.Math.Bool.{true, false}
use Rattle.laws.specs.Cond.{if_so, if_not}
use Rattle.writing.specs.declared.state.State.{State}
use Rattle.writing.specs.State.{wrote, Wrote}
use Rattle.writing.specs.Feature.{belongs}
use Rattle.writing.specs.Calls.{if_due}

pub record Due (s : State) (n : ℕ) : Type 0 where
  pub turn : s.waiting ≡ false
  pub own : belongs s.feature n ≡ true

module _ (s : State) (n : ℕ) (r : Wrote) where
  -- ---- what it comes to
  pub out_of_turn : s.waiting ≡ true → wrote 15 s ≡ if_due s n r
  unfolding if_due
  out_of_turn waits = if_so _ waits refl

  pub of_another : s.waiting ≡ false → belongs s.feature n ≡ false → wrote 17 s ≡ if_due s n r
  unfolding if_due
  of_another turn differs = if_not _ turn (if_not _ differs refl)

  pub when-due : Due s n → r ≡ if_due s n r
  unfolding if_due
  when-due due = if_not _ due.turn (if_so _ due.own refl)

  -- what holds of each answer holds of the one that is given
  pub each-due : (P : Wrote → Type 0) → P (wrote 15 s) → P (wrote 17 s) → P r → P (if_due s n r)
  unfolding if_due
  each-due P late other in_time = by_tests s.waiting (belongs s.feature n)
    where
      by_tests : (waiting own : Bool) → P (cond waiting (wrote 15 s) (cond own r (wrote 17 s)))
      by_tests true own = late
      by_tests false true = in_time
      by_tests false false = other

  -- ---- one that is accepted was due
  module _ (ok : (if_due s n r).number ≡ 0) where
    pub was_due : Due s n
    unfolding if_due
    was_due = by_tests s.waiting (belongs s.feature n) refl refl ok
      where
        by_tests : (waiting own : Bool) → s.waiting ≡ waiting → belongs s.feature n ≡ own → (cond waiting (wrote 15 s) (cond own r (wrote 17 s))).number ≡ 0 → Due s n
        by_tests true own turn is ok = absurd (omega arith)
        by_tests false true turn is ok = record { turn = turn; own = is }
        by_tests false false turn is ok = absurd (omega arith)

    pub is-due : if_due s n r ≡ r
    is-due = sym (when-due was_due)

    pub due-number : r.number ≡ 0
    due-number = ap (λ (w : Wrote). w.number) (sym is-due) ∙ ok
