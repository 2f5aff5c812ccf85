use Rattle.std.proofs.Common.{rules, arith, ℕ, ◌≡◌, refl, sym, ◌∙◌, Bool, true, false, cond}
use Rattle.kinds.specs.Refusal.{answer_of}
use Rattle.pending.specs.Room.{room_of_lem}
use Rattle.writing.proofs.decide.decide_finish.Goals as goal

had_room : (turn room : Bool) → ◌≡◌ {A = ℕ} (cond turn (cond room 0 12) 15) 0 → room ≡ true
had_room true true h = refl
had_room true false h = absurd (omega (arith, h))
had_room false room h = absurd (omega (arith, h))

pub finished-requires : goal.finished-requires
finished-requires c =
    let fits : answer_of c.root_fits.result ≡ 0 = search rules in
    (room_of_lem _ _ _ _ _ (had_room _ _ (sym c.root_fits.ensures ∙ fits))).fits
