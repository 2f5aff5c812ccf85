use mathlib.Core.Path.{sym, ap, ◌∙◌}
use native.Mathlib.Omega.{arith}
use Rattle.asking.specs.Ask.{other_adds}
use Rattle.writing.specs.State.{Wrote, wrote_of}
use Rattle.writing.specs.Other.{other_accepted, other-end, other_part, other_fits}
use Rattle.frames.proofs.take_other.Goals as goal

pub decide_other-requires-clause-ends : goal.decide_other-requires-clause-ends
decide_other-requires-clause-ends c = rw c.ask_of-a.ensures (other_adds c.args.s.typing c.args.e c.requires.kind)

pub finish_part-requires : goal.finish_part-requires
finish_part-requires c =
    let asked = c.ask_of-a in
    let room = other_accepted _ _ _ _ _ _ (ap (λ (w : Wrote). w.number) (sym c.decide_other.ensures ∙ ap (wrote_of c.args.s) c.in_ok-after.was)) in
    record {
      room = λ h. omega (arith, (other_part c.args.s asked.result _ _ room.1 h).0, c.records_lent.ensures);
      fits = other_fits c.args.s asked.result _ _ room.1 (rw asked.ensures (other_adds c.args.s.typing c.args.e c.requires.kind)) (c.requires.fits room.0);
    }

pub push_word-requires : goal.push_word-requires
push_word-requires c = other-end c.args.s c.ask_of-a.result _ _ (other_accepted _ _ _ _ _ _ (ap (λ (w : Wrote). w.number) (sym c.decide_other.ensures ∙ ap (wrote_of c.args.s) c.in_ok-after.was))).1
