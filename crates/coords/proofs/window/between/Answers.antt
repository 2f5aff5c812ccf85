use Rattle.std.proofs.Common.{refl, ap, sym, ◌∙◌, arith}
use Rattle.kinds.specs.Refusal.{answer_of}
use Rattle.coords.specs.CoordLaws.{window_none, window_some}
use Rattle.coords.proofs.window.between.Goals.{then-cut, else-cut}
use Rattle.coords.proofs.window.between.Goals as goal

pub returns-in_default : goal.returns-in_default
returns-in_default c =
    let a = c.args in
    record {
      from_is = refl;
      within = λ most few. omega arith;
      says = λ many L. window_none many L a.from a.to c.in_default.is;
    }

pub returns : goal.returns
returns c =
    let a = c.args in
    record {
      from_is = refl;
      within = λ most few. let h = few c.in-Some.xy c.in-Some.is in omega arith;
      says = λ many L.
          window_some many L a.from a.to c.if-cut.result c.in-Some.is c.requires.0 c.min-start.ensures c.min-end.ensures
          (elim c.if-cut.branch [ then-cut w ↦ ap answer_of w.result-is ∙ sym (rw w.if-cut.true) | else-cut w ↦ ap answer_of w.result-is ∙ sym (rw w.if-cut.false) ]);
    }
