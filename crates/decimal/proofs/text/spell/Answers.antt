use mathlib.Core.Path.{◌≡◌, ap, ◌∙◌}
use mathlib.Core.List.{List, ◌∷◌}
use Prim.Native.Nat.{ℕ, ◌-◌}
use native.Mathlib.Omega.{arith}
use lib.ListN.{length, length-set}
use borrow.Author.Rules.{rules}
use Rattle.laws.specs.Cond.{if_so, if_not}
use Rattle.decimal.specs.TextLaws.{laid_out, put-before}
use Rattle.decimal.proofs.text.spell.Goals as goal

pub returns-then-negative : goal.returns-then-negative
returns-then-negative c =
    let count = c.places-before in
    let text = c.lay-2.new.text in
    let sized : length text ≡ 29 = search rules in (
      omega (arith, count.ensures.1),
      length-set text (21 - count.result - 1) 45 ∙ sized,
      record {
        places = count.result;
        fewest = count.ensures.0;
        reads =
            if_so _ c.if-negative.true
            (put-before text (21 - count.result) 45 (omega (arith, count.ensures.1)) (omega arith)
            ∙ ap (λ (x : List ℕ). 45 ∷ x)
            (laid_out count.result c.args.d.whole c.args.d.fraction c.args.text.now c.lay.new.text text count.ensures.1 (search rules) (search rules) c.lay.ensures c.lay-2.ensures));
      },
    )

pub returns : goal.returns
returns c =
    let count = c.places-before in (
      omega (arith, count.ensures.1),
      search rules,
      record {
        places = count.result;
        fewest = count.ensures.0;
        reads =
            if_not _ c.if-negative.false
            (laid_out count.result c.args.d.whole c.args.d.fraction c.args.text.now c.lay.new.text c.lay-2.new.text count.ensures.1 (search rules) (search rules) c.lay.ensures c.lay-2.ensures);
      },
    )
