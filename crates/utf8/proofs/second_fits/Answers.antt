use native.Mathlib.Omega.{arith}
use Rattle.utf8.specs.Utf8.{row_of, second}
use Rattle.utf8.specs.Laws.{second-wide}
use Rattle.utf8.proofs.second_fits.Goals as goal

pub returns-in-224 : goal.returns-in-224
returns-in-224 c = unfold row_of second in rw c.in-224.is c.in_range.ensures

pub returns-in-237 : goal.returns-in-237
returns-in-237 c = unfold row_of second in rw c.in-237.is c.in_range-in-237.ensures

pub returns-in-240 : goal.returns-in-240
returns-in-240 c = unfold row_of second in rw c.in-240.is c.in_range-in-240.ensures

pub returns-in-244 : goal.returns-in-244
returns-in-244 c = unfold row_of second in rw c.in-244.is c.in_range-in-244.ensures

pub returns-in_default : goal.returns-in_default
returns-in_default c =
    let other = c.in_default.in_default-own.rest in
    rw (second-wide c.args.lead (omega arith) other.0.0.0.1 other.0.0.1 other.0.1 other.1) c.is_tail.ensures
