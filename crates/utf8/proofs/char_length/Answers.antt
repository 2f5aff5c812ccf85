use mathlib.Core.Bool.{not}
use mathlib.Core.Path.{ap}
use mathlib.Core.Path.{sym}
use mathlib.Core.Path.{refl}
use Prim.Native.Nat.{◌<◌}
use native.Mathlib.Omega.{arith}
use lib.ListN.{get_or}
use borrow.Author.Tests.{not-true, not-false}
use Rattle.utf8.specs.Laws.{length_most, char_brief, char_cut, char_long}
use Rattle.utf8.proofs.char_length.Goals as goal

pub returns-in_err-len : goal.returns-in_err-len
returns-in_err-len c =
    let a = c.args in
    rw c.from_residual.ensures (char_brief a.bytes.now a.at 0 (omega arith) (sym c.in_err-len.ensures) (omega arith))

pub returns-then-len-eq1 : goal.returns-then-len-eq1
returns-then-len-eq1 c =
    let a = c.args in
    let row = c.in_ok-len in
    let brief : row.len < 2 = omega arith in
    (sym (char_brief a.bytes.now a.at row.len (omega arith) row.ensures.0 brief), row.ensures.1)

pub returns-then-bytes-at : goal.returns-then-bytes-at
returns-then-bytes-at c =
    let a = c.args in
    let row = c.in_ok-len in
    char_cut a.bytes.now a.at row.len (omega arith) row.ensures.0 (omega arith)

pub returns-then-not-second_fits : goal.returns-then-not-second_fits
returns-then-not-second_fits c =
    let a = c.args in
    let row = c.in_ok-len in
    let next = c.second_fits in
    rw (
      char_long a.bytes.now a.at row.len (omega arith) row.ensures.0 (omega (arith, row.ensures.1)) (omega (arith, row.ensures.1)),
      ← next.ensures,
      not-true next.result (ap not c.if-not-second_fits.true),
    )

pub tails_fit-requires : goal.tails_fit-requires
tails_fit-requires c =
    let a = c.args in
    let row = c.in_ok-len in
    omega (arith, row.ensures.0, row.ensures.1, length_most (get_or a.bytes.now a.at 0))

pub returns-then-not-tails_fit : goal.returns-then-not-tails_fit
returns-then-not-tails_fit c =
    let a = c.args in
    let row = c.in_ok-len in
    let next = c.second_fits in
    let ends = c.tails_fit in
    rw (
      char_long a.bytes.now a.at row.len (omega arith) row.ensures.0 (omega (arith, row.ensures.1)) (omega (arith, row.ensures.1)),
      ← next.ensures,
      not-false next.result (ap not c.if-not-second_fits.false),
      ← ends.ensures,
      not-true ends.result (ap not c.if-not-tails_fit.true),
    )

pub returns : goal.returns
returns c =
    let a = c.args in
    let row = c.in_ok-len in
    let next = c.second_fits in
    let ends = c.tails_fit in
    rw (
      char_long a.bytes.now a.at row.len (omega arith) row.ensures.0 (omega (arith, row.ensures.1)) (omega (arith, row.ensures.1)),
      ← next.ensures,
      not-false next.result (ap not c.if-not-second_fits.false),
      ← ends.ensures,
      not-false ends.result (ap not c.if-not-tails_fit.false),
    ) (refl, row.ensures.1)
