use mathlib.Core.Path.{sym, ◌∙◌}
use native.Mathlib.Omega.{arith}
use lib.ListN.{drop}
use Rattle.utf8.specs.Laws.{char_at_within, bad_here, bad_at_end, bad_at_next, ascii_at}
use Rattle.utf8.specs.Meaning.{bad_nowhere, bad_at}
use Rattle.utf8.proofs.first_bad.Goals as goal

pub loop-at-smaller-then-bytes-at-lt128 : goal.loop-at-smaller-then-bytes-at-lt128
loop-at-smaller-then-bytes-at-lt128 c = omega arith

pub loop-at-preserved-then-bytes-at-lt128 : goal.loop-at-preserved-then-bytes-at-lt128
loop-at-preserved-then-bytes-at-lt128 c =
    let s = c.args.bytes.now in
    let at = c.loop-at.at in
    (omega arith, sym (bad_at_next s at 1 (ascii_at s at (omega arith) c.if-bytes-at-lt128.true) (λ none. omega (arith, none))) ∙ c.loop-at.invariant.1)

pub returns-in-None : goal.returns-in-None
returns-in-None c =
    let s = c.args.bytes.now in
    let at = c.loop-at.at in
    let stops = bad_here (drop at s) c.in-None.ensures in
    bad_at s at (omega (arith, c.loop-at.invariant.1)) (omega arith)

pub overflow_add-at-in-Some : goal.overflow_add-at-in-Some
overflow_add-at-in-Some c = omega (arith, c.in-Some.ensures.0, char_at_within c.args.bytes.now c.loop-at.at)

pub loop-at-smaller : goal.loop-at-smaller
loop-at-smaller c = omega (arith, c.in-Some.ensures.0, c.in-Some.ensures.1, char_at_within c.args.bytes.now c.loop-at.at)

pub loop-at-preserved : goal.loop-at-preserved
loop-at-preserved c =
    let s = c.args.bytes.now in
    let at = c.loop-at.at in
    let char = c.in-Some.ensures in
    (omega (arith, char.0, char_at_within s at), sym (bad_at_next s at c.in-Some.len char.0 (λ none. omega (arith, none, char.1))) ∙ c.loop-at.invariant.1)

pub returns : goal.returns
returns c =
    let s = c.args.bytes.now in
    let ends = bad_at_end s c.loop-at.at c.loop-at-test.false in
    bad_nowhere s (omega (arith, c.loop-at.invariant.1))
