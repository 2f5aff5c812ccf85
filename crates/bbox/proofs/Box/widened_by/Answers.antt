use mathlib.Core.Path.{◌≡◌, refl, sym, ◌∙◌}
use Prim.Native.Nat.{◌+◌, ◌*◌, ◌/◌, ◌<◌, ◌≤◌}
use native.Mathlib.Omega.{arith}
use lib.ListN.{length}
use Rattle.bbox.specs.Pairs.{pair-taken, pairs-done, pair-cut}
use Rattle.bbox.proofs.Box.widened_by.Goals as goal

pub loop-x-init : goal.loop-x-init
loop-x-init c = refl

pub loop-x-preserved : goal.loop-x-preserved
loop-x-preserved c =
    let words = c.args.words.now in
    let i = c.loop-x.x-index in
    let inside : 2 * i + 1 < length words = omega (arith, c.as_chunks.ensures.front_len) in
    let cut = pair-cut words (length words / 2) i (omega arith) inside in
    let next : 2 * (i + 1) ≡ 2 * i + 2 = omega arith in
    rw (next, c.widened-around.ensures, c.as_chunks.ensures.front, cut.0, cut.1)
    (sym (pair-taken c.loop-x.around words (2 * i) inside) ∙ c.loop-x.invariant)

pub returns : goal.returns
returns c =
    let done : length c.args.words.now ≤ 2 * c.loop-x.x-index + 1 = omega (arith, c.as_chunks.ensures.front_len) in
    sym (pairs-done c.loop-x.around c.args.words.now (2 * c.loop-x.x-index) done) ∙ c.loop-x.invariant
