use mathlib.Core.Bool.{not}
use mathlib.Core.Path.{ap, subst}
use Prim.Native.Nat.{ℕ}
use Rattle.std.specs.Prelude.{None}
use native.Mathlib.Omega.{arith}
use borrow.Author.Tests.{not-false}
use Rattle.nesting.specs.Taking.{OfNumber}
use Rattle.nesting.proofs.FlatReads.{reads_pair, reads_strange}
use Rattle.wkb_events.proofs.told.sorted.Goals as goal

pub returns-then-e-eq-XY : goal.returns-then-e-eq-XY
returns-then-e-eq-XY c =
    let e = c.args.e in
    (not-false c.args.own (ap not c.if-not-own.false), record { x = e.x; y = e.y; x_fits = omega arith; y_fits = omega arith; reads = reads_pair e c.if-e-eq-XY.true })

pub returns : goal.returns
returns c =
    λ own.
    reads_strange c.args.e c.in_default.ensures (subst (λ (n : ℕ). OfNumber n None) c.saturating_sub.ensures c.in_default-of.ensures) c.if-e-eq-XY.false
