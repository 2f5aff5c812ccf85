use mathlib.Core.Path.{◌≡◌}
use Prim.Native.Nat.{◌+◌, ◌-◌}
use native.Mathlib.Omega.{arith}
use borrow.Author.Tests.{lt-ltb, le-ltb}
use Rattle.property_reader.specs.Reading.{bytes_at}
use Rattle.property_reader.proofs.item.bytes_at.Goals as goal

pub returns-then-bytes-start : goal.returns-then-bytes-start
returns-then-bytes-start c = unfold bytes_at in rw (lt-ltb _ _ c.if-bytes-start.true)

pub returns-in-Some : goal.returns-in-Some
returns-in-Some c =
    unfold bytes_at in
    let a = c.args in
    let same : a.start + a.len - a.start ≡ a.len = omega arith in
    let text = rw (same, c.number-kind.ensures) at c.in-Some.ensures in
    rw (le-ltb _ _ c.if-bytes-start.false, text.0, text.1)

pub returns : goal.returns
returns c =
    unfold bytes_at in
    let a = c.args in
    let same : a.start + a.len - a.start ≡ a.len = omega arith in
    rw (le-ltb _ _ c.if-bytes-start.false, rw (same, c.number-kind.ensures) at c.in_default.ensures, c.number-kind.ensures)
