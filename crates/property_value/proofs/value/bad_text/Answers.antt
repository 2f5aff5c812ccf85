use mathlib.Core.Path.{sym, ◌∙◌}
use native.Mathlib.Omega.{arith}
use Rattle.std.proofs.Common.{le-leb}
use Rattle.std.proofs.lemmas.Bool.{lt-leb}
use Rattle.property_value.specs.Column.{is_text}
use Rattle.property_value.specs.Value.{text_ok}
use Rattle.property_value.specs.ValueLaws.{checked}
use Rattle.property_value.proofs.value.bad_text.Goals as goal

pub returns-in_default : goal.returns-in_default
returns-in_default c =
    unfold text_ok is_text in
    let kind = c.args.kind in
    rw (le-leb 11 kind (omega (arith, c.in_default.ensures)), lt-leb kind 13 (omega (arith, c.in_default.ensures)))

pub returns-then-is_text : goal.returns-then-is_text
returns-then-is_text c =
    let a = c.args in
    checked a.kind a.text.now c.first_bad.result (rw c.in-Ok.ensures at (sym c.is_text.ensures ∙ c.if-is_text.true)) c.first_bad.ensures

pub returns-else-is_text : goal.returns-else-is_text
returns-else-is_text c = unfold text_ok in rw (← c.in-Ok.ensures, ← c.is_text.ensures, c.if-is_text.false)
