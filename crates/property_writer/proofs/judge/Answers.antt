use mathlib.Core.Path.{◌≡◌, refl}
use Rattle.std.specs.Prelude.{Bool, true, false, cond, List, ℕ, ◌+◌, ◌≤◌, ◌<◌, min}
use native.Mathlib.Omega.{arith}
use lib.Dec.{ltb}
use borrow.Author.Tests.{lt-ltb, le-ltb}
use Rattle.kinds.specs.declared.refusal.Refusal.TheVariants.{NotItsTurn, ColumnTooLarge, Malformed, NoRoom}
use Rattle.kinds.specs.ColumnType.{type_number}
use Rattle.property_value.specs.Value.{malformed, text_ok, placed}
use Rattle.property_value.specs.ValueLaws.{proper}
use Rattle.property_writer.specs.Writing.{refusal_of, property_length}
use Rattle.property_writer.specs.WritingLaws.{length_property, length_most}
use Rattle.property_writer.proofs.judge.Goals as goal

-- a type above 14 is malformed
no_type : (kind bits : ℕ) → 14 < kind → malformed kind bits ≡ true
unfolding malformed
no_type kind bits h = rw (lt-ltb 14 kind h)

-- where only the room is left to ask about
only_room : (waiting : Bool) (used column kind bits : ℕ) (text : List ℕ) (lent : ℕ) (bad : Bool) (size room : ℕ) → waiting ≡ false → column ≤ 65535 →
    bad ≡ malformed kind bits → bad ≡ false → text_ok kind text ≡ true → size ≡ property_length kind text → room ≡ min lent 65536 →
    refusal_of waiting used column kind bits text lent ≡ cond (ltb room (used + size)) 12 0
unfolding refusal_of
only_room waiting used column kind bits text lent bad size room turn index formed good spelt sized roomy =
    rw (
      turn,
      le-ltb 65535 column index,
      ← formed,
      good,
      spelt,
      length_property column kind bits text,
      ← sized,
      ← roomy,
    )

pub returns-then-waiting : goal.returns-then-waiting
returns-then-waiting c = unfold refusal_of placed in rw (c.if-waiting.true) (refl, refl, proper NotItsTurn (λ six. omega arith))

pub returns-then-property-gt65535 : goal.returns-then-property-gt65535
returns-then-property-gt65535 c = unfold refusal_of placed in rw (c.if-waiting.false, lt-ltb 65535 _ c.if-property-gt65535.true) (refl, refl, proper ColumnTooLarge (λ six. omega arith))

pub returns-in_default : goal.returns-in_default
returns-in_default c =
    unfold refusal_of placed in
    let a = c.args in
    rw (c.if-waiting.false, le-ltb 65535 _ c.if-property-gt65535.false, no_type a.property.kind a.property.bits c.in_default.ensures) (refl, refl, proper Malformed (λ six. omega arith))

pub returns-then-is_malformed : goal.returns-then-is_malformed
returns-then-is_malformed c =
    unfold refusal_of placed in
    rw (
      c.if-waiting.false,
      le-ltb 65535 _ c.if-property-gt65535.false,
      ← c.is_malformed.ensures,
      c.if-is_malformed.true,
    ) (refl, refl, proper Malformed (λ six. omega arith))

pub returns-in-Some : goal.returns-in-Some
returns-in-Some c =
    unfold refusal_of placed in
    rw (
      c.if-waiting.false,
      le-ltb 65535 _ c.if-property-gt65535.false,
      c.in-Some.ensures.0,
      ← c.is_malformed.ensures,
      c.if-is_malformed.false,
    ) (refl, c.in-Some.ensures.1, tt)

pub overflow_add-used : goal.overflow_add-used
overflow_add-used c =
    let a = c.args in
    omega (arith, c.property_length.ensures, c.in-Ok.ensures, length_most (type_number c.in-Ok.kind) a.property.text.now (omega (arith, c.in-Ok.ensures)))

pub returns-then-used-property_length : goal.returns-then-used-property_length
returns-then-used-property_length c =
    unfold placed in
    let a = c.args in
    let index : a.property.column ≤ 65535 = omega arith in
    let r : refusal_of a.waiting a.used a.property.column a.property.kind a.property.bits a.property.text.now a.lent
    ≡ cond (ltb c.usable_length.result (a.used + c.property_length.result)) 12 0 =
    only_room
    a.waiting a.used a.property.column _ a.property.bits a.property.text.now a.lent _ _ _
    c.if-waiting.false
    index
    c.is_malformed.ensures
    c.if-is_malformed.false
    c.in_default-bad_if_text.ensures
    (rw c.in-Ok.ensures at c.property_length.ensures)
    c.usable_length.ensures in
    rw (r, lt-ltb _ _ c.if-used-property_length.true) (refl, refl, proper NoRoom (λ six. omega arith))

pub returns : goal.returns
returns c =
    let a = c.args in
    let index : a.property.column ≤ 65535 = omega arith in
    let r : refusal_of a.waiting a.used a.property.column a.property.kind a.property.bits a.property.text.now a.lent
    ≡ cond (ltb c.usable_length.result (a.used + c.property_length.result)) 12 0 =
    only_room
    a.waiting a.used a.property.column _ a.property.bits a.property.text.now a.lent _ _ _
    c.if-waiting.false
    index
    c.is_malformed.ensures
    c.if-is_malformed.false
    c.in_default-bad_if_text.ensures
    (rw c.in-Ok.ensures at c.property_length.ensures)
    c.usable_length.ensures in
    (rw (r, le-ltb _ _ c.if-used-property_length.false), c.in-Ok.ensures)
