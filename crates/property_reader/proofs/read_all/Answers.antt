use mathlib.Core.Path.{◌≡◌, refl, sym, ap, ◌∙◌}
use native.Mathlib.Omega.{arith}
use Prim.Native.Nat.{ℕ}
use Rattle.std.specs.Prelude.{Option, Some, None}
use Rattle.std.proofs.lemmas.Result.{err_from_is_err_and}
use Rattle.kinds.specs.declared.value.Value.{Value}
use Rattle.property_reader.specs.declared.item.Property.{Property}
use Rattle.property_reader.specs.Reading.{Item, End, Skipped, Found, property_as, end_or}
use Rattle.property_reader.specs.ReadingSteps.{begun, leads, at-end, at_refusal, at_skipped, at_full_log, at_last_said, at_next_said}
use Rattle.property_reader.proofs.read_all.Goals as goal

-- the item, from the property that is answered, and from its value
ends : (o : Option Property) (i : Item) → ((p : Property) → o ≡ Some p → ⊥) → end_or o ≡ i → End ≡ i
ends None i none e = e
ends (Some p) i none e = absurd (none p refl)

stands : (o : Option Property) (p : Property) (i : Item) → o ≡ Some p → end_or o ≡ i → property_as p.value p.next ≡ i
stands o p i is e = ap end_or (sym is) ∙ e

skips : (o : Option Value) (next : ℕ) (i : Item) → ((v : Value) → o ≡ Some v → ⊥) → property_as o next ≡ i → Skipped next ≡ i
skips None next i none e = e
skips (Some v) next i none e = absurd (none v refl)

finds : (o : Option Value) (v : Value) (next : ℕ) (i : Item) → o ≡ Some v → property_as o next ≡ i → Found v next ≡ i
finds o v next i is e = ap (λ (x : Option Value). property_as x next) (sym is) ∙ e

pub loop-property-init : goal.loop-property-init
loop-property-init c =
    let a = c.args in
    begun a.bytes.now a.columns.now a.stop a.log.now

pub property_at-requires : goal.property_at-requires
property_at-requires c = c.loop-property.invariant.inside

pub returns-in_err-property : goal.returns-in_err-property
returns-in_err-property c =
    let gone = err_from_is_err_and c.from_residual.result c.from_residual.ensures.1 in
    rw (gone.1, gone.2) (at_refusal c.loop-property.invariant c.in_err-property.field-0.0 c.in_err-property.ensures)

pub returns-in_err-say : goal.returns-in_err-say
returns-in_err-say c =
    let gone = err_from_is_err_and c.from_residual-in_err-say.result c.from_residual-in_err-say.ensures.1 in
    let item = finds _ c.in-Some-value.value _ _ c.in-Some-value.is (stands _ c.in-Some.property _ c.in-Some.is c.in_ok-property.ensures) in
    rw (gone.1, gone.2) (at_full_log c.loop-property.invariant c.in-Some-value.value _ item c.in_err-say.ensures)

pub returns-then-value-stop : goal.returns-then-value-stop
returns-then-value-stop c =
    let item = finds _ c.in-Some-value.value _ _ c.in-Some-value.is (stands _ c.in-Some.property _ c.in-Some.is c.in_ok-property.ensures) in
    at_last_said c.loop-property.invariant c.in-Some-value.value _ item c.in_ok-say.ensures c.if-value-stop.true

pub loop-property-smaller-else-value-stop : goal.loop-property-smaller-else-value-stop
loop-property-smaller-else-value-stop c =
    let next = leads c.loop-property.invariant c.in-Some.property.value c.in-Some.property.next (stands _ c.in-Some.property _ c.in-Some.is c.in_ok-property.ensures) in
    omega (arith, next.0, next.1)

pub loop-property-preserved-else-value-stop : goal.loop-property-preserved-else-value-stop
loop-property-preserved-else-value-stop c =
    let item = finds _ c.in-Some-value.value _ _ c.in-Some-value.is (stands _ c.in-Some.property _ c.in-Some.is c.in_ok-property.ensures) in
    at_next_said c.loop-property.invariant c.in-Some-value.value _ item c.in_ok-say.ensures c.if-value-stop.false

pub loop-property-smaller : goal.loop-property-smaller
loop-property-smaller c =
    let next = leads c.loop-property.invariant c.in-Some.property.value c.in-Some.property.next (stands _ c.in-Some.property _ c.in-Some.is c.in_ok-property.ensures) in
    omega (arith, next.0, next.1)

pub loop-property-preserved : goal.loop-property-preserved
loop-property-preserved c =
    let item = skips _ _ _ c.in_default-value.not-Some (stands _ c.in-Some.property _ c.in-Some.is c.in_ok-property.ensures) in
    at_skipped c.loop-property.invariant _ item

pub returns : goal.returns
returns c = at-end c.loop-property.invariant (ends _ _ c.in_default.not-Some c.in_ok-property.ensures)
