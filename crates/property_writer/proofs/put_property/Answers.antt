use Rattle.std.specs.Prelude.{◌≡◌, ◌+◌, ◌≤◌, ℕ, List, Bool, length}
use Rattle.std.proofs.Common.{arith}
use Rattle.std.proofs.lemmas.Result.{err_from_is_err_and}
use Rattle.property_writer.specs.Writing.{refusal_of, property_length}
use Rattle.property_writer.specs.WritingLaws.{accepted, length_property, put-refused, put-done, bytes-done}
use Rattle.property_writer.proofs.put_property.Goals as goal

-- what is used after a write stays within the usable bytes
grown : (waiting : Bool) (used column kind bits : ℕ) (text : List ℕ) (lent size : ℕ) → refusal_of waiting used column kind bits text lent ≡ 0 →
    size ≡ property_length kind text → used + size ≤ 65536
grown waiting used column kind bits text lent size none sized =
    omega (arith, (accepted waiting used column kind bits text lent none).usable, length_property column kind bits text)

pub returns-in_err-kind : goal.returns-in_err-kind
returns-in_err-kind c =
    let a = c.args in
    let gone = err_from_is_err_and c.from_residual.result c.from_residual.ensures.1 in
    let stays = put-refused a.waiting a.used a.property.column a.property.kind a.property.bits a.property.text.now a.buffer.now c.in_err-kind.field-0.0 (c.in_err-kind.ensures.0, c.in_err-kind.ensures.1) in
    rw (gone.1, gone.2) (record { answer = stays.0; bytes = stays.1; told = c.in_err-kind.ensures.2 })

pub lay_property-requires : goal.lay_property-requires
lay_property-requires c =
    let a = c.args in
    let facts = accepted a.waiting a.used a.property.column a.property.kind a.property.bits a.property.text.now (length a.buffer.now) c.in_ok-kind.ensures.0 in
    record { text_in_bounds = facts.room; exact = facts.exact }

pub overflow_cast-property : goal.overflow_cast-property
overflow_cast-property c =
    let a = c.args in
    omega (arith, (accepted a.waiting a.used a.property.column a.property.kind a.property.bits a.property.text.now (length a.buffer.now) c.in_ok-kind.ensures.0).index)

pub overflow_cast-result : goal.overflow_cast-result
overflow_cast-result c =
    let a = c.args in
    let sized : c.property_length.result ≡ property_length a.property.kind a.property.text.now = rw c.in_ok-kind.ensures.1 at c.property_length.ensures in
    omega (arith, grown a.waiting a.used a.property.column a.property.kind a.property.bits a.property.text.now (length a.buffer.now) _ c.in_ok-kind.ensures.0 sized)

pub overflow_add-result : goal.overflow_add-result
overflow_add-result c =
    let a = c.args in
    let sized : c.property_length.result ≡ property_length a.property.kind a.property.text.now = rw c.in_ok-kind.ensures.1 at c.property_length.ensures in
    omega (arith, grown a.waiting a.used a.property.column a.property.kind a.property.bits a.property.text.now (length a.buffer.now) _ c.in_ok-kind.ensures.0 sized)

pub returns : goal.returns
returns c =
    let a = c.args in
    let none = c.in_ok-kind.ensures.0 in
    let sized : c.property_length.result ≡ property_length a.property.kind a.property.text.now = rw c.in_ok-kind.ensures.1 at c.property_length.ensures in
    record {
      answer = rw (put-done a.waiting a.used a.property.column a.property.kind a.property.bits a.property.text.now a.buffer.now none, length_property a.property.column a.property.kind a.property.bits a.property.text.now, ← sized);
      bytes = rw (bytes-done a.waiting a.used a.property.column a.property.kind a.property.bits a.property.text.now a.buffer.now none) c.lay_property.ensures;
      told = tt;
    }
