use mathlib.Core.Path.{refl}
use Prim.Native.Nat.{◌+◌}
use native.Mathlib.Omega.{arith}
use lib.ListN.{length-take, length-drop}
use Rattle.laws.specs.Bytes.{le}
use Rattle.laws.specs.Runs.{then, lent_tail}
use Rattle.property_writer.specs.Writing.{laid_down, property_bytes}
use Rattle.property_writer.proofs.lay.lay_property.Goals as goal

pub put_u16-requires : goal.put_u16-requires
put_u16-requires c = unfold property_bytes in omega (arith, c.requires.text_in_bounds)

pub slice_bounds-put_value-count : goal.slice_bounds-put_value-count
slice_bounds-put_value-count c = unfold property_bytes in omega (arith, c.requires.text_in_bounds)

pub slice_bounds-put_value-start : goal.slice_bounds-put_value-start
slice_bounds-put_value-start c = unfold property_bytes in omega (arith, c.requires.text_in_bounds)

pub put_value-requires : goal.put_value-requires
put_value-requires c =
    unfold property_bytes in
    record { text_in_bounds = simp (length-take, length-drop) (omega (arith, c.requires.text_in_bounds)); exact = c.requires.exact }

pub returns : goal.returns
returns c =
    unfold property_bytes in
    let a = c.args in
    let bytes = laid_down a.kind a.bits a.text.now in
    then a.buffer.now (le 2 a.column) bytes a.at 2 c.put_u16.ensures refl
    (lent_tail c.put_u16.new.s bytes _ (a.at + 2) (omega (arith, c.requires.text_in_bounds)) c.put_value.ensures)
