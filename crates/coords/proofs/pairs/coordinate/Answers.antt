use Rattle.geometries.specs.Coordinate.{coord_e}
use Rattle.coords.specs.PairLaws.{value-or}
use Rattle.coords.proofs.pairs.coordinate.Goals as goal

pub returns : goal.returns
unfolding coord_e
returns c =
    let a = c.args in
    rw (
      c.coordinate.ensures,
      c.bit_if.ensures.0,
      c.bit_if-2.ensures.0,
      c.bit_if-3.ensures.0,
      c.bit_if-4.ensures.0,
      c.unwrap_or.ensures,
      c.unwrap_or-2.ensures,
      c.unwrap_or-3.ensures,
      c.unwrap_or-4.ensures,
      value-or a.z,
      value-or a.m,
      value-or a.t,
      value-or a.tm,
    )
