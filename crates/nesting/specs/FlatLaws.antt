-- The machine over flat events: well-formed ones are read without loss, so what it closes on is all of a geometry's flat events.
use Rattle.kinds.specs.declared.event.Event.{Event as Flat}
use Rattle.std.specs.Prelude.{◌≡◌, true, List, ℕ}
use Rattle.kinds.specs.Event.{well_formed}
use Rattle.planar.specs.Geometry.{Geometry}
use Rattle.planar.specs.Within.{planar_events}
use Rattle.nesting.specs.Rules.{Rules, GeometryRule}

abbrev pub WellFormed : Flat → Type 0
WellFormed e = well_formed e ≡ true

pub record FlatWhole (R : Rules) (es : List Flat) : Type 0 where
  pub n : ℕ
  pub geometry : Geometry n
  pub rule : GeometryRule R n 1 geometry
  pub tell : planar_events n geometry ≡ es
