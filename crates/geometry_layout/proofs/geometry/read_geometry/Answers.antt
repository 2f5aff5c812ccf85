use borrow.Author.Tests.{eq-eqb, ne_eqb}
use Rattle.geometry_layout.specs.Geometry.{read_geometry}
use Rattle.geometry_layout.proofs.geometry.read_geometry.Goals as goal

pub returns-then-bytes-ne64 : goal.returns-then-bytes-ne64
returns-then-bytes-ne64 c = unfold read_geometry in rw (ne_eqb _ _ c.if-bytes-ne64.true)

pub returns-then-sound_geometry : goal.returns-then-sound_geometry
returns-then-sound_geometry c = unfold read_geometry in rw (eq-eqb _ _ c.if-bytes-ne64.false, ← c.sound_geometry.ensures, c.if-sound_geometry.true, c.geometry_of.ensures)

pub returns-else-sound_geometry : goal.returns-else-sound_geometry
returns-else-sound_geometry c = unfold read_geometry in rw (eq-eqb _ _ c.if-bytes-ne64.false, ← c.sound_geometry.ensures, c.if-sound_geometry.false)
