use Prim.Native.Nat.{◌*◌, ◌+◌}
use native.Mathlib.Omega.{arith}
use Rattle.geometry_layout.specs.GeometryLaws.{geometry_length}
use Rattle.geometry_layout.specs.Geometry.{geometry_bytes}
use Rattle.laws.specs.Runs.{lent_part}
use Rattle.store.specs.Records.{put_record}
use Rattle.store.proofs.records.put_record.Goals as goal

pub returns : goal.returns
returns c =
    unfold put_record in let a = c.args in
    rw c.put_geometry.ensures
    (lent_part a.table.now (geometry_bytes a.g) (64 * a.n) (omega (arith, geometry_length a.g)) (64 * a.n + 64) (omega (arith, geometry_length a.g)))
