use Rattle.std.proofs.Common.{arith}
use Rattle.std.proofs.lemmas.Result.{err_from_is_err_and}
use Rattle.wkb_reader.specs.WholeLaws.{whole_refused, whole_over, whole_read}
use Rattle.wkb_reader.proofs.geometry.read_wkb.Goals as goal

pub returns-in_err-read_geometry : goal.returns-in_err-read_geometry
returns-in_err-read_geometry c =
    let p = err_from_is_err_and c.from_residual.result c.from_residual.ensures.1 in
    rw (p.1, p.2) (whole_refused c.in_err-read_geometry.ensures)

pub returns-then-input-ne0 : goal.returns-then-input-ne0
returns-then-input-ne0 c = whole_over c.in_ok-read_geometry.ensures c.if-input-ne0.true

pub returns : goal.returns
returns c = whole_read c.in_ok-read_geometry.ensures (omega (arith, c.if-input-ne0.false))
