use native.Mathlib.Omega.{arith}
use Rattle.std.proofs.lemmas.Result.{err_from_is_err_and}
use Rattle.wkb_writer.specs.Does.{heard_as, refused_does, deep_does, no_room_does, room_for, all_does}
use Rattle.wkb_writer.proofs.write.write_wkb.Goals as goal

pub returns-in_err-nested : goal.returns-in_err-nested
returns-in_err-nested c =
    let p = err_from_is_err_and c.from_residual.result c.from_residual.ensures.1 in
    rw (p.1, p.2) (refused_does c.args.events.now c.args.out.now c.in_err-nested.ensures)

pub returns-then-nested : goal.returns-then-nested
returns-then-nested c = deep_does _ _ c.in_ok-nested.ensures c.if-nested.true

pub returns-then-out-nested : goal.returns-then-out-nested
returns-then-out-nested c = no_room_does _ _ c.in_ok-nested.ensures c.if-nested.false c.if-out-nested.true

pub put_all-requires : goal.put_all-requires
put_all-requires c = (heard_as _ c.in_ok-nested.ensures.listing, room_for c.args.events.now c.args.out.now c.in_ok-nested.ensures (omega (arith, c.if-out-nested.false)))

pub returns : goal.returns
returns c = all_does c.args.events.now c.args.out.now c.in_ok-nested.ensures c.if-nested.false (omega (arith, c.if-out-nested.false)) c.put_all.ensures
