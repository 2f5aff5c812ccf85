use Rattle.std.proofs.lemmas.Result.{err_from_is_err_and}
use Rattle.wkb_reader.specs.HeadLaws.{type_cut, other_type, good_type}
use Rattle.wkb_reader.proofs.head.read_type.Goals as goal

pub returns-in_err-kind : goal.returns-in_err-kind
returns-in_err-kind c =
    let a = c.args in
    let p = err_from_is_err_and c.from_residual.result c.from_residual.ensures.1 in
    rw (p.1, p.2) (type_cut a.order a.least a.most a.input.now c.u32.new.self c.in_err-kind.ensures)

pub returns-then-least-kind : goal.returns-then-least-kind
returns-then-least-kind c = let a = c.args in good_type a.order a.least a.most a.input.now c.u32.new.self c.in_ok-kind.ensures c.if-least-kind.true

pub returns-else-least-kind : goal.returns-else-least-kind
returns-else-least-kind c = let a = c.args in other_type a.order a.least a.most a.input.now c.u32.new.self c.in_ok-kind.ensures c.if-least-kind.false
