use Rattle.std.proofs.lemmas.Result.{err_from_is_err_and}
use Rattle.wkb_reader.specs.HeadLaws.{marked_by, mark_cut, bad_mark, head_cut, head_is}
use Rattle.wkb_reader.proofs.head.read_head.Goals as goal

pub returns-in_err-byte : goal.returns-in_err-byte
returns-in_err-byte c =
    let a = c.args in
    let p = err_from_is_err_and c.from_residual.result c.from_residual.ensures.1 in
    rw (p.1, p.2) (mark_cut a.least a.most a.input.now c.byte.new.self c.byte.new.self c.in_err-byte.ensures)

pub returns-in_default : goal.returns-in_default
returns-in_default c = let a = c.args in bad_mark a.least a.most a.input.now c.byte.new.self c.in_ok-byte.ensures c.byte.new.self c.in_default.ensures

pub returns-in_err-kind : goal.returns-in_err-kind
returns-in_err-kind c =
    let a = c.args in
    let m = marked_by _ c.in-Some.ensures in
    let p = err_from_is_err_and c.from_residual-in_err-kind.result c.from_residual-in_err-kind.ensures.1 in
    rw (p.1, p.2) (head_cut a.least a.most a.input.now c.byte.new.self c.in_ok-byte.ensures m.0 m.1 c.read_type.new.input _ c.in_err-kind.ensures)

pub returns : goal.returns
returns c =
    let a = c.args in
    let m = marked_by _ c.in-Some.ensures in
    head_is a.least a.most a.input.now c.byte.new.self c.in_ok-byte.ensures m.0 m.1 c.read_type.new.input c.in_ok-kind.ensures
