use Rattle.std.proofs.lemmas.Result.{err_from_is_err_and}
use Rattle.coords.specs.Coords.{dropped}
use Rattle.coords.specs.Views.{coords_in}
use Rattle.coords.specs.PairLaws.{pair_plain, past_z, past_m, past_t, past_tm, whole}
use Rattle.coords.proofs.pairs.read_pair.Goals as goal

pub returns-then-not-lists : goal.returns-then-not-lists
returns-then-not-lists c = let a = c.args in pair_plain (dropped a.n (coords_in a.lists.now).lanes) a.x a.y a.idx c.if-not-lists.true c.xy.ensures

pub returns-in_err-z : goal.returns-in_err-z
returns-in_err-z c =
    let a = c.args in
    let p = err_from_is_err_and c.from_residual.result c.from_residual.ensures.1 in
    rw (p.1, p.2) (past_z (dropped a.n (coords_in a.lists.now).lanes) a.x a.y a.idx c.if-not-lists.false c.in_err-z.ensures)

pub returns-in_err-m : goal.returns-in_err-m
returns-in_err-m c =
    let a = c.args in
    let p = err_from_is_err_and c.from_residual-in_err-m.result c.from_residual-in_err-m.ensures.1 in
    rw (p.1, p.2) (past_m (dropped a.n (coords_in a.lists.now).lanes) a.x a.y a.idx c.if-not-lists.false c.in_ok-z.ensures c.in_err-m.ensures)

pub returns-in_err-t : goal.returns-in_err-t
returns-in_err-t c =
    let a = c.args in
    let p = err_from_is_err_and c.from_residual-in_err-t.result c.from_residual-in_err-t.ensures.1 in
    rw (p.1, p.2) (past_t (dropped a.n (coords_in a.lists.now).lanes) a.x a.y a.idx c.if-not-lists.false c.in_ok-z.ensures c.in_ok-m.ensures c.in_err-t.ensures)

pub returns-in_err-tm : goal.returns-in_err-tm
returns-in_err-tm c =
    let a = c.args in
    let p = err_from_is_err_and c.from_residual-in_err-tm.result c.from_residual-in_err-tm.ensures.1 in
    rw (p.1, p.2) (past_tm (dropped a.n (coords_in a.lists.now).lanes) a.x a.y a.idx c.if-not-lists.false c.in_ok-z.ensures c.in_ok-m.ensures c.in_ok-t.ensures c.in_err-tm.ensures)

pub returns : goal.returns
returns c =
    let a = c.args in
    whole (dropped a.n (coords_in a.lists.now).lanes) a.x a.y a.idx c.if-not-lists.false c.in_ok-z.ensures c.in_ok-m.ensures c.in_ok-t.ensures c.in_ok-tm.ensures c.coordinate.ensures
