use Prim.Native.Nat.{ℕ}
use Rattle.wkb.specs.declared.order.Order.{Order}
use Rattle.std.proofs.lemmas.Result.{err_from_is_err_and}
use Rattle.wkb_reader.specs.Reading.{below, part_r, member_r}
use Rattle.wkb_reader.specs.HeadLaws.{head_refused, head_leads, below-none, below_some}
use Rattle.wkb_reader.proofs.members.MembersThings.read.Goals as goal

pub returns-in_err-head : goal.returns-in_err-head
returns-in_err-head c =
    let a = c.args in
    let m = a.self.now in
    let p = err_from_is_err_and c.from_residual.result c.from_residual.ensures.1 in
    unfold member_r in rw (p.1, p.2) (head_refused m.single m.single (λ (order : Order) (type : ℕ). below m.left (part_r order m.single a.idx)) a.input.now c.read_head.new.input a.log.now c.in_err-head.ensures)

pub returns-then-self-eq0 : goal.returns-then-self-eq0
returns-then-self-eq0 c =
    let a = c.args in
    let m = a.self.now in
    unfold member_r in
    head_leads m.single m.single (λ (order : Order) (type : ℕ). below m.left (part_r order m.single a.idx)) a.input.now c.read_head.new.input c.in_ok-head.ensures
    (below-none (part_r c.in_ok-head.head.order m.single a.idx) a.log.now c.read_head.new.input c.if-self-eq0.true)

pub returns : goal.returns
returns c =
    let a = c.args in
    let m = a.self.now in
    unfold member_r in
    head_leads m.single m.single (λ (order : Order) (type : ℕ). below m.left (part_r order m.single a.idx)) a.input.now c.read_head.new.input c.in_ok-head.ensures
    (below_some c.if-self-eq0.false c.read_part.ensures)
