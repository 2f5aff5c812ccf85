use Rattle.std.proofs.Common.{◌-◌, ◌≡◌, ◌+◌, ◌*◌}
use Rattle.store.specs.Lists.{lent_of, pools_in}
use Rattle.tree_walk.specs.Memory.{next, parts_kept, marking, walked, kept, uncounted}
use Rattle.tree_walk.specs.Records.{parts_lent}
use Rattle.record_box.specs.Lent.{own_lent}
use Rattle.record_box.proofs.+enter_walk.Given as goal

abbrev pub decreases-enter : goal.decreases-enter
decreases-enter l = 2 * l.levels + 1

abbrev pub decreases-walk : goal.decreases-walk
decreases-walk l = 2 * l.levels

-- what the whole record comes to is what is left comes to, from the box and the marks so far
abbrev pub invariant-walk-loop-part : goal.invariant-walk-loop-part
invariant-walk-loop-part l =
    let P = pools_in l.fn.store.pools in
    let get = parts_lent l.fn.store.table.now (lent_of P) in
    let own = own_lent l.fn.store.table.now (lent_of P) P.xy in
    let part = kept uncounted get own (l.levels - 1) in
    walked get own part l.levels l.n l.fn.around l.fn.marks 0 ≡ next (parts_kept part (l.end - l.part) l.part l.so_far l.marks 0) (marking l.n l.levels)
