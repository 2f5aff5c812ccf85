use mathlib.Core.List.{◌++◌}
use mathlib.Core.Path.{refl, ◌∙◌}
use Rattle.laws.specs.Bytes.{le}
use Rattle.laws.specs.Runs.{then, sets_whole}
use Rattle.event_layout.specs.Event.{bit, double_bytes, event_bytes}
use Rattle.event_layout.specs.Head.{head_bytes}
use Rattle.event_layout.proofs.event.put_event.Goals as goal

pub returns : goal.returns
returns c =
    unfold event_bytes in let l = c.args.bytes.now in
    let e = c.args.e in
    let feature = c.args.feature in
    let head = head_bytes e.kind (bit e.tagged) e.present ++ le 4 e.size in
    let idx = head ++ (le 4 e.idx ++ le 4 feature) in
    then l idx (double_bytes e) 0 16
    (then l head (le 4 e.idx ++ le 4 feature) 0 8 (rw c.byte_of.ensures at c.put_first.ensures) refl c.put_two.ensures)
    refl c.put_doubles.ensures
    ∙ sets_whole l (idx ++ double_bytes e) c.requires
