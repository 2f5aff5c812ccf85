use mathlib.Core.Bool.{not}
use mathlib.Core.Path.{refl, sym, ap, ◌∙◌}
use mathlib.Core.Bool.{Bool}
use native.Mathlib.Omega.{arith}
use lib.Dec.{eqb}
use borrow.Author.Tests.{ne_eqb, eqb-true}
use Rattle.laws.specs.Branch.{is_true, is_false}
use Rattle.laws.specs.Every.{both}
use Rattle.kinds.specs.Event.{uses_of, parsed, told_apart}
use Rattle.kinds.specs.EventLaws.{told_unsound, told-malformed, told-pair, told-coordinate, told-frame, told_none}
use Rattle.event_layout.specs.Event.{read_event}
use Rattle.event_layout.specs.EventLaws.{whole_read}
use Rattle.event_layout.proofs.event.read_event.Goals as goal

pub returns-then-bytes-ne64 : goal.returns-then-bytes-ne64
returns-then-bytes-ne64 c = unfold read_event in rw (ne_eqb _ _ c.if-bytes-ne64.true)

pub returns-then-not-spare_zero : goal.returns-then-not-spare_zero
returns-then-not-spare_zero c = told_unsound c.event_of-e.result ∙ ap (λ (s : Bool). told_apart (parsed s c.event_of-e.result)) (sym (is_false refl (ap not c.if-not-spare_zero.true))) ∙ ((λ i. told_apart (parsed (c.spare_zero.ensures i) (c.event_of-e.ensures i))) ∙ sym (ap told_apart (whole_read c.args.bytes.now c.if-bytes-ne64.false)))

pub returns-then-keeps : goal.returns-then-keeps
returns-then-keeps c =
    let kind = c.if-kind-eq-XY.true in
    told-pair _ _ (uses_of 64) (ap uses_of (sym kind)) c.keeps.ensures kind (rw ((is_true refl (ap not c.if-not-spare_zero.false)), c.if-keeps.true)) ∙ ((λ i. told_apart (parsed (c.spare_zero.ensures i) (c.event_of-e.ensures i))) ∙ sym (ap told_apart (whole_read c.args.bytes.now c.if-bytes-ne64.false)))

pub returns-then-kind-eq-XY : goal.returns-then-kind-eq-XY
returns-then-kind-eq-XY c = told-malformed _ _ (uses_of 64) (ap uses_of (sym c.if-kind-eq-XY.true)) c.keeps.ensures (rw ((is_true refl (ap not c.if-not-spare_zero.false)), c.if-keeps.false)) ∙ ((λ i. told_apart (parsed (c.spare_zero.ensures i) (c.event_of-e.ensures i))) ∙ sym (ap told_apart (whole_read c.args.bytes.now c.if-bytes-ne64.false)))

pub returns-then-kind-keeps : goal.returns-then-kind-keeps
returns-then-kind-keeps c =
    let e = c.event_of-e.result in
    let t = both (eqb e.kind 65) c.keeps-then-kind-ge-XY.result c.if-kind-keeps.true in
    let kind = eqb-true e.kind 65 t.0 in
    told-coordinate _ _ (uses_of 65) (ap uses_of (sym kind)) c.keeps-then-kind-ge-XY.ensures kind (rw ((is_true refl (ap not c.if-not-spare_zero.false)), t.1)) ∙ ((λ i. told_apart (parsed (c.spare_zero.ensures i) (c.event_of-e.ensures i))) ∙ sym (ap told_apart (whole_read c.args.bytes.now c.if-bytes-ne64.false)))

pub returns-then-kind-ge-XY : goal.returns-then-kind-ge-XY
returns-then-kind-ge-XY c = told_none _ _ _ c.if-kind-ge-XY.true c.if-kind-eq-XY.false c.keeps-then-kind-ge-XY.ensures c.if-kind-keeps.false ∙ ((λ i. told_apart (parsed (c.spare_zero.ensures i) (c.event_of-e.ensures i))) ∙ sym (ap told_apart (whole_read c.args.bytes.now c.if-bytes-ne64.false)))

pub returns-then-keeps-2 : goal.returns-then-keeps-2
returns-then-keeps-2 c =
    let below = c.if-kind-ge-XY.false in
    c.told_frame.ensures
    ∙ told-frame _ _ c.uses.result c.uses.ensures c.keeps-2.ensures c.if-kind-eq-XY.false (λ h. omega (arith, below, h)) (rw ((is_true refl (ap not c.if-not-spare_zero.false)), c.if-keeps-2.true))
    ∙ ((λ i. told_apart (parsed (c.spare_zero.ensures i) (c.event_of-e.ensures i))) ∙ sym (ap told_apart (whole_read c.args.bytes.now c.if-bytes-ne64.false)))

pub returns-else-keeps-2 : goal.returns-else-keeps-2
returns-else-keeps-2 c = told-malformed _ _ c.uses.result c.uses.ensures c.keeps-2.ensures (rw ((is_true refl (ap not c.if-not-spare_zero.false)), c.if-keeps-2.false)) ∙ ((λ i. told_apart (parsed (c.spare_zero.ensures i) (c.event_of-e.ensures i))) ∙ sym (ap told_apart (whole_read c.args.bytes.now c.if-bytes-ne64.false)))
