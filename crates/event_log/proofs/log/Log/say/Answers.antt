use Rattle.std.specs.Prelude.{◌≡◌, Bool, List, ℕ}
use Rattle.std.proofs.Common.{refl, arith, ap, not, subst}
use Rattle.laws.specs.Script.{Format, room_at, one_full}
use Rattle.laws.specs.Branch.{is_true, is_false}
use Rattle.event_log.specs.Saying.{said_in_part, whole}
use Rattle.event_log.proofs.log.Log.say.Goals as goal

-- Room for so many bytes is room for a record where a record is so wide, however the code came by that number.
for_a_record : {A : Type 0} (F : Format A) (log : List ℕ) (n : ℕ) {w : ℕ} {b : Bool} → room_at w log n ≡ b → w ≡ F.wide → room_at F.wide log n ≡ b
for_a_record F log n {b = b} h e = subst (λ w. room_at w log n ≡ b) e h

pub has_room-requires : goal.has_room-requires
has_room-requires g c = omega (arith, (g.L.Layout.format c.args.self.now.layout).some)

pub returns-then-not-has_room : goal.returns-then-not-has_room
returns-then-not-has_room g c =
    let log = c.args.self.now in
    let F = g.L.Layout.format log.layout in
    record { memory = refl; layout = refl; said = one_full F c.args.item log.bytes.now log.count (for_a_record F log.bytes.now log.count (is_false c.has_room.ensures (ap not c.if-not-has_room.true)) (omega arith)) }

pub overflow_mul-from : goal.overflow_mul-from
overflow_mul-from g c =
    let log = c.args.self.now in
    let F = g.L.Layout.format log.layout in
    rw c.wide-wide.ensures omega (arith, whole F c.args.item log.bytes.now log.count (for_a_record F log.bytes.now log.count (is_true c.has_room.ensures (ap not c.if-not-has_room.false)) (omega arith)))

pub overflow_add-end : goal.overflow_add-end
overflow_add-end g c =
    let log = c.args.self.now in
    let F = g.L.Layout.format log.layout in
    rw c.wide-wide.ensures omega (arith, whole F c.args.item log.bytes.now log.count (for_a_record F log.bytes.now log.count (is_true c.has_room.ensures (ap not c.if-not-has_room.false)) (omega arith)))

pub slice_bounds-put-end : goal.slice_bounds-put-end
slice_bounds-put-end g c =
    let log = c.args.self.now in
    let F = g.L.Layout.format log.layout in
    rw c.wide-wide.ensures omega (arith, whole F c.args.item log.bytes.now log.count (for_a_record F log.bytes.now log.count (is_true c.has_room.ensures (ap not c.if-not-has_room.false)) (omega arith)))

pub returns : goal.returns
returns g c =
    let log = c.args.self.now in
    let F = g.L.Layout.format log.layout in
    let room = for_a_record F log.bytes.now log.count (is_true c.has_room.ensures (ap not c.if-not-has_room.false)) (omega arith) in
    record { memory = refl; layout = refl; said = rw (c.put.ensures, c.wide-wide.ensures) (said_in_part F c.args.item log.bytes.now log.count room _ refl) }
