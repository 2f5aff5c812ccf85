use Rattle.std.proofs.Common.{refl}
use Rattle.laws.specs.Script.{room_at}
use Rattle.event_log.proofs.log.Log.has_room.Goals as goal

pub returns : goal.returns
returns g c = unfold room_at in refl
