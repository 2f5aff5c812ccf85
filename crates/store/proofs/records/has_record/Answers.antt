use mathlib.Core.Path.{refl}
use Rattle.store.specs.Records.{has_record}
use Rattle.store.proofs.records.has_record.Goals as goal

pub returns : goal.returns
returns c = unfold has_record in refl
