-- A log of values: SPEC 3.11, 9.10.
use Rattle.std.specs.Prelude.{◌≡◌, refl, length}
use Rattle.std.proofs.Common.{lit<}
use Rattle.laws.specs.Script.{Format}
use Rattle.kinds.specs.declared.value.Value.{Value}
use Rattle.event_layout.specs.Value.{value_bytes}

pub value_long : (v : Value) → length (value_bytes v) ≡ 16
unfolding value_bytes
value_long v = refl

-- a value's record in a log
unfoldable pub values : Format Value
values = record { bytes = value_bytes; wide = 16; long = value_long; some = lit< tt }
