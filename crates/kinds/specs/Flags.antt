-- SPEC 2.5, 10.8: which of z, m, t and tm a reading hands out.
use Rattle.std.specs.Prelude.{ℕ}
use Rattle.kinds.specs.declared.flags.Flags.{Flags}
use Rattle.kinds.specs.Event.{bit_set}

-- z 1, m 2, t 4, tm 8, as an event's present bits; higher bits are not looked at
unfoldable pub flags_of : ℕ → Flags
flags_of bits = record { z = bit_set bits 1; m = bit_set bits 2; t = bit_set bits 4; tm = bit_set bits 8 }
