use native.Mathlib.Omega.{arith}
use Rattle.property_value.specs.ColumnLaws.{last_width}
use Rattle.property_reader.proofs.item.bits_at.Goals as goal

pub u64_at-requires : goal.u64_at-requires
u64_at-requires c = omega (arith, last_width c.args.len c.requires.0 c.in_default.in_default-own.rest.0.0.1 c.in_default.in_default-own.rest.0.1 c.in_default.in_default-own.rest.1)

pub returns-in_default : goal.returns-in_default
returns-in_default c = rw (last_width c.args.len c.requires.0 c.in_default.in_default-own.rest.0.0.1 c.in_default.in_default-own.rest.0.1 c.in_default.in_default-own.rest.1) c.u64_at.ensures
