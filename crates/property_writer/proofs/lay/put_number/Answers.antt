use native.Mathlib.Omega.{arith}
use Rattle.property_value.specs.ColumnLaws.{last_width}
use Rattle.property_writer.proofs.lay.put_number.Goals as goal

pub put_u64-requires : goal.put_u64-requires
put_u64-requires c = omega (arith, last_width c.args.width c.requires.0 c.in_default.in_default-own.rest.0.0.1 c.in_default.in_default-own.rest.0.1 c.in_default.in_default-own.rest.1)

pub returns-in_default : goal.returns-in_default
returns-in_default c = rw (last_width c.args.width c.requires.0 c.in_default.in_default-own.rest.0.0.1 c.in_default.in_default-own.rest.0.1 c.in_default.in_default-own.rest.1) c.put_u64.ensures
