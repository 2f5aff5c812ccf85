use mathlib.Core.Path.{refl}
use native.Mathlib.Omega.{arith}
use Rattle.kinds.specs.EventLaws.{uses_in, uses_past}
use Rattle.kinds.proofs.event.Event.uses.Goals as goal

pub returns-in-1 : goal.returns-in-1
returns-in-1 c = rw c.in-1.is

pub returns-in-17 : goal.returns-in-17
returns-in-17 c = rw c.in-17.is

pub returns-in-33 : goal.returns-in-33
returns-in-33 c = rw c.in-33.is

pub returns-in-49 : goal.returns-in-49
returns-in-49 c = rw c.in-49.is

pub returns-in-64 : goal.returns-in-64
returns-in-64 c = rw c.in-64.is

pub returns-in-65 : goal.returns-in-65
returns-in-65 c = rw c.in-65.is

pub returns-in-2-to-3 : goal.returns-in-2-to-3
returns-in-2-to-3 c = uses_in 2 2 _ c.args.kind refl (omega arith) (omega arith)

pub returns-in-4-to-12 : goal.returns-in-4-to-12
returns-in-4-to-12 c = uses_in 4 9 _ c.args.kind refl (omega arith) (omega arith)

pub returns-in-15-to-16 : goal.returns-in-15-to-16
returns-in-15-to-16 c = uses_in 15 2 _ c.args.kind refl (omega arith) (omega arith)

pub returns-in-34-to-35 : goal.returns-in-34-to-35
returns-in-34-to-35 c = uses_in 34 2 _ c.args.kind refl (omega arith) (omega arith)

pub returns-in-36-to-44 : goal.returns-in-36-to-44
returns-in-36-to-44 c = uses_in 36 9 _ c.args.kind refl (omega arith) (omega arith)

pub returns-in-47-to-48 : goal.returns-in-47-to-48
returns-in-47-to-48 c = uses_in 47 2 _ c.args.kind refl (omega arith) (omega arith)

pub returns-in_default : goal.returns-in_default
returns-in_default c = uses_in 0 1 _ c.args.kind refl (omega arith) (omega arith)

pub returns-in_default-2 : goal.returns-in_default-2
returns-in_default-2 c = uses_in 13 2 _ c.args.kind refl (omega arith) (omega arith)

pub returns-in_default-3 : goal.returns-in_default-3
returns-in_default-3 c = uses_in 18 15 _ c.args.kind refl (omega arith) (omega arith)

pub returns-in_default-4 : goal.returns-in_default-4
returns-in_default-4 c = uses_in 45 2 _ c.args.kind refl (omega arith) (omega arith)

pub returns-in_default-5 : goal.returns-in_default-5
returns-in_default-5 c = uses_past _ c.args.kind refl (omega arith) (omega arith) (λ e. c.in_default.in_default-own.rest.0.1 e) (λ e. c.in_default.in_default-own.rest.1 e)
