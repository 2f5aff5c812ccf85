use mathlib.Core.Path.{◌≡◌, refl, sym, ◌∙◌}
use Rattle.std.specs.Prelude.{Option, Some, None}
use Rattle.laws.specs.Script.{run}
use Rattle.property_value.specs.Value.{placed}
use Rattle.property_reader.specs.Reading.{on_bytes, says, stopped}
use Rattle.property_reader.specs.ReadingSteps.{usable_part}
use Rattle.property_reader.proofs.read_properties.Goals as goal

is_none : {A : Type 0} (o : Option A) → ((x : A) → o ≡ Some x → ⊥) → o ≡ None
is_none None h = refl
is_none (Some x) h = absurd (h x refl)

pub returns-in_default : goal.returns-in_default
returns-in_default c =
    unfold on_bytes run says stopped placed in
    rw (is_none c.args.columns c.in_default.not-Some) (record { log_value = refl; stopped_value = refl; place_value = refl; told = tt })

pub returns : goal.returns
returns c =
    unfold on_bytes in
    let a = c.args in
    let end = c.usable_length-end in
    let read = c.read_all-stopped.ensures in
    let log = c.log-1.given.1.1 (sym (read.memory ∙ c.new-values.ensures.memory)) in
    rw (c.in-Some.is, ← usable_part a.bytes.now end.result end.ensures, log, c.count.ensures, ← c.new-values.ensures.bytes)
    (record { log_value = rw c.new-values.ensures.count at read.log_value; stopped_value = read.stopped_value; place_value = read.place_value; told = read.told })
