use Rattle.std.specs.Prelude.{◌≡◌}
use Rattle.std.proofs.Common.{arith, subst, ap, ◌∙◌}
use Rattle.kinds.specs.Refusal.{number_of}
use Rattle.property_value.specs.Refused.{refusal_of}
use Rattle.laws.specs.Cut.{said}
use Rattle.event_log.specs.Values.{values}
use Rattle.bintolage.specs.Calls.{yes, one}
use Rattle.bintolage.specs.CallLaws.{count_most, stop_byte}
use Rattle.bintolage.specs.PropertyLaws.{PropertiesAre, properties_are}
use Rattle.bintolage.proofs.bintolage_read_properties.Goals as goal

pub overflow_cast-count : goal.overflow_cast-count
overflow_cast-count c = omega (arith, count_most values _ _ (said values c.read_properties-read.ensures.log_value))

pub returns-in-Ok : goal.returns-in-Ok
returns-in-Ok c =
    let a = c.args in
    let read = c.read_properties-read in
    let p = properties_are a.bytes.now (yes a.has_columns) a.columns a.stop c.then_some-columns.ensures read.ensures.log_value read.ensures.stopped_value read.ensures.place_value in
    let q = subst (PropertiesAre a.bytes.now (yes a.has_columns) a.columns.now a.stop a.log.now read.result.count read.new.log) c.in-Ok.is p in
    record { said = q.says; stop = c.from.ensures ∙ stop_byte _ ∙ ap one q.stops; place = q.place }

pub returns-in-Err : goal.returns-in-Err
returns-in-Err c =
    let a = c.args in
    let read = c.read_properties-read in
    let p = properties_are a.bytes.now (yes a.has_columns) a.columns a.stop c.then_some-columns.ensures read.ensures.log_value read.ensures.stopped_value read.ensures.place_value in
    let q = subst (PropertiesAre a.bytes.now (yes a.has_columns) a.columns.now a.stop a.log.now read.result.count read.new.log) c.in-Err.is p in
    let number : c.number.result ≡ number_of (refusal_of c.in-Err.refused) = cc in
    rw number (record { said = q.says; stop = ap one q.stops; place = omega (arith, q.place) })
