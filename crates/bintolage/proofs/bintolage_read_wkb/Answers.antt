use Rattle.std.proofs.Common.{arith, sym, ◌∙◌}
use Rattle.event_log.specs.Says.{of_events}
use Rattle.event_log.specs.SaysLaws.{said_of}
use Rattle.bintolage.specs.CallLaws.{count_most}
use Rattle.bintolage.proofs.bintolage_read_wkb.Goals as goal

pub overflow_cast-count : goal.overflow_cast-count
overflow_cast-count c =
    let said = said_of of_events c.new-said.ensures.count c.read_wkb-read.ensures in
    rw c.count.ensures omega (arith, count_most _ _ _ said)

pub returns : goal.returns
returns c =
    let log = c.log-1.given.1.1 (sym (c.read_wkb-read.ensures.memory ∙ c.new-said.ensures.memory)) in
    let told = said_of of_events c.new-said.ensures.count c.read_wkb-read.ensures in
    rw (log, c.count.ensures, c.answer_number.ensures, ← c.new-said.ensures.bytes) (rw c.new-said.ensures.layout at told)
