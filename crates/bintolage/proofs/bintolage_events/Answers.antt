use borrow.Author.Rules.{rules}
use Rattle.store.specs.Lists.{pools_of}
use Rattle.writing.specs.declared.state.State.{State}
use Rattle.writing.specs.State.{memory}
use Rattle.runs.specs.Events.{events_call}
use Rattle.bintolage.specs.CallLaws.{taken_call}
use Rattle.bintolage.proofs.bintolage_events.Goals as goal

pub returns : goal.returns
returns c =
    let kept = c.keep_all.ensures in
    let told = taken_call (λ (s : State). events_call s (memory c.args.table.now (pools_of c.args.xy.now c.args.ends.now c.args.z.now c.args.m.now c.args.t.now c.args.tm.now)) c.args.events.now) c.args.state.now _ c.state_of.ensures c.events-took.ensures.took kept.value kept.count_after kept.words_after in
    search (rules, told)
