use borrow.Author.Rules.{rules}
use Rattle.store.specs.Lists.{pools_of}
use Rattle.writing.specs.declared.state.State.{State}
use Rattle.writing.specs.State.{memory}
use Rattle.writing.specs.Calls.{event_call}
use Rattle.bintolage.specs.CallLaws.{look-heard, pair_whole, kept_answered}
use Rattle.bintolage.proofs.bintolage_event.Goals as goal

pub feature_in-n-requires : goal.feature_in-n-requires
feature_in-n-requires c = pair_whole c.args.event.now (look-heard c.args.event.now c.hear_bare.ensures c.in-Some.is)

pub returns-in-Some : goal.returns-in-Some
returns-in-Some c =
    let bytes = c.args.event.now in
    let pair = look-heard bytes c.hear_bare.ensures c.in-Some.is in
    let told = kept_answered (λ (s : State). event_call s (memory c.args.table.now (pools_of c.args.xy.now c.args.ends.now c.args.z.now c.args.m.now c.args.t.now c.args.tm.now)) bytes) c.args.state.now _ _ c.state_of.ensures (c.pair-wrote.ensures bytes c.feature_in-n.ensures pair) c.keep.ensures.value c.keep.ensures.words_after in
    search (rules, told)

pub returns : goal.returns
returns c =
    let told = kept_answered (λ (s : State). event_call s (memory c.args.table.now (pools_of c.args.xy.now c.args.ends.now c.args.z.now c.args.m.now c.args.t.now c.args.tm.now)) c.args.event.now) c.args.state.now _ _ c.state_of-2.ensures c.event-taken.ensures.took c.keep-2.ensures.value c.keep-2.ensures.words_after in
    search (rules, told)
