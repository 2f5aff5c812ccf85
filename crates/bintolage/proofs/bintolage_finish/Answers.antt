use Rattle.store.specs.Lists.{pools_of}
use Rattle.writing.specs.declared.state.State.{State}
use Rattle.writing.specs.State.{memory}
use Rattle.writing.specs.Calls.{finish_call}
use Rattle.bintolage.specs.CallLaws.{kept_answered}
use Rattle.bintolage.proofs.bintolage_finish.Goals as goal

pub returns : goal.returns
returns c = kept_answered (λ (s : State). finish_call s (memory c.args.table.now (pools_of c.args.xy.now c.args.ends.now c.args.z.now c.args.m.now c.args.t.now c.args.tm.now))) c.args.state.now _ _ c.state_of.ensures c.finish-finished.ensures c.keep.ensures.value c.keep.ensures.words_after
