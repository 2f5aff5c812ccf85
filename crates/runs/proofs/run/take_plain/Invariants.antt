use Rattle.runs.specs.Run.{values_now, Run, SameValues}
use Rattle.runs.proofs.run.take_plain.Given as goal

abbrev pub invariant-loop-taken : goal.invariant-loop-taken
invariant-loop-taken l = Run l.bytes l.ready l.held l.fn.from l.initial.pending (values_now l.initial.values) l.taken l.pending (values_now l.values) × SameValues l.initial.values l.values
