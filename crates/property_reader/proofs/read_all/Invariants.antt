use Prim.Native.Nat.{◌-◌}
use lib.ListN.{length}
use Rattle.property_reader.specs.ReadingSteps.{Going}
use Rattle.property_reader.proofs.read_all.Given as goal

abbrev pub invariant-loop-property : goal.invariant-loop-property
invariant-loop-property l = Going l.bytes l.columns l.stop l.initial.log l.log l.at

abbrev pub decreases-loop-property : goal.decreases-loop-property
decreases-loop-property l = length l.bytes - l.at
