use mathlib.Core.Path.{◌≡◌}
use Prim.Native.Nat.{◌+◌}
use lib.ListN.{drop}
use lib.Seq.{sets}
use Rattle.property_writer.proofs.lay.put_bytes.Given as goal

-- what is left to copy, laid down behind what is copied, is the whole
abbrev pub invariant-loop-i : goal.invariant-loop-i
invariant-loop-i l = sets l.s (l.at + l.i) (drop l.i l.bytes) ≡ sets l.initial.s l.at l.bytes
