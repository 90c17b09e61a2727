use Prim.Native.Nat.{◌-◌}
use lib.ListN.{length}
use Rattle.varint.specs.Inner.Utf8Steps.{Passed}
use Rattle.varint.proofs.utf8.skip_long.Given as goal

abbrev pub invariant-loop-p : goal.invariant-loop-p
invariant-loop-p l = Passed l.s l.from l.p

abbrev pub decreases-loop-p : goal.decreases-loop-p
decreases-loop-p l = length l.s - l.p
