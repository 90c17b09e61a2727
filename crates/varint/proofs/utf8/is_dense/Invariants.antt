use Prim.Native.Nat.{◌-◌}
use lib.ListN.{length}
use Rattle.varint.specs.Inner.Utf8Steps.{Passed}
use Rattle.varint.proofs.utf8.is_dense.Given as goal

-- The invariant: whole characters stand before the place.
abbrev pub invariant-loop-at : goal.invariant-loop-at
invariant-loop-at l = Passed l.s l.from l.at

abbrev pub decreases-loop-at : goal.decreases-loop-at
decreases-loop-at l = length l.s - l.at
