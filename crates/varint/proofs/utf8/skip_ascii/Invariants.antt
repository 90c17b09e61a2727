use Prim.Native.Nat.{◌-◌}
use lib.ListN.{length}
use Rattle.varint.specs.Inner.Utf8Steps.{Passed}
use Rattle.varint.proofs.utf8.skip_ascii.Given as goal

-- The invariant of each loop: whole characters stand before p.
abbrev pub invariant-loop-p : goal.invariant-loop-p
invariant-loop-p l = Passed l.s l.from l.p

abbrev pub decreases-loop-p : goal.decreases-loop-p
decreases-loop-p l = length l.s - l.p

abbrev pub invariant-loop-p-2 : goal.invariant-loop-p-2
invariant-loop-p-2 l = Passed l.s l.from l.p

abbrev pub decreases-loop-p-2 : goal.decreases-loop-p-2
decreases-loop-p-2 l = length l.s - l.p
