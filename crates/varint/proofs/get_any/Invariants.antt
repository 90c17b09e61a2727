use Prim.Native.Nat.{◌+◌}
use Rattle.varint.proofs.ByteLoop.{Going}
use Rattle.varint.proofs.get_any.Given as goal

abbrev pub invariant-loop-i : goal.invariant-loop-i
invariant-loop-i l = Going l.s l.at l.value l.unit l.i (l.at + l.i)
