use Prim.Native.Nat.{◌-◌}
use Rattle.varint.proofs.RunLaws.{Filling}
use Rattle.varint.proofs.run.fill_run.Given as goal

abbrev pub invariant-loop-r : goal.invariant-loop-r
invariant-loop-r l = Filling l.s l.at l.count l.initial.out l.out (l.count - l.r) l.p l.r
