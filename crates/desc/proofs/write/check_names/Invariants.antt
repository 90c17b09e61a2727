use mathlib.Core.Path.{◌≡◌}
use Prim.Native.Nat.{◌-◌}
use Rattle.desc.specs.Emitting.{names_from}
use Rattle.desc.proofs.write.check_names.Given as goal

abbrev pub invariant-loop-m : goal.invariant-loop-m
invariant-loop-m l = (names_from l.text l.nodes l.from (l.end - l.from) ≡ names_from l.text l.nodes l.m (l.end - l.m))
