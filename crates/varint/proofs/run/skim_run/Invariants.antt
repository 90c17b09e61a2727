use mathlib.Core.Path.{◌≡◌}
use Prim.Native.Nat.{◌-◌}
use Rattle.varint.specs.Runs.{end_of}
use Rattle.varint.proofs.run.skim_run.Given as goal

abbrev pub invariant-loop : goal.invariant-loop
invariant-loop l = end_of l.count l.s l.at ≡ end_of (l.count - l.counter) l.s l.p
