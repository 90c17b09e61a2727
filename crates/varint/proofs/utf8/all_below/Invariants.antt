use Prim.Native.Nat.{◌+◌}
use mathlib.Core.Bool.{true}
use mathlib.Core.Path.{◌≡◌}
use Rattle.varint.specs.Inner.Utf8Steps.{Ascii}
use Rattle.varint.proofs.utf8.all_below.Given as goal

-- The invariant: where all bytes so far are below `top`, they are ASCII.
abbrev pub invariant-loop-i : goal.invariant-loop-i
invariant-loop-i g l = l.below ≡ true → Ascii l.s l.from (l.from + l.i)
