use Prim.Native.Nat.{ℕ, ◌≤◌}
use mathlib.Core.Path.{◌≡◌}
use mathlib.Core.List.{List}
use lib.ListN.{drop}
use Rattle.varint.specs.Leb128.{get_u64, read_from}
use Rattle.varint.proofs.run.skim_one.Given as goal

-- i bytes of the varint are passed, and have some value
pub record Passing (s : List ℕ) (i : ℕ) : Type 0 where
  pub nine : i ≤ 9
  pub value : ℕ
  pub same : get_u64 s 0 ≡ read_from (drop i s) i i value

abbrev pub invariant-loop-i : goal.invariant-loop-i
invariant-loop-i l = Passing l.bytes l.i
