use mathlib.Core.Path.{◌≡◌}
use mathlib.Core.List.{List}
use Prim.Native.Nat.{ℕ, ◌+◌, ◌-◌, ◌≤◌, ◌<◌}
use lib.ListN.{length, get_or}
use lib.Seq.{sets}
use Rattle.varint.specs.Stores.{part}
use Rattle.varint.proofs.store.copy_block.Given as goal

-- the block holds the first i bytes of the part
pub record Held (s : List ℕ) (from len : ℕ) (block : List ℕ) (i : ℕ) : Type 0 where
  pub size : length block ≡ 16
  pub inside : i ≤ len
  pub bytes : (k : ℕ) → k < i → get_or block k 0 ≡ get_or s (from + k) 0

-- what is still to be stored, stored now, gives what all of it gives on the list at entry
pub record Left (s : List ℕ) (from len : ℕ) (d₀ : List ℕ) (at : ℕ) (d : List ℕ) (j : ℕ) : Type 0 where
  pub size : length d ≡ length d₀
  pub inside : j ≤ len
  pub same : sets d (at + j) (part s (from + j) (len - j)) ≡ sets d₀ at (part s from len)

abbrev pub invariant-loop-i : goal.invariant-loop-i
invariant-loop-i l = Held l.src l.from l.len l.block l.i

abbrev pub decreases-loop-i : goal.decreases-loop-i
decreases-loop-i l = l.len - l.i

abbrev pub invariant-loop-j : goal.invariant-loop-j
invariant-loop-j l = Left l.src l.from l.len l.initial.dst l.at l.dst l.j

abbrev pub decreases-loop-j : goal.decreases-loop-j
decreases-loop-j l = l.len - l.j
