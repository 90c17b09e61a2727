use mathlib.Core.Path.{◌≡◌}
use mathlib.Core.List.{List}
use Prim.Native.Nat.{ℕ, ◌-◌, ◌≤◌}
use lib.ListN.{length}
use lib.Seq.{sets}
use Rattle.varint.specs.Stores.{part}
use Rattle.varint.proofs.store.copy_run.Given as goal

-- the first k bytes are copied
pub record Done (s : List ℕ) (from len : ℕ) (d₀ : List ℕ) (at : ℕ) (d : List ℕ) (k : ℕ) : Type 0 where
  pub inside : k ≤ len
  pub size : length d ≡ length d₀
  pub same : d ≡ sets d₀ at (part s from k)

abbrev pub invariant-loop-k : goal.invariant-loop-k
invariant-loop-k l = Done l.src l.from l.len l.initial.dst l.at l.dst l.k

abbrev pub decreases-loop-k : goal.decreases-loop-k
decreases-loop-k l = l.len - l.k
