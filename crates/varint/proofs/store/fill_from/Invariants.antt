use mathlib.Core.Path.{◌≡◌}
use Prim.Native.Nat.{◌≤◌}
use lib.ListN.{length, take, replicate}
use Rattle.varint.proofs.store.fill_from.Given as goal

-- the elements up to the index are x
abbrev pub invariant-loop-place : goal.invariant-loop-place
invariant-loop-place g l =
    record {
      room : l.place-index ≤ length l.place-items;
      size : length l.place-items ≡ length l.initial.place-items;
      done : take l.place-index l.place-items ≡ replicate l.place-index l.x;
    }
