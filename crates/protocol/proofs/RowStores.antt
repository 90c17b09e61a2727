-- Storing the numbers of a row.
use mathlib.Core.Bool.{Bool, true, false}
use mathlib.Core.Path.{◌≡◌, refl}
use mathlib.Core.List.{List, [], ◌++◌}
use Prim.Native.Nat.{ℕ, ◌+◌, ◌-◌}
use native.Mathlib.Omega.{arith}
use lib.ListN.{length, drop, length-drop, take-append-drop}
use lib.Seq.{take_all, drop-drop}
use Rattle.varint.specs.Stores.{part}
use Rattle.varint.proofs.StoreLaws.{sets_append}
use Rattle.protocol.specs.Inner.Loading.{stored}

-- one store after the other
pub stored_append : (check : Bool) (x y d : List ℕ) (at : ℕ) → stored check d at (x ++ y) ≡ stored check (stored check d at x) (at + length x) y
stored_append true x y d at = refl
stored_append false x y d at = sets_append x y d at

pub stored_none : (check : Bool) (d : List ℕ) (at : ℕ) → stored check d at [] ≡ d
stored_none true d at = refl
stored_none false d at = refl

-- all from a place on
pub part_rest : (s : List ℕ) (at : ℕ) → part s at (length s - at) ≡ drop at s
unfolding part
part_rest s at = take_all (length s - at) (drop at s) (simp length-drop (omega arith))

-- a part and all behind it
pub part_and_rest : (s : List ℕ) (at n : ℕ) → part s at n ++ drop (at + n) s ≡ drop at s
unfolding part
part_and_rest s at n = rw (← drop-drop n at s) (take-append-drop n (drop at s))
