-- The first part and the rest of two lists joined, wherever the cut is.
use mathlib.Core.Path.{◌≡◌, ap}
use mathlib.Core.List.{List, [], ◌∷◌, ◌++◌}
use Prim.Native.Nat.{ℕ, zero, suc, ◌-◌}
use native.Mathlib.Nat.{zero-sub, sub-zero, suc-sub-suc}
use lib.ListN.{length, take, drop}

pub take_append : (n : ℕ) (x y : List ℕ) → take n (x ++ y) ≡ take n x ++ take (n - length x) y
take_append zero x y = rw zero-sub
take_append (suc n) [] y = rw sub-zero
take_append (suc n) (a ∷ x) y = rw suc-sub-suc (ap {B = List ℕ} (λ s. a ∷ s) (take_append n x y))

pub drop_append : (n : ℕ) (x y : List ℕ) → drop n (x ++ y) ≡ drop n x ++ drop (n - length x) y
drop_append zero x y = rw zero-sub
drop_append (suc n) [] y = rw sub-zero
drop_append (suc n) (a ∷ x) y = rw suc-sub-suc (drop_append n x y)
