-- What holds of that which is read, where something is.
use mathlib.Core.Path.{◌≡◌}
use Prim.Native.Nat.{ℕ}
use Rattle.varint.specs.Got.{Got, then}
use Rattle.std.specs.Prelude.{Ok, Err}

-- P holds of it and of the place after it
abbrev pub GotAs : {A : Type 0} → (A → ℕ → Type 0) → Got A → Type 0
GotAs P (Ok (a, q)) = P a q
GotAs P (Err e) = Unit

-- with what is read, go on
pub then_got : {A B : Type 0} (P : A → ℕ → Type 0) (Q : B → ℕ → Type 0) (x : Got A) (k : A → ℕ → Got B) → GotAs P x
    → ((a : A) (q : ℕ) → P a q → GotAs Q (k a q)) → GotAs Q (then x k)
then_got P Q (Ok (a, q)) k h g = g a q h
then_got P Q (Err e) k h g = tt

pub got_as : {A : Type 0} (P : A → ℕ → Type 0) (x : Got A) (a : A) (q : ℕ) → GotAs P x → x ≡ Ok (a, q) → P a q
got_as P x a q h e = rw e at h
