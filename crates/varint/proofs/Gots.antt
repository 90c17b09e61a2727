-- What is got is one thing: a value with a place, or a refusal.
use mathlib.Core.Path.{◌≡◌, ap}
use Prim.Native.Nat.{ℕ}
use Rattle.std.specs.Prelude.{Err}
use Rattle.varint.specs.Got.{Got, got}
use Rattle.varint.specs.declared.error.Refusal.{Refusal}
use Rattle.varint.proofs.Basics.{never}

-- what is refused is not read
pub no_got : {A X : Type 0} {r : Refusal} {a : A} {q : ℕ} → Err r ≡ got a q → X
no_got e = never cc

pub bad_of : {A : Type 0} {r e : Refusal} → ◌≡◌ {A = Got A} (Err r) (Err e) → r ≡ e
bad_of e = cc

pub got_of : {A : Type 0} {a b : A} {p q : ℕ} → got a p ≡ got b q → (a ≡ b) × (p ≡ q)
got_of {A} {a} {b} {p} {q} e =
    let h : ◌≡◌ {A = A × ℕ} (a, p) (b, q) = cc in
    (ap (λ (z : A × ℕ). z.0) h, ap (λ (z : A × ℕ). z.1) h)
