-- A signed 64-bit number by its sign, as the machine's bits have it.
use mathlib.Core.Bool.{true, false, true≢false}
use mathlib.Core.Path.{◌≡◌, refl, sym, ◌∙◌, ap}
use Prim.Native.Nat.{ℕ, suc, ◌-◌, ◌<◌}
use native.Mathlib.Omega.{arith}
use lib.Dec.{ltb}
use lib.IntN.{ℤ, pos, negsuc}
use lib.Signed.{lt_z}
use mir.Syntax.{w64}
use mir.Val.{SFits, of_z, to_z}
use mir.ValLaws.{to_z-of_z, to_z_pos, to_z-neg}
use borrow.Author.Tests.{ltb-true}

pub record Negative (v : ℤ) : Type 0 where
  pub m : ℕ
  pub is : v ≡ negsuc m
  pub small : m < 9223372036854775808
  pub flipped : to_z w64 (18446744073709551615 - of_z w64 v) ≡ pos m

pub negative : (v : ℤ) → SFits w64 v → lt_z (to_z w64 (of_z w64 v)) (pos 0) ≡ true → Negative v
negative (pos n) f t =
    let e : ltb n 0 ≡ true = ap (λ (z : ℤ). lt_z z (pos 0)) (sym (to_z-of_z w64 (pos n) f)) ∙ t in
    absurd (omega (arith, ltb-true n 0 e))
negative (negsuc n) f t =
    let s : n < 9223372036854775808 = f.sfits in
    let e : 18446744073709551615 - (18446744073709551616 - suc n) ≡ n = omega arith in
    record { m = n; is = refl; small = s; flipped = ap (to_z w64) e ∙ to_z_pos w64 n s }

pub record Positive (v : ℤ) : Type 0 where
  pub m : ℕ
  pub is : v ≡ pos m
  pub small : m < 9223372036854775808
  pub same : to_z w64 (of_z w64 v) ≡ pos m

pub positive : (v : ℤ) → SFits w64 v → lt_z (to_z w64 (of_z w64 v)) (pos 0) ≡ false → Positive v
positive (pos n) f t = record { m = n; is = refl; small = f.sfits; same = to_z-of_z w64 (pos n) f }
positive (negsuc n) f t = absurd (true≢false (ap (λ (z : ℤ). lt_z z (pos 0)) (sym (to_z-of_z w64 (negsuc n) f)) ∙ t))

-- the flipped bits of a small number are its negative, less one
pub flip : (n : ℕ) → n < 9223372036854775808 → to_z w64 (18446744073709551615 - n) ≡ negsuc n
flip n h =
    let e : 18446744073709551615 - n ≡ 18446744073709551616 - suc n = omega arith in
    ap (to_z w64) e ∙ to_z-neg w64 n h
