-- Laws of a choice by a test, and the two cases of a comparison.
use mathlib.Core.Bool.{Bool, true, false, ◌&&◌, true≢false}
use mathlib.Core.Path.{◌≡◌, refl, sym, ◌∙◌}
use mathlib.Core.Logic.{◌⊎◌, inl, inr}
use Prim.Native.Nat.{ℕ, ◌≤◌, ◌<◌}
use native.Mathlib.Omega.{arith}
use lib.Dec.{ltb}
use borrow.Author.Tests.{ltb-true, ltb-false}
use Rattle.varint.specs.Choice.{pick}

pub pick_same : {A : Type 0} (t : Bool) (a : A) → pick t a a ≡ a
pick_same true a = refl
pick_same false a = refl

-- what holds of both holds of the one that is picked
pub pick_both : {A : Type 0} (P : A → Type 0) (t : Bool) {a b : A} → P a → P b → P (pick t a b)
pick_both P true h k = h
pick_both P false h k = k

pub pick_two : {A : Type 0} (P : A → A → Type 0) (c : Bool) {a b a' b' : A} → P a a' → P b b' → P (pick c a b) (pick c a' b')
pick_two P true x y = x
pick_two P false x y = y

-- the same, with what the test says
pub pick_cases : {A : Type 0} (P : A → Type 0) (t : Bool) {a b : A} → (t ≡ true → P a) → (t ≡ false → P b) → P (pick t a b)
pick_cases P true h k = h refl
pick_cases P false h k = k refl

-- by a test's two answers
pub test : {X : Type 0} (t : Bool) → (t ≡ true → X) → (t ≡ false → X) → X
test true h k = h refl
test false h k = k refl

pub clash : {X : Type 0} {t : Bool} → t ≡ true → t ≡ false → X
clash h k = absurd (true≢false (sym h ∙ k))

-- Facts that contradict each other give any fact: `cc` finds 0 ≡ 1 in them.
pub never : {X : Type 0} → ◌≡◌ {A = ℕ} 0 1 → X
never e = absurd (omega arith)

-- a test that both of two hold
pub both : (s t : Bool) → (s && t) ≡ true → (s ≡ true) × (t ≡ true)
both true t h = (refl, h)
both false t h = clash h refl

pub below : (m n : ℕ) → (m < n) ⊎ (n ≤ m)
below m n = test (ltb m n) (λ e. inl (ltb-true m n e)) (λ e. inr (ltb-false m n e))
