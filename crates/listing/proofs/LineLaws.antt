-- Laws of numbers in decimal, and of texts that are stored in parts.
use mathlib.Core.Path.{◌≡◌, refl, sym, ◌∙◌, ap}
use mathlib.Core.List.{List, [], ◌∷◌, ◌++◌}
use Prim.Native.Nat.{ℕ, zero, suc, ◌+◌, ◌-◌, ◌*◌, ◌/◌, ◌%◌, ◌^◌, ◌≤◌, ◌<◌}
use native.Mathlib.Nat.{pow-suc, one-le-pow}
use native.Mathlib.Omega.{arith}
use lib.Dec.{lit<}
use lib.ListN.{length, set, length-append}
use lib.Seq.{sets}
use borrow.Author.Tests.{lt-ltb, le-ltb}
use mathlib.Core.Logic.{⊎_elim}
use Rattle.io.specs.Digits.{last_digits, IsDigitCount}
use Rattle.varint.proofs.Basics.{below}
use Rattle.varint.proofs.StoreLaws.{sets_append}
use Rattle.listing.specs.Lines.{decimal_by, decimal}

-- Numbers in decimal

decimal_by_small : (f n : ℕ) → n < 10 → decimal_by f n ≡ (0x30 + n) ∷ []
unfolding decimal_by
decimal_by_small zero n h = refl
decimal_by_small (suc f) n h = rw (lt-ltb n 10 h, decimal_by)

decimal_by_big : (f n : ℕ) → 10 ≤ n → decimal_by (suc f) n ≡ decimal_by f (n / 10) ++ ((0x30 + n % 10) ∷ [])
unfolding decimal_by
decimal_by_big f n h = rw (le-ltb n 10 h, decimal_by)

-- more divisions than the number make no difference
decimal_by_same : (f g n : ℕ) → n ≤ f → n ≤ g → decimal_by f n ≡ decimal_by g n
decimal_by_same zero g n hf hg = decimal_by_small zero n (omega arith) ∙ sym (decimal_by_small g n (omega arith))
decimal_by_same (suc f) zero n hf hg = decimal_by_small (suc f) n (omega arith) ∙ sym (decimal_by_small zero n (omega arith))
decimal_by_same (suc f) (suc g) n hf hg =
    ⊎_elim
    (λ (h : n < 10). decimal_by_small (suc f) n h ∙ sym (decimal_by_small (suc g) n h))
    (λ (h : 10 ≤ n).
    decimal_by_big f n h
    ∙ ap (λ (t : List ℕ). t ++ ((0x30 + n % 10) ∷ [])) (decimal_by_same f g (n / 10) (omega arith) (omega arith))
    ∙ sym (decimal_by_big g n h))
    (below n 10)

decimal_small : (n : ℕ) → n < 10 → decimal n ≡ (0x30 + n) ∷ []
unfolding decimal
decimal_small n h = decimal_by_small n n h

decimal_big : (n : ℕ) → 10 ≤ n → decimal n ≡ decimal (n / 10) ++ ((0x30 + n % 10) ∷ [])
unfolding decimal
decimal_big zero h = absurd (omega arith)
decimal_big (suc f) h =
    decimal_by_big f (suc f) h
    ∙ ap (λ (t : List ℕ). t ++ ((0x30 + suc f % 10) ∷ [])) (decimal_by_same f (suc f / 10) (suc f / 10) (omega arith) (omega arith))

-- a number below 10 ^ k has at most k digits
decimal_length : (k n : ℕ) → n < 10 ^ suc k → length (decimal n) ≤ suc k
decimal_length zero n h = rw (decimal_small n h) (omega arith)
decimal_length (suc k) n h =
    let p : n < 10 ^ suc k * 10 = rw pow-suc at h in
    ⊎_elim
    (λ (s : n < 10). rw (decimal_small n s) (omega arith))
    (λ (b : 10 ≤ n). rw (decimal_big n b) (simp length-append (omega (arith, decimal_length k (n / 10) (omega arith)))))
    (below n 10)

pub decimal_length_64 : (n : ℕ) → n < 2 ^ 64 → length (decimal n) ≤ 20
decimal_length_64 n h = decimal_length 19 n (omega arith)

-- the fewest digits that hold a number are the number in decimal
pub digits_decimal : (k n : ℕ) → IsDigitCount 10 1 n k → last_digits 10 k n ≡ decimal n
digits_decimal zero n h = absurd (omega arith)
digits_decimal (suc zero) n h =
    let s : n < 10 = h.1 in
    let e : n % 10 ≡ n = omega arith in
    rw (decimal_small n s, e, lt-ltb n 10 s)
digits_decimal (suc (suc k)) n h =
    let a : n < 10 ^ k * 10 * 10 = rw (pow-suc, pow-suc) at h.1 in
    let e : suc (suc k) - 1 ≡ suc k = omega arith in
    let f : suc k - 1 ≡ k = omega arith in
    let b : 10 ^ k * 10 ≤ n = rw (e, pow-suc) at (h.2 (omega arith)) in
    let p = one-le-pow k 10 (lit< tt) in
    let d : n % 10 < 10 = omega arith in
    let i : last_digits 10 (suc k) (n / 10) ≡ decimal (n / 10) = digits_decimal (suc k) (n / 10) (omega arith, rw pow-suc (omega arith), λ _. rw f (omega arith)) in
    rw (decimal_big n (omega arith), ← i, lt-ltb (n % 10) 10 d)

-- Texts in parts

-- a text stored behind another is stored with it
pub sets_after : (x y d : List ℕ) (at p : ℕ) → p ≡ at + length x → sets (sets d at x) p y ≡ sets d at (x ++ y)
sets_after x y d at p e = rw e (sym (sets_append x y d at))

-- and so is one byte
pub set_after : (x d : List ℕ) (at p a : ℕ) → p ≡ at + length x → set (sets d at x) p a ≡ sets d at (x ++ (a ∷ []))
set_after x d at p a e = sets_after x (a ∷ []) d at p e
