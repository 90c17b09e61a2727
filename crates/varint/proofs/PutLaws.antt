-- Laws of the bytes of a varint: how it begins, and how many there are.
use mathlib.Core.Logic.{⊎_elim}
use mathlib.Core.Path.{◌≡◌, refl, sym, ◌∙◌, ap}
use mathlib.Core.List.{List, [], ◌∷◌}
use Prim.Native.Nat.{ℕ, zero, suc, ◌+◌, ◌/◌, ◌%◌, ◌^◌, ◌≤◌, ◌<◌}
use native.Mathlib.Nat.{pow-suc, pow-le-pow_right, lt_of_lt_of_le, div-lt_iff_lt-mul}
use native.Mathlib.Omega.{arith}
use lib.Dec.{lit<}
use lib.ListN.{length}
use borrow.Author.Tests.{lt-ltb, le-ltb}
use Rattle.varint.specs.Leb128.{put_by, put_u64}
use Rattle.varint.proofs.Basics.{below}

put_by_small : (f n : ℕ) → n < 128 → put_by f n ≡ n ∷ []
unfolding put_by
put_by_small zero n h = refl
put_by_small (suc f) n h = rw (lt-ltb n 128 h, put_by)

put_by_big : (f n : ℕ) → 128 ≤ n → put_by (suc f) n ≡ (n % 128 + 128) ∷ put_by f (n / 128)
unfolding put_by
put_by_big f n h = rw (le-ltb n 128 h, put_by)

put_by_same : (f g n : ℕ) → n ≤ f → n ≤ g → put_by f n ≡ put_by g n
put_by_same zero g n hf hg = put_by_small zero n (omega arith) ∙ sym (put_by_small g n (omega arith))
put_by_same (suc f) zero n hf hg = put_by_small (suc f) n (omega arith) ∙ sym (put_by_small zero n (omega arith))
put_by_same (suc f) (suc g) n hf hg =
    ⊎_elim
    (λ (h : n < 128). put_by_small (suc f) n h ∙ sym (put_by_small (suc g) n h))
    (λ (h : 128 ≤ n).
    put_by_big f n h ∙ ap (λ (t : List ℕ). (n % 128 + 128) ∷ t) (put_by_same f g (n / 128) (omega arith) (omega arith)) ∙ sym (put_by_big g n h))
    (below n 128)

pub put_small : (n : ℕ) → n < 128 → put_u64 n ≡ n ∷ []
unfolding put_u64
put_small n h = put_by_small n n h

pub put_big : (n : ℕ) → 128 ≤ n → put_u64 n ≡ (n % 128 + 128) ∷ put_u64 (n / 128)
unfolding put_u64
put_big zero h = absurd (omega arith)
put_big (suc f) h =
    put_by_big f (suc f) h
    ∙ ap (λ (t : List ℕ). (suc f % 128 + 128) ∷ t) (put_by_same f (suc f / 128) (suc f / 128) (omega arith) (omega arith))

pub put_some : (n : ℕ) → 1 ≤ length (put_u64 n)
put_some n = ⊎_elim (λ (s : n < 128). rw (put_small n s) (omega arith)) (λ (b : 128 ≤ n). rw (put_big n b) (omega arith)) (below n 128)

-- a number below 128 ^ k has at most k bytes
pub put_length : (k n : ℕ) → n < 128 ^ suc k → length (put_u64 n) ≤ suc k
put_length zero n h = rw (put_small n h) (omega arith)
put_length (suc k) n h =
    ⊎_elim
    (λ (s : n < 128). rw (put_small n s) (omega arith))
    (λ (b : 128 ≤ n). rw (put_big n b) (omega (arith, put_length k (n / 128) ((div-lt_iff_lt-mul {y = 128 ^ suc k} (lit< tt)).1 (rw (← pow-suc 128 (suc k)) h)))))
    (below n 128)

-- and at most k bytes hold a number below 128 ^ k only
pub put_length_least : (k n : ℕ) → length (put_u64 n) ≤ suc k → n < 128 ^ suc k
put_length_least zero n h =
    ⊎_elim (λ (s : n < 128). s) (λ (b : 128 ≤ n). let l = rw (put_big n b) at h in absurd (omega (arith, put_some (n / 128)))) (below n 128)
put_length_least (suc k) n h =
    ⊎_elim
    (λ (s : n < 128). lt_of_lt_of_le s (pow-le-pow_right {n = 128} (lit< tt) {i = 1} {j = suc (suc k)} (omega arith)))
    (λ (b : 128 ≤ n).
    let l = rw (put_big n b) at h in
    rw pow-suc ((div-lt_iff_lt-mul {y = 128 ^ suc k} (lit< tt)).0 (put_length_least k (n / 128) (omega arith))))
    (below n 128)

pub put_length_64 : (n : ℕ) → n < 2 ^ 64 → length (put_u64 n) ≤ 10
put_length_64 n h = put_length 9 n (omega arith)

-- from 128 ^ k on, and below the next power
pub put_length_is : (k n : ℕ) → 128 ^ suc k ≤ n → n < 128 ^ suc (suc k) → suc (suc k) ≡ length (put_u64 n)
put_length_is k n h l =
    ⊎_elim
    (λ (m : length (put_u64 n) < suc (suc k)). absurd (omega (arith, put_length_least k n (omega arith))))
    (λ (m : suc (suc k) ≤ length (put_u64 n)). omega (arith, put_length (suc k) n l))
    (below (length (put_u64 n)) (suc (suc k)))
