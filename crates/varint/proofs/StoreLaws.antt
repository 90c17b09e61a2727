-- Laws of parts of a list, of runs of stores (`sets` of lib.Seq) and of cleared and filled buffers. No law on a run of stores
-- asks for room: what lies past the end is not stored.
use mathlib.Core.Path.{◌≡◌, refl, sym, ◌∙◌, ap}
use mathlib.Core.Logic.{◌≢◌, ⊎_elim}
use mathlib.Core.List.{List, [], ◌∷◌, ◌++◌, append-nil}
use Prim.Native.Nat.{ℕ, zero, suc, ◌+◌, ◌-◌, min, ◌≤◌, ◌<◌}
use native.Mathlib.Omega.{arith}
use native.Mathlib.Nat.{add-zero, zero-add, sub-zero}
use native.Mathlib.Numerals.{add-one, sub-one}
use lib.ListN.{length, get_or, take, drop, set, take-append-drop, replicate, length-drop, length-set, length-replicate, drop_of_length-le}
use lib.Seq.{sets, sets-eq, length-sets, set_out, set-set, set_comm, drop-cons, take_all, take-length, take-take, take-add, take-append_seam, drop-append_seam, drop-drop, length-take-le}
use borrow.Author.Tests.{lt-ltb, le-ltb}
use borrow.Rule.Slice.PartMut.{mid_of, put_mid}
use Rattle.varint.specs.Stores.{part, fill_from, clear_from, filled}
use Rattle.varint.proofs.Basics.{below}

-- Parts

pub part_cons : (s : List ℕ) (from n : ℕ) → from < length s → 0 < n → part s from n ≡ get_or s from 0 ∷ part s (from + 1) (n - 1)
unfolding part
part_cons s from zero h p = absurd (omega arith)
part_cons s from (suc n) h p = rw (drop-cons s from 0 h, sub-one, add-one)

-- no part starts at or past the end
pub part_none : (s : List ℕ) (from n : ℕ) → n ≤ 0 → part s from n ≡ []
unfolding part
part_none s from zero h = refl
part_none s from (suc n) h = absurd (omega arith)

-- no part starts at or past the end
pub part_past : (s : List ℕ) (from n : ℕ) → length s ≤ from → part s from n ≡ []
unfolding part
part_past s from zero h = refl
part_past s from (suc n) h = rw (drop_of_length-le s h)

pub part_all : (s : List ℕ) → part s 0 (length s) ≡ s
unfolding part
part_all s = take-length s

pub length_part : (s : List ℕ) (from n : ℕ) → from + n ≤ length s → length (part s from n) ≡ n
unfolding part
length_part s from n h = length-take-le n (drop from s) (rw length-drop (omega arith))

-- a part ends where the list ends
pub part_clip : (s : List ℕ) (from n : ℕ) → part s from n ≡ part s from (min n (length s - from))
unfolding part
part_clip s from n =
    let l : length (drop from s) ≡ length s - from = length-drop from s in
    ⊎_elim
    (λ (h : n < length s - from). let e : min n (length s - from) ≡ n = omega arith in rw e)
    (λ (h : length s - from ≤ n).
    let e : min n (length s - from) ≡ length s - from = omega arith in
    let a : length (drop from s) ≤ n = omega arith in
    let b : length (drop from s) ≤ length s - from = omega arith in
    rw (e, take_all n (drop from s) a, take_all (length s - from) (drop from s) b))
    (below n (length s - from))

-- two parts in a row are one
pub part_add : (s : List ℕ) (from m n : ℕ) → part s from (m + n) ≡ part s from m ++ part s (from + m) n
unfolding part
part_add s from m n = rw (take-add m n (drop from s), drop-drop)

-- what stands between two lists
pub part_seam : (x y z : List ℕ) → part (x ++ (y ++ z)) (length x) (length y) ≡ y
unfolding part
part_seam x y z = rw (drop-append_seam x (y ++ z)) (take-append_seam y z)

-- Runs of stores

-- the element at place j of a part, and what follows it
pub part_step : (s : List ℕ) (from n j : ℕ) → from + n ≤ length s → j < n
    → part s (from + j) (n - j) ≡ get_or s (from + j) 0 ∷ part s (from + (j + 1)) (n - (j + 1))
part_step s from n j h l =
    let e : from + j + 1 ≡ from + (j + 1) = omega arith in
    let f : n - j - 1 ≡ n - (j + 1) = omega arith in
    part_cons s (from + j) (n - j) (omega arith) (omega arith) ∙ rw (e, f)

pub sets_cons : (d : List ℕ) (at : ℕ) (x : List ℕ) (a : ℕ) (y : List ℕ) → x ≡ a ∷ y → sets d at x ≡ sets (set d at a) (at + 1) y
sets_cons d at x a y e = rw (e, add-one)

-- stores past the end
pub sets_out : (x d : List ℕ) (at : ℕ) → length d ≤ at → sets d at x ≡ d
sets_out [] d at h = refl
sets_out (a ∷ x) d at h = let e : set d at a ≡ d = set_out d at a h in rw e (sets_out x d (suc at) (omega arith))

-- a run in two parts
pub sets_append : (x y d : List ℕ) (at : ℕ) → sets d at (x ++ y) ≡ sets (sets d at x) (at + length x) y
sets_append [] y d at = rw add-zero
sets_append (a ∷ x) y d at =
    let e : suc at + length x ≡ at + suc (length x) = omega arith in
    sets_append x y (set d at a) (suc at) ∙ ap (λ (k : ℕ). sets (sets (set d at a) (suc at) x) k y) e

-- a store before a run may come after it
pub sets_set : (x d : List ℕ) (at j a : ℕ) → j < at → sets (set d j a) at x ≡ set (sets d at x) j a
sets_set [] d at j a h = refl
sets_set (b ∷ x) d at j a h =
    let e : j ≢ at = omega arith in
    rw (set_comm d j at a b e) (sets_set x (set d at b) (suc at) j a (omega arith))

-- the first part of a run may be stored last
pub sets_back : (x y d : List ℕ) (at : ℕ) → sets (sets d (at + length x) y) at x ≡ sets d at (x ++ y)
sets_back [] y d at = rw add-zero
sets_back (a ∷ x) y d at =
    let e : at + suc (length x) ≡ suc at + length x = omega arith in
    rw (← sets_set y d (at + suc (length x)) at a (omega arith), e) (sets_back x y (set d at a) (suc at))

-- nothing shows of a run under one that is as long
sets_over : (y z d : List ℕ) (at : ℕ) → length y ≤ length z → sets (sets d at y) at z ≡ sets d at z
sets_over [] z d at h = refl
sets_over (a ∷ y) [] d at h = absurd (omega arith)
sets_over (a ∷ y) (b ∷ z) d at h =
    rw (← sets_set y (set d at a) (suc at) at b (omega arith), set-set) (sets_over y z (set d at b) (suc at) (omega arith))

-- a part, and over its end a later one that meets it, is the joined part
sets_join : (s d : List ℕ) (from at k n m : ℕ) → k ≤ n → n ≤ k + m → from + (k + m) ≤ length s
    → sets (sets d at (part s from n)) (at + k) (part s (from + k) m) ≡ sets d at (part s from (k + m))
sets_join s d from at k n m h l r =
    let e : n ≡ k + (n - k) = omega arith in
    let lx : length (part s from k) ≡ k = length_part s from k (omega arith) in
    let ly : length (part s (from + k) (n - k)) ≡ n - k = length_part s (from + k) (n - k) (omega arith) in
    let lz : length (part s (from + k) m) ≡ m = length_part s (from + k) m (omega arith) in
    let two : (z : List ℕ) → sets d at (part s from k ++ z) ≡ sets (sets d at (part s from k)) (at + k) z =
    λ z. sets_append (part s from k) z d at ∙ ap (λ (i : ℕ). sets (sets d at (part s from k)) (at + i) z) lx in
    let first : sets d at (part s from n) ≡ sets (sets d at (part s from k)) (at + k) (part s (from + k) (n - k)) =
    ap (λ (i : ℕ). sets d at (part s from i)) e ∙ rw part_add (two (part s (from + k) (n - k))) in
    rw first
    (sets_over (part s (from + k) (n - k)) (part s (from + k) m) (sets d at (part s from k)) (at + k) (omega arith)
    ∙ sym (rw part_add (two (part s (from + k) m))))

-- a run as far as n, and the block of w elements at its end, which meets that or lies over it
pub sets_end : (s d : List ℕ) (from at n f p w len : ℕ) {d₁ d₂ : List ℕ}
    → (f + w ≡ from + len) × (p + w ≡ at + len) × (w ≤ len) × (n ≤ len) × (len ≤ n + w) × (from + len ≤ length s)
    → d₁ ≡ sets d at (part s from n)
    → d₂ ≡ sets d₁ p (part s f w)
    → d₂ ≡ sets d at (part s from len)
sets_end s d from at n f p w len h e₁ e₂ =
    let f' : f ≡ from + (len - w) = omega arith in
    let p' : p ≡ at + (len - w) = omega arith in
    let l' : len - w + w ≡ len = omega arith in
    e₂ ∙ rw (e₁, f', p') (sets_join s d from at (len - w) n w (omega arith) (omega arith) (omega arith) ∙ rw l')

-- of a run only what lies inside is stored
pub sets_clip : (x d : List ℕ) (at n : ℕ) → length d - at ≤ n → sets d at (take n x) ≡ sets d at x
sets_clip [] d at zero h = refl
sets_clip [] d at (suc n) h = refl
sets_clip (a ∷ x) d at zero h = sym (sets_out (a ∷ x) d at (omega arith))
sets_clip (a ∷ x) d at (suc n) h = sets_clip x (set d at a) (suc at) n (rw length-set (omega arith))

part_room : (s : List ℕ) (from m : ℕ) (d : List ℕ) (at : ℕ) → sets d at (part s from (min m (length d - at))) ≡ sets d at (part s from m)
unfolding part
part_room s from m d at =
    ⊎_elim
    (λ (h : m < length d - at). let e : min m (length d - at) ≡ m = omega arith in rw e)
    (λ (h : length d - at ≤ m).
    let e : min m (length d - at) ≡ length d - at = omega arith in
    rw e
    (ap (sets d at) (sym (take-take (length d - at) m (drop from s) h)) ∙ sets_clip (take m (drop from s)) d at (length d - at) (omega arith)))
    (below m (length d - at))

-- a part that is stored, cut to what there is of it and to the room for it
pub sets_part_clip : (s : List ℕ) (from n : ℕ) (d : List ℕ) (at : ℕ)
    → sets d at (part s from (min n (min (length s - from) (length d - at)))) ≡ sets d at (part s from n)
sets_part_clip s from n d at =
    let e : min n (min (length s - from) (length d - at)) ≡ min (min n (length s - from)) (length d - at) = omega arith in
    rw (e, part_room s from (min n (length s - from)) d at) (ap (sets d at) (sym (part_clip s from n)))

-- Zeros

pub zeros_none : (n p : ℕ) → n ≤ p → replicate {A = ℕ} (n - p) 0 ≡ []
zeros_none n p h = let e : n - p ≡ 0 = omega arith in rw e refl

drop_zeros : (k n : ℕ) → drop {A = ℕ} k (replicate n 0) ≡ replicate (n - k) 0
drop_zeros zero n = rw sub-zero refl
drop_zeros (suc k) zero = let e : 0 - suc k ≡ 0 = omega arith in rw e refl
drop_zeros (suc k) (suc n) = let e : suc n - suc k ≡ n - k = omega arith in rw e (drop_zeros k n)

-- a run from the start of a cleared buffer
pub sets_zeros : (x : List ℕ) (n : ℕ) → length x ≤ n → sets (replicate n 0) 0 x ≡ x ++ replicate (n - length x) 0
sets_zeros x n h =
    let l : 0 + length x ≤ length {A = ℕ} (replicate n 0) = simp (length-replicate, zero-add) h in
    let e : 0 + length x ≡ length x = omega arith in
    sets-eq x (replicate n 0) 0 l ∙ rw (e, drop_zeros) refl

-- Cleared and filled buffers

-- to clear is to store zeros to the end
pub sets_clear : (d : List ℕ) (at : ℕ) → sets d at (replicate (length d - at) 0) ≡ clear_from d at
unfolding fill_from
sets_clear d at =
    ⊎_elim
    (λ (h : length d < at).
    let n : length d ≤ at = omega arith in
    rw (zeros_none (length d) at n, take_all at d n) (sym (append-nil d)))
    (λ (h : at ≤ length d).
    let k : length (replicate {A = ℕ} (length d - at) 0) ≡ length d - at = length-replicate (length d - at) 0 in
    let room : at + length (replicate {A = ℕ} (length d - at) 0) ≤ length d = omega arith in
    let past : length d ≤ at + length (replicate {A = ℕ} (length d - at) 0) = omega arith in
    sets-eq (replicate (length d - at) 0) d at room ∙ rw (drop_of_length-le d past) (append-nil _))
    (below (length d) at)

pub filled_fits : (d x : List ℕ) → length x ≤ length d → filled d x ≡ x ++ replicate (length d - length x) 0
unfolding filled
filled_fits d x h = rw (le-ltb (length d) (length x) h)

pub filled_not : (d x : List ℕ) → length d < length x → filled d x ≡ d
unfolding filled
filled_not d x h = rw (lt-ltb (length d) (length x) h)

-- a buffer is filled by a run from its start, and cleared behind it
pub filled_steps : (d x : List ℕ) → length x ≤ length d → clear_from (sets d 0 x) (length x) ≡ filled d x
unfolding fill_from
filled_steps d x h =
    let room : 0 + length x ≤ length d = omega arith in
    let z : 0 + length x ≡ length x = omega arith in
    let e : sets d 0 x ≡ x ++ drop (length x) d = sets-eq x d 0 room ∙ rw z refl in
    rw (length-sets, e, take-append_seam, filled_fits d x h)

-- or cleared first
pub filled_cleared : (d x : List ℕ) → length x ≤ length d → sets (clear_from d 0) 0 x ≡ filled d x
unfolding fill_from
filled_cleared d x h = rw (sub-zero, filled_fits d x h) (sets_zeros x (length d) h)

-- Stores in what lies from a place on

set_behind : (a d : List ℕ) (k v : ℕ) → set (a ++ d) (length a + k) v ≡ a ++ set d k v
set_behind [] d k v = rw zero-add
set_behind (b ∷ a) d k v = let e : suc (length a) + k ≡ suc (length a + k) = omega arith in rw e (ap (◌∷◌ b) (set_behind a d k v))

sets_behind : (x a d : List ℕ) (k : ℕ) → sets (a ++ d) (length a + k) x ≡ a ++ sets d k x
sets_behind [] a d k = refl
sets_behind (v ∷ x) a d k =
    let e : suc (length a + k) ≡ length a + suc k = omega arith in
    rw (set_behind a d k v, e) (sets_behind x a (set d k v) (suc k))

-- stores from the start of what lies from place `at` on
pub sets_part : (x d : List ℕ) (at : ℕ) → at ≤ length d → put_mid at (length d - at) d (sets (mid_of at (length d - at) d) 0 x) ≡ sets d at x
sets_part x d at h =
    let l : length (drop at d) ≡ length d - at = length-drop at d in
    let all : take (length d - at) (drop at d) ≡ drop at d = take_all (length d - at) (drop at d) (omega arith) in
    let none : drop (length d - at) (drop at d) ≡ [] = drop_of_length-le (drop at d) {i = length d - at} (omega arith) in
    let n : length (take at d) + 0 ≡ at = rw (add-zero, length-take-le at d h) in
    rw (all, none, append-nil) (sym (sets_behind x (take at d) (drop at d) 0) ∙ rw (take-append-drop, n))

-- what was stored there, put back
pub sets_from : (x d : List ℕ) (at : ℕ) {part : List ℕ} → at ≤ length d → part ≡ sets (mid_of at (length d - at) d) 0 x
    → put_mid at (length d - at) d part ≡ sets d at x
sets_from x d at h e = rw e (sets_part x d at h)

-- a list that is stored over one as long
pub copied_whole : (x z : List ℕ) (n : ℕ) → length x ≡ n → length z ≡ n → sets z 0 (part x 0 n) ≡ x
unfolding part
copied_whole x z n e f =
    let t : take n x ≡ x = take_all n x (omega arith) in
    let l : 0 + length x ≤ length z = omega arith in
    let d : drop (0 + length x) z ≡ [] = drop_of_length-le z {i = 0 + length x} (omega arith) in
    rw t (sets-eq x z 0 l ∙ rw d (append-nil x))
