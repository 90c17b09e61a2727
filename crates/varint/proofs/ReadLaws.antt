-- Laws of reading a varint: a byte of each kind, sizes, and where a varint ends.
use mathlib.Core.Bool.{false, ◌&&◌, and-false}
use mathlib.Core.Logic.{⊎_elim}
use mathlib.Core.Path.{◌≡◌, refl, sym, ◌∙◌, ap}
use mathlib.Core.List.{List, [], ◌∷◌, ◌++◌}
use Prim.Native.Nat.{ℕ, suc, ◌+◌, ◌-◌, ◌*◌, ◌%◌, ◌^◌, ◌≤◌, ◌<◌}
use native.Mathlib.Nat.{zero-add, pow-le-pow_right, pow-suc, suc-mul, mul-le-mul_right}
use native.Mathlib.Numerals.{add-one}
use native.Mathlib.Omega.{arith}
use lib.Dec.{ltb, eqb, lit<}
use lib.ListN.{length, get_or, take, drop, drop_of_length-le, length-drop, take-append-drop}
use lib.Seq.{drop-cons}
use borrow.Author.Tests.{lt-ltb, le-ltb, ne_eqb}
use Rattle.varint.specs.Leb128.{read_from, get_u64}
use Rattle.varint.specs.declared.error.Refusal.TheVariants.{UnexpectedEof, VarintOverflow, VarintNotMinimal}
use Rattle.varint.proofs.Basics.{pick_same, pick_both, pick_two, below}
use Rattle.std.specs.Prelude.{Ok, Err}
use Rattle.varint.specs.Got.{Got}

-- A byte of each kind, as one equation each: what a proof of the reader cites.
module _ (b : ℕ) (s : List ℕ) (p i v : ℕ) where
  -- the tenth byte
  pub tenth_zero : b ≡ 0 → i ≡ 9 → read_from (b ∷ s) p i v ≡ Err VarintNotMinimal
  unfolding read_from
  tenth_zero hb hi = rw (hb, hi)

  pub tenth_one : b ≡ 1 → i ≡ 9 → read_from (b ∷ s) p i v ≡ Ok (v + 128 ^ i, p + 1)
  unfolding read_from
  tenth_one hb hi = rw (hb, hi)

  pub tenth_more : b < 256 → 1 < b → i ≡ 9 → read_from (b ∷ s) p i v ≡ Err VarintOverflow
  unfolding read_from
  tenth_more h hb hi =
      rw hi
      (⊎_elim
      (λ (l : b < 128). simp (lt-ltb 1 (b % 128) (omega arith)))
      (λ (l : 128 ≤ b). simp (le-ltb b 128 l, pick_same))
      (below b 128))

  -- a byte before the tenth
  pub last_zero : b ≡ 0 → 0 < i → i < 9 → read_from (b ∷ s) p i v ≡ Err VarintNotMinimal
  unfolding read_from
  last_zero hb hi h9 = rw hb (simp (ne_eqb i 9 (omega arith), lt-ltb 0 i hi))

  pub last_first : i ≡ 0 → b < 128 → read_from (b ∷ s) p i v ≡ Ok (v + b * 128 ^ i, p + 1)
  unfolding read_from
  last_first hi hb = rw hi (simp (lt-ltb b 128 hb))

  pub last_more : b < 128 → 0 < b → i < 9 → read_from (b ∷ s) p i v ≡ Ok (v + b * 128 ^ i, p + 1)
  unfolding read_from
  last_more hb h0 h9 = simp (ne_eqb i 9 (omega arith), lt-ltb b 128 hb, ne_eqb b 0 (omega arith), and-false)

  pub more : 128 ≤ b → i < 9 → read_from (b ∷ s) p i v ≡ read_from s (p + 1) (i + 1) (v + b % 128 * 128 ^ i)
  unfolding read_from
  more hb h9 = simp (ne_eqb i 9 (omega arith), le-ltb b 128 hb)

  -- a last byte, by the tests themselves
  pub end_value : b < 128 → (ltb 0 i && eqb b 0) ≡ false → (eqb i 9 && ltb 1 b) ≡ false → read_from (b ∷ s) p i v ≡ Ok (v + b * 128 ^ i, p + 1)
  unfolding read_from
  end_value h t u = let e : b % 128 ≡ b = omega arith in simp (e, lt-ltb b 128 h, t, u)

-- the byte at place p is read first
pub read_at : (s : List ℕ) (p i v : ℕ) → p < length s → read_from (drop p s) p i v ≡ read_from (get_or s p 0 ∷ drop (p + 1) s) p i v
read_at s p i v h = rw (add-one, drop-cons s p 0)

-- a varint of one byte
pub get_one : (s : List ℕ) (at : ℕ) {b : ℕ} → at < length s → b ≡ get_or s at 0 → b < 128 → get_u64 s at ≡ Ok (b, at + 1)
unfolding get_u64
get_one s at {b} h e l =
    read_at s at 0 0 h ∙ rw (← e) (last_first b (drop (at + 1) s) at 0 0 refl l ∙ ap (λ (v : ℕ). Ok (v, at + 1)) (omega arith))

-- a byte that is not the last, and one that is, of those in between
module _ (s : List ℕ) (p i v : ℕ) {b : ℕ} (h : p < length s) (e : b ≡ get_or s p 0) where
  read_on : 128 ≤ b → b < 256 → i < 9 → read_from (drop p s) p i v ≡ read_from (drop (p + 1) s) (p + 1) (i + 1) (v + (b - 128) * 128 ^ i)
  read_on l u h9 =
      let m : b % 128 ≡ b - 128 = omega arith in
      rw (← m) (read_at s p i v h ∙ rw (← e) (more b (drop (p + 1) s) p i v l h9))

  read_last : b < 128 → 0 < b → i < 9 → read_from (drop p s) p i v ≡ Ok (v + b * 128 ^ i, p + 1)
  read_last l u h9 = read_at s p i v h ∙ rw (← e) (last_more b (drop (p + 1) s) p i v l u h9)

-- a varint of two bytes or three
module _ (s : List ℕ) (at : ℕ) {b c : ℕ} (h : at + 3 ≤ length s) (eb : b ≡ get_or s at 0) (lb : 128 ≤ b) (ub : b < 256) (ec : c ≡ get_or s (at + 1) 0) where
  first : get_u64 s at ≡ read_from (drop (at + 1) s) (at + 1) 1 (0 + (b - 128) * 128 ^ 0)
  unfolding get_u64
  first = read_on s at 0 0 (omega arith) eb lb ub (lit< tt)

  pub get_two : c < 128 → 0 < c → get_u64 s at ≡ Ok (b - 128 + c * 128, at + 2)
  get_two l u =
      first
      ∙ read_last s (at + 1) 1 (0 + (b - 128) * 128 ^ 0) (omega arith) ec l u (lit< tt)
      ∙ ap (λ (v : ℕ). Ok (v, at + 1 + 1)) (omega arith)
      ∙ ap (λ (q : ℕ). Ok (b - 128 + c * 128, q)) (omega arith)

  pub get_three : {d : ℕ} → 128 ≤ c → c < 256 → d ≡ get_or s (at + 2) 0 → d < 128 → 0 < d
      → get_u64 s at ≡ Ok ((b - 128 + (c - 128) * 128 + d * 16384), at + 3)
  get_three {d} l u ed ld ud =
      let v₁ = 0 + (b - 128) * 128 ^ 0 in
      let v₂ = v₁ + (c - 128) * 128 ^ 1 in
      let ed' : d ≡ get_or s (at + 1 + 1) 0 = ed ∙ ap (λ (q : ℕ). get_or s q 0) (omega arith) in
      first
      ∙ read_on s (at + 1) 1 v₁ (omega arith) ec l u (lit< tt)
      ∙ read_last s (at + 1 + 1) 2 v₂ (omega arith) ed' ld ud (lit< tt)
      ∙ ap (λ (v : ℕ). Ok (v, at + 1 + 1 + 1)) (omega arith)
      ∙ ap (λ (q : ℕ). Ok ((b - 128 + (c - 128) * 128 + d * 16384), q)) (omega arith)

pub read_end : (s : List ℕ) (p i v : ℕ) → length s ≤ p → read_from (drop p s) p i v ≡ Err UnexpectedEof
unfolding read_from
read_end s p i v h = rw (drop_of_length-le s h)

-- sizes: the weight of a byte before the tenth, and a payload at a weight
pub weight_8 : {i u : ℕ} → i ≤ 8 → u ≡ 128 ^ i → u ≤ 72057594037927936
weight_8 h e = rw e (pow-le-pow_right {n = 128} (lit< tt) h)

pub payload : {b : ℕ} (u : ℕ) → b < 128 → b * u + u ≤ 128 * u
payload {b} u h = rw (← suc-mul b u) (mul-le-mul_right u h)

pub next_weight : (i : ℕ) {u : ℕ} → u ≡ 128 ^ i → u * 128 ≡ 128 ^ (i + 1)
next_weight i e = rw (add-one, pow-suc, e)

-- where a varint ends: past the place lo, and at most at hi
abbrev pub Ends : ℕ → ℕ → Got ℕ → Type 0
Ends lo hi (Ok (n, next)) = (lo < next) × (next ≤ hi)
Ends lo hi (Err r) = Unit

read_ends : (x : List ℕ) (p lo i v : ℕ) → lo ≤ p → Ends lo (p + length x) (read_from x p i v)
unfolding read_from
read_ends [] p lo i v h = tt
read_ends (b ∷ s) p lo i v h =
    let P : Got ℕ → Type 0 = Ends lo (p + suc (length s)) in
    let e : p + 1 + length s ≡ p + suc (length s) = omega arith in
    let ih : P (read_from s (p + 1) (i + 1) (v + b % 128 * 128 ^ i)) = rw e at (read_ends s (p + 1) lo (i + 1) (v + b % 128 * 128 ^ i) (omega arith)) in
    pick_both P (eqb i 9 && ltb 1 (b % 128)) tt
    (pick_both P (ltb b 128) (pick_both P (ltb 0 i && eqb b 0) tt (omega arith, omega arith)) (pick_both P (eqb i 9) tt ih))

-- the same varint further on, with more bytes behind it
abbrev Moved : ℕ → Got ℕ → Got ℕ → Type 0
Moved d (Ok (n, next)) y = y ≡ Ok (n, next + d)
Moved d (Err r) y = Unit

read_moved : (b r : List ℕ) (p d i v : ℕ) → Moved d (read_from b p i v) (read_from (b ++ r) (p + d) i v)
unfolding read_from
read_moved [] r p d i v = tt
read_moved (b ∷ s) r p d i v =
    let P : Got ℕ → Got ℕ → Type 0 = Moved d in
    let e : p + 1 + d ≡ p + d + 1 = omega arith in
    let w : ℕ = v + b % 128 * 128 ^ i in
    let ih : P (read_from s (p + 1) (i + 1) w) (read_from (s ++ r) (p + d + 1) (i + 1) w) = rw e at (read_moved s r (p + 1) d (i + 1) w) in
    pick_two P (eqb i 9 && ltb 1 (b % 128)) tt
    (pick_two P (ltb b 128) (pick_two P (ltb 0 i && eqb b 0) tt (ap (λ (q : ℕ). Ok (v + b * 128 ^ i, q)) (sym e))) (pick_two P (eqb i 9) tt ih))

-- a varint that is read from some bytes alone is read where they stand
pub get_inside : (s b : List ℕ) (at m : ℕ) {n v : ℕ} → b ≡ take m (drop at s) → get_u64 b 0 ≡ Ok (v, n) → get_u64 s at ≡ Ok (v, at + n)
unfolding get_u64
get_inside s b at m {n} {v} e h =
    let whole : b ++ drop m (drop at s) ≡ drop at s = rw e (take-append-drop m (drop at s)) in
    let moved : Moved at (get_u64 b 0) (read_from (b ++ drop m (drop at s)) (0 + at) 0 0) = read_moved b (drop m (drop at s)) 0 at 0 0 in
    let f : n + at ≡ at + n = omega arith in
    rw (h, whole, zero-add, f) at moved

pub get_ends : (s : List ℕ) (at : ℕ) → Ends at (length s) (get_u64 s at)
unfolding get_u64 read_from
get_ends s at =
    ⊎_elim
    (λ (h : at < length s).
    let e : at + length (drop at s) ≡ length s = rw length-drop (omega arith) in
    rw e at (read_ends (drop at s) at at 0 0 (omega arith)))
    (λ (h : length s ≤ at). rw (drop_of_length-le s h) tt)
    (below at (length s))
