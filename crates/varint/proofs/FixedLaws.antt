-- Laws of little-endian fields, over the width: digits to the base 256, what is written is read back, only what is written is
-- read, and a field in two halves.
use mathlib.Core.Path.{◌≡◌, refl, sym, ◌∙◌, ap}
use mathlib.Core.List.{List, [], ◌∷◌, ◌++◌}
use Prim.Native.Nat.{ℕ, zero, suc, ◌+◌, ◌-◌, ◌*◌, ◌/◌, ◌%◌, ◌^◌, ◌≤◌, ◌<◌}
use native.Mathlib.Nat.{pow-suc, one-le-pow, suc-add, mul_assoc, mul_comm, mul-one, div-one, div-div-eq-div-mul, zero-add}
use native.Mathlib.Omega.{arith}
use lib.Arith.{mod-mul}
use lib.Dec.{ltb, lit<}
use lib.ListN.{length, drop, length-append, length-drop}
use lib.Seq.{length-take-le}
use borrow.Author.Tests.{le-ltb, lt-ltb, ltb-true, ltb-false}
use Rattle.varint.specs.Fixed.{le, put_le, get_le}
use Rattle.varint.specs.RoundTrips.{Bytes}
use Rattle.varint.specs.Stores.{part}
use Rattle.varint.specs.declared.error.Refusal.{Refusal}
use Rattle.varint.specs.declared.error.Refusal.TheVariants.{UnexpectedEof}
use Rattle.varint.proofs.Basics.{pick_cases, test, never}
use Rattle.varint.specs.Inner.Taking.{taken}
use Rattle.varint.proofs.Gots.{no_got, got_of, bad_of}
use Rattle.varint.proofs.StoreLaws.{part_add, part_seam}
use Rattle.varint.proofs.VarintLaws.{part_bytes}
use Rattle.std.specs.Prelude.{Ok, Err}
use Rattle.varint.specs.Got.{Got, got}

-- Digits

pub length_put_le : (w n : ℕ) → length (put_le w n) ≡ w
unfolding put_le
length_put_le zero n = refl
length_put_le (suc w) n = ap suc (length_put_le w (n / 256))

-- a number that w digits can hold is the number of its w digits
pub le_put_le : (w n : ℕ) → n < 256 ^ w → le (put_le w n) ≡ n
unfolding le put_le
le_put_le zero n h = omega arith
le_put_le (suc w) n h =
    let k : n < 256 ^ w * 256 = rw pow-suc at h in
    rw (le_put_le w (n / 256) (omega arith)) (omega arith)

-- bytes are the digits of their number
pub put_le_le : (w : ℕ) (x : List ℕ) → Bytes x → length x ≡ w → put_le w (le x) ≡ x
unfolding le put_le
put_le_le w [] B e = rw (← e)
put_le_le w (b ∷ x) B e =
    let h = B 0 in
    let m : (b + le x * 256) % 256 ≡ b = omega arith in
    let d : (b + le x * 256) / 256 ≡ le x = omega arith in
    rw (← e, m, d, put_le_le (length x) x (λ i. B (suc i)) refl)

-- so many bytes hold a number below that power of 256
pub le_bound : (x : List ℕ) → Bytes x → le x < 256 ^ length x
unfolding le
le_bound [] B = omega arith
le_bound (b ∷ x) B = rw pow-suc (omega (arith, B 0, le_bound x (λ i. B (suc i))))

-- of digits in a row, the first are the least
pub le_append : (x y : List ℕ) → le (x ++ y) ≡ le x + le y * 256 ^ length x
unfolding le
le_append [] y = rw (mul-one, zero-add)
le_append (b ∷ x) y = rw (le_append x y, pow-suc, ← mul_assoc) (omega arith)

pub put_le_append : (v w n : ℕ) → put_le (v + w) n ≡ put_le v n ++ put_le w (n / 256 ^ v)
unfolding put_le
put_le_append zero w n = rw (zero-add, div-one)
put_le_append (suc v) w n = rw (suc-add, put_le_append v w (n / 256), div-div-eq-div-mul, pow-suc, mul_comm 256 (256 ^ v))

-- digits past the width do not show
pub put_le_mod : (w n : ℕ) → put_le w (n % 256 ^ w) ≡ put_le w n
unfolding put_le
put_le_mod zero n = refl
put_le_mod (suc w) n =
    let e : n % 256 ^ suc w ≡ n / 256 % 256 ^ w * 256 + n % 256 = rw pow-suc (mod-mul n (one-le-pow w 256 (lit< tt)) (lit< tt)) in
    let a : n % 256 ^ suc w % 256 ≡ n % 256 = omega arith in
    let b : n % 256 ^ suc w / 256 ≡ n / 256 % 256 ^ w = omega arith in
    rw (a, b, put_le_mod w (n / 256))

-- Fields

-- what a field that was read is
pub record Field (w : ℕ) (s : List ℕ) (at n next : ℕ) : Type 0 where
  pub room : w ≤ length s - at
  pub value : n ≡ le (part s at w)
  pub place : next ≡ at + w
  pub size : length (part s at w) ≡ w

part_size : (s : List ℕ) (at w : ℕ) → w ≤ length s - at → length (part s at w) ≡ w
unfolding part
part_size s at w h = length-take-le w (drop at s) (rw length-drop h)

pub get_le_value : (w : ℕ) (s : List ℕ) (at : ℕ) → w ≤ length s - at → get_le w s at ≡ Ok ((le (part s at w)), at + w)
unfolding get_le
get_le_value w s at h = rw (le-ltb (length s - at) w h)

pub get_le_short : (w : ℕ) (s : List ℕ) (at : ℕ) → length s - at < w → get_le w s at ≡ Err UnexpectedEof
unfolding get_le
get_le_short w s at h = rw (lt-ltb (length s - at) w h)

apart : {X : Type 0} {r : Refusal} {n next : ℕ} → Err r ≡ got n next → X
apart e = never cc

pub get_le_field : (w : ℕ) (s : List ℕ) (at n next : ℕ) → get_le w s at ≡ Ok (n, next) → Field w s at n next
unfolding get_le
get_le_field w s at n next e =
    pick_cases (λ (x : Got ℕ). x ≡ Ok (n, next) → Field w s at n next) (ltb (length s - at) w)
    (λ _ f. apart f)
    (λ t f.
    let h : w ≤ length s - at = ltb-false (length s - at) w t in
    let z = got_of f in
    record { room = h; value = sym z.0; place = sym z.1; size = part_size s at w h })
    e

-- a field is the number of its bytes
pub get_le_got : (w : ℕ) (s : List ℕ) (at : ℕ) {b : List ℕ} {q : ℕ} → taken w s at ≡ Ok (b, q) → get_le w s at ≡ Ok (le b, q)
unfolding get_le
get_le_got w s at {b} {q} e = test (ltb (length s - at) w) (λ t. no_got (rw t at e)) (λ t. let z = got_of (rw t at e) in rw (t, ← z.0, ← z.1))

pub get_le_bad : (w : ℕ) (s : List ℕ) (at : ℕ) {r : Refusal} → taken w s at ≡ Err r → get_le w s at ≡ Err r
unfolding get_le
get_le_bad w s at {r} e = test (ltb (length s - at) w) (λ t. let k : UnexpectedEof ≡ r = bad_of (rw t at e) in rw (t, k)) (λ t. no_got (sym (rw t at e)))

-- only a list that is too short is refused
pub get_le_refused : (w : ℕ) (s : List ℕ) (at : ℕ) (r : Refusal) → get_le w s at ≡ Err r → length s - at < w
unfolding get_le
get_le_refused w s at r e =
    pick_cases (λ (x : Got ℕ). x ≡ Err r → length s - at < w) (ltb (length s - at) w)
    (λ t f. ltb-true (length s - at) w t)
    (λ _ f. apart (sym f))
    e

pub get_le_ends : (w : ℕ) (s : List ℕ) (at n next : ℕ) → at ≤ length s → get_le w s at ≡ Ok (n, next)
    → (next ≡ at + w) × (next ≤ length s)
get_le_ends w s at n next h e = let x = get_le_field w s at n next e in (x.place, omega arith)

-- reading what was written, wherever it stands
pub get_le_put : (w n : ℕ) (before rest : List ℕ) → n < 256 ^ w
    → get_le w (before ++ (put_le w n ++ rest)) (length before) ≡ Ok (n, length before + w)
get_le_put w n before rest h =
    let l : length (put_le w n) ≡ w = length_put_le w n in
    let room : w ≤ length (before ++ (put_le w n ++ rest)) - length before = simp length-append (omega arith) in
    let e : part (before ++ (put_le w n ++ rest)) (length before) w ≡ put_le w n =
    ap (part (before ++ (put_le w n ++ rest)) (length before)) (sym l) ∙ part_seam before (put_le w n) rest in
    get_le_value w (before ++ (put_le w n ++ rest)) (length before) room
    ∙ ap (λ (m : ℕ). Ok (m, length before + w)) (ap le e ∙ le_put_le w n h)

-- Of a list of bytes only the digits of n are read as n, and w of them are below 256 ^ w.
module _ (w : ℕ) (s : List ℕ) (at n next : ℕ) (B : Bytes s) (e : get_le w s at ≡ Ok (n, next)) where
  pub get_le_unique : part s at w ≡ put_le w n
  get_le_unique = let x = get_le_field w s at n next e in rw x.value (sym (put_le_le w (part s at w) (part_bytes s at w B) x.size))

  pub get_le_bound : n < 256 ^ w
  get_le_bound = let x = get_le_field w s at n next e in rw x.value (rw x.size at (le_bound (part s at w) (part_bytes s at w B)))

-- A field in two halves: the first of v bytes, the second of w.
pub get_le_halves : (v w : ℕ) (s : List ℕ) (at a m b next : ℕ) → get_le v s at ≡ Ok (a, m) → get_le w s m ≡ Ok (b, next)
    → get_le (v + w) s at ≡ Ok (a + b * 256 ^ v, next)
get_le_halves v w s at a m b next e f =
    let x = get_le_field v s at a m e in
    let y = get_le_field w s m b next f in
    let p : at + v ≡ m = sym x.place in
    let room : v + w ≤ length s - at = omega arith in
    let q : at + (v + w) ≡ next = omega arith in
    get_le_value (v + w) s at room
    ∙ rw (part_add, p, le_append (part s at v) (part s m w), x.size, q) (rw (x.value, y.value))

-- where a half is short, the whole is
pub get_le_first_short : (v w : ℕ) (s : List ℕ) (at : ℕ) (r : Refusal) → get_le v s at ≡ Err r
    → get_le (v + w) s at ≡ Err UnexpectedEof
get_le_first_short v w s at r e = get_le_short (v + w) s at (omega (arith, get_le_refused v s at r e))

pub get_le_second_short : (v w : ℕ) (s : List ℕ) (at a m : ℕ) (r : Refusal) → get_le v s at ≡ Ok (a, m) → get_le w s m ≡ Err r
    → get_le (v + w) s at ≡ Err UnexpectedEof
get_le_second_short v w s at a m r e f =
    let x = get_le_field v s at a m e in
    get_le_short (v + w) s at (omega (arith, get_le_refused w s m r f))
