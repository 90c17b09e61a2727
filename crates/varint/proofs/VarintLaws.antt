-- What is written is read back, and only what is written is read: one encoding a number.
use mathlib.Core.Bool.{◌&&◌, false, true≢false}
use mathlib.Core.Path.{◌≡◌, refl, sym, ◌∙◌, ap}
use mathlib.Core.Logic.{◌≢◌, ◌⊎◌, inl, inr, ⊎_elim}
use mathlib.Core.List.{List, [], ◌∷◌, ◌++◌}
use Prim.Native.Nat.{ℕ, zero, suc, ◌+◌, ◌-◌, ◌*◌, ◌/◌, ◌%◌, ◌^◌, ◌≤◌, ◌<◌}
use native.Mathlib.Nat.{pow-suc, mul_assoc, add-mul, one-mul, mul-one, mul_comm, zero-add, eq-zero-or-pos}
use native.Mathlib.Numerals.{add-one}
use native.Mathlib.Omega.{arith}
use lib.Dec.{ltb, eqb}
use lib.ListN.{length, take, drop, replicate, length-take, get_or-eq_default}
use lib.Seq.{drop-append_seam, take-append_seam, get_or-take, get_or-drop}
use borrow.Author.Tests.{lt-ltb, ltb-true, ltb-false, eqb-true, eqb-false}
use Rattle.varint.specs.Leb128.{read_from, get_u64, put_u64}
use Rattle.varint.specs.RoundTrips.{Bytes}
use Rattle.varint.specs.Stores.{part, filled}
use Rattle.varint.proofs.Basics.{below, pick_both, pick_cases, test}
use Rattle.varint.proofs.PutLaws.{put_small, put_big, put_length_64}
use Rattle.varint.proofs.ReadLaws.{tenth_one, last_first, last_more, more, weight_8, payload, next_weight}
use Rattle.varint.proofs.StoreLaws.{filled_fits}
use Rattle.std.specs.Prelude.{Ok, Err}
use Rattle.varint.specs.Got.{Got, got}

-- a digit and what stands above it, at any weight u
weigh : (c m u : ℕ) → c * u + m * (u * 128) ≡ (c + m * 128) * u
weigh c m u = rw (mul_comm u 128, add-mul c (m * 128) u, mul_assoc m 128 u)

value_eq : {a b c d : ℕ} → a ≡ b → c ≡ d → got a c ≡ got b d
value_eq e f = cc

-- j more bytes may follow the i bytes that are read
read_put : (j n p i v : ℕ) (rest : List ℕ) → i + j ≡ 9 → n < 2 * 128 ^ j → (i ≡ 0) ⊎ (0 < n)
    → read_from (put_u64 n ++ rest) p i v ≡ Ok (v + n * 128 ^ i, (p + length (put_u64 n)))
read_put zero n p i v rest h lt s =
    let one : n ≡ 1 = ⊎_elim (λ (z : i ≡ 0). omega arith) (λ (z : 0 < n). omega arith) s in
    let nine : i ≡ 9 = omega arith in
    let small : 1 < 128 = omega arith in
    rw (one, put_small 1 small, one-mul) (tenth_one 1 rest p i v refl nine)
read_put (suc j) n p i v rest h lt s =
    let lt' : n < 2 * (128 ^ j * 128) = rw pow-suc at lt in
    ⊎_elim
    small
    (λ (l : 128 ≤ n).
    big l (read_put j (n / 128) (p + 1) (i + 1) (v + (n % 128 + 128) % 128 * 128 ^ i) rest (omega arith) (omega arith) (inr (omega arith))))
    (below n 128)
  where
    small : n < 128 → read_from (put_u64 n ++ rest) p i v ≡ Ok (v + n * 128 ^ i, (p + length (put_u64 n)))
    small l =
        rw (put_small n l)
        (⊎_elim (λ (z : i ≡ 0). last_first n rest p i v z l) (λ (z : 0 < n). last_more n rest p i v l z (omega arith)) s)

    big : 128 ≤ n
        → read_from (put_u64 (n / 128) ++ rest) (p + 1) (i + 1) (v + (n % 128 + 128) % 128 * 128 ^ i)
        ≡ Ok ((v + (n % 128 + 128) % 128 * 128 ^ i + n / 128 * 128 ^ (i + 1)), (p + 1 + length (put_u64 (n / 128))))
        → read_from (put_u64 n ++ rest) p i v ≡ Ok (v + n * 128 ^ i, (p + length (put_u64 n)))
    big l ih =
        let d : n % 128 + n / 128 * 128 ≡ n = omega arith in
        let e : (n % 128 + 128) % 128 ≡ n % 128 = omega arith in
        let f : 128 ^ (i + 1) ≡ 128 ^ i * 128 = rw (add-one, pow-suc) in
        let g : v + (n % 128 + 128) % 128 * 128 ^ i + n / 128 * 128 ^ (i + 1) ≡ v + n * 128 ^ i =
        rw (e, f) (omega (arith, weigh (n % 128) (n / 128) (128 ^ i), ap (λ (t : ℕ). t * 128 ^ i) d)) in
        rw (put_big n l) (more _ _ p i v (omega arith) (omega arith) ∙ ih ∙ value_eq g (omega arith))

-- reading what was put, wherever it stands
pub get_put : (n : ℕ) (before rest : List ℕ) → n < 2 ^ 64
    → get_u64 (before ++ (put_u64 n ++ rest)) (length before) ≡ Ok (n, (length before + length (put_u64 n)))
unfolding get_u64
get_put n before rest h =
    rw (drop-append_seam before (put_u64 n ++ rest)) (read_put 9 n (length before) 0 0 rest refl h (inl refl) ∙ value_eq (rw (mul-one, zero-add)) refl)

pub part_bytes : (s : List ℕ) (at n : ℕ) → Bytes s → Bytes (part s at n)
unfolding part
part_bytes s at n B i =
    ⊎_elim
    (λ (h : i < n). rw (get_or-take, get_or-drop) (B (at + i)))
    (λ (h : n ≤ i).
    let k : length (take n (drop at s)) ≤ i = rw length-take (omega arith) in
    rw (get_or-eq_default (take n (drop at s)) 0 k) (omega arith))
    (below i n)

-- s begins with the bytes of m, which stands for the value n with i bytes of value v before it
record Came (s : List ℕ) (p i v n q : ℕ) : Type 0 where
  m : ℕ
  rest : List ℕ
  bytes : s ≡ put_u64 m ++ rest
  value : n ≡ v + m * 128 ^ i
  place : q ≡ p + length (put_u64 m)
  minimal : 0 < i → 0 < m

abbrev From : List ℕ → ℕ → ℕ → ℕ → Got ℕ → Type 0
From s p i v (Ok (n, q)) = Came s p i v n q
From s p i v (Err r) = Unit

last : (b : ℕ) (s : List ℕ) (p i v : ℕ) → b < 128 → (ltb 0 i && eqb b 0) ≡ false → Came (b ∷ s) p i v (v + b * 128 ^ i) (p + 1)
last b s p i v h t =
    record {
      m = b;
      rest = s;
      bytes = rw (put_small b h);
      value = refl;
      place = rw (put_small b h);
      minimal = λ z. ⊎_elim (λ (e : b ≡ 0). absurd (true≢false (sym (rw (lt-ltb 0 i z, e)) ∙ t))) (λ (k : 0 < b). k) (eq-zero-or-pos b);
    }

further : (b : ℕ) (s : List ℕ) (p i v : ℕ) → 128 ≤ b → b < 256 → (r : Got ℕ) → From s (p + 1) (i + 1) (v + b % 128 * 128 ^ i) r → From (b ∷ s) p i v r
further b s p i v h k (Err r) w = tt
further b s p i v h k (Ok (n, q)) w =
    let m : ℕ = b % 128 + w.m * 128 in
    let pos : 0 < w.m = w.minimal (omega arith) in
    let big : 128 ≤ m = omega arith in
    let e : m % 128 + 128 ≡ b = omega arith in
    let f : m / 128 ≡ w.m = omega arith in
    let g : m % 128 ≡ b % 128 = omega arith in
    let u : 128 ^ (i + 1) ≡ 128 ^ i * 128 = rw (add-one, pow-suc) in
    let put_m : put_u64 m ≡ b ∷ put_u64 w.m = put_big m big ∙ rw (e, f) in
    record {
      m = m;
      rest = w.rest;
      bytes = rw put_m (ap (λ (t : List ℕ). b ∷ t) w.bytes);
      value = w.value ∙ rw u (omega (arith, weigh (b % 128) w.m (128 ^ i)));
      place = rw put_m (omega (arith, w.place));
      minimal = λ z. omega arith;
    }

read_from_lem : (s : List ℕ) (p i v : ℕ) → Bytes s → From s p i v (read_from s p i v)
unfolding read_from
read_from_lem [] p i v h = tt
read_from_lem (b ∷ s) p i v h =
    let P : Got ℕ → Type 0 = From (b ∷ s) p i v in
    pick_cases P (eqb i 9 && ltb 1 (b % 128)) (λ _. tt)
    (λ _.
    pick_cases P (ltb b 128)
    (λ small. pick_cases P (ltb 0 i && eqb b 0) (λ _. tt) (λ t. last b s p i v (ltb-true b 128 small) t))
    (λ big.
    pick_cases P (eqb i 9) (λ _. tt)
    (λ _.
    further b s p i v (ltb-false b 128 big) (h 0) (read_from s (p + 1) (i + 1) (v + b % 128 * 128 ^ i))
    (read_from_lem s (p + 1) (i + 1) (v + b % 128 * 128 ^ i) (λ k. h (suc k))))))

came_put : (s : List ℕ) (at n next : ℕ) → Came (drop at s) at 0 0 n next → part s at (next - at) ≡ put_u64 n
unfolding part
came_put s at n next w =
    let m : n ≡ w.m = w.value ∙ rw (mul-one, zero-add) in
    let k : next - at ≡ length (put_u64 w.m) = omega (arith, w.place) in
    rw (m, k, w.bytes) (take-append_seam (put_u64 w.m) w.rest)

-- only the bytes that are put_u64 for n are read as n
pub get_unique : (s : List ℕ) (at n next : ℕ) → Bytes s → get_u64 s at ≡ Ok (n, next) → part s at (next - at) ≡ put_u64 n
unfolding get_u64
get_unique s at n next h e = came_put s at n next (rw e at (read_from_lem (drop at s) at 0 0 (λ k. rw get_or-drop (h (at + k)))))

-- What is read is below 2 ^ 64: i bytes hold less than 128 ^ i, and the tenth is 1.
abbrev Below : Got ℕ → Type 0
Below (Ok (n, next)) = n < 2 ^ 64
Below (Err r) = Unit

pub last_below : (b i v : ℕ) → i ≤ 9 → v < 128 ^ i → b < 128 → (eqb i 9 && ltb 1 (b % 128)) ≡ false → v + b * 128 ^ i < 2 ^ 64
last_below b i v hi hv hb t =
    test (eqb i 9)
    (λ e.
    let nine : i ≡ 9 = eqb-true i 9 e in
    let one : b % 128 ≤ 1 = ltb-false 1 (b % 128) (rw e at t) in
    let w : v < 128 ^ 9 = rw nine at hv in
    rw nine (omega arith))
    (λ e.
    let not : i ≢ 9 = eqb-false i 9 e in
    let h : i ≤ 8 = omega arith in
    omega (arith, payload (128 ^ i) hb, weight_8 {u = 128 ^ i} h refl))

read_below : (s : List ℕ) (p i v : ℕ) → i ≤ 9 → v < 128 ^ i → Below (read_from s p i v)
unfolding read_from
read_below [] p i v hi hv = tt
read_below (b ∷ s) p i v hi hv =
    pick_cases Below (eqb i 9 && ltb 1 (b % 128)) (λ _. tt)
    (λ t.
    pick_cases Below (ltb b 128)
    (λ small. pick_both Below (ltb 0 i && eqb b 0) tt (last_below b i v hi hv (ltb-true b 128 small) t))
    (λ _.
    pick_cases Below (eqb i 9) (λ _. tt)
    (λ e.
    let not : i ≢ 9 = eqb-false i 9 e in
    let d : b % 128 < 128 = omega arith in
    let u : 128 ^ i * 128 ≡ 128 ^ (i + 1) = next_weight i refl in
    read_below s (p + 1) (i + 1) (v + b % 128 * 128 ^ i) (omega arith) (omega (arith, payload (128 ^ i) d)))))

pub get_bound : (s : List ℕ) (at n next : ℕ) → get_u64 s at ≡ Ok (n, next) → n < 2 ^ 64
unfolding get_u64
get_bound s at n next e = rw e at (read_below (drop at s) at 0 0 (omega arith) (omega arith))

-- what is written into a buffer is read back from its start
pub get_filled : (d : List ℕ) (n : ℕ) → n < 2 ^ 64 → 10 ≤ length d → get_u64 (filled d (put_u64 n)) 0 ≡ Ok (n, (length (put_u64 n)))
get_filled d n h room =
    rw (filled_fits d (put_u64 n) (omega (arith, put_length_64 n h)))
    (get_put n [] (replicate (length d - length (put_u64 n)) 0) h ∙ value_eq refl (omega arith))
