-- The library's bytes of a number are its digits to the base 256.
use mathlib.Core.Path.{◌≡◌, sym, ◌∙◌, ap}
use mathlib.Core.List.{List}
use Prim.Native.Nat.{ℕ, ◌/◌, ◌^◌, ◌<◌}
use native.Mathlib.Omega.{arith}
use lib.ListN.{length}
use Rattle.std.specs.Int.{w32, w64, to_le_bytes, from_le_bytes}
use Rattle.std.proofs.lemmas.Nat.{le_bytes_4, le_bytes_8}
use Rattle.std.specs.Prelude.{Ok}
use Rattle.varint.specs.Fixed.{le, put_le, get_le}
use Rattle.varint.specs.Inner.Taking.{taken}
use Rattle.varint.specs.RoundTrips.{Bytes}
use Rattle.varint.proofs.FixedLaws.{le_put_le, get_le_got}

pub put_le_4 : (n : ℕ) → to_le_bytes w32 n ≡ put_le 4 n
unfolding put_le
put_le_4 n =
    let a : n / 65536 ≡ n / 256 / 256 = omega arith in
    let b : n / 16777216 ≡ n / 256 / 256 / 256 = omega arith in
    rw (a, b)

pub put_le_8 : (n : ℕ) → to_le_bytes w64 n ≡ put_le 8 n
unfolding put_le
put_le_8 n =
    let a : n / 65536 ≡ n / 256 / 256 = omega arith in
    let b : n / 16777216 ≡ n / 256 / 256 / 256 = omega arith in
    let c : n / 4294967296 ≡ n / 256 / 256 / 256 / 256 = omega arith in
    let d : n / 1099511627776 ≡ n / 256 / 256 / 256 / 256 / 256 = omega arith in
    let e : n / 281474976710656 ≡ n / 256 / 256 / 256 / 256 / 256 / 256 = omega arith in
    let f : n / 72057594037927936 ≡ n / 256 / 256 / 256 / 256 / 256 / 256 / 256 = omega arith in
    rw (a, b, c, d, e, f)

module _ (x : List ℕ) (n : ℕ) (B : Bytes x) where
  pub le_4 : length x ≡ 4 → n ≡ from_le_bytes w32 x → n < 256 ^ 4 → le x ≡ n
  le_4 e i h = ap le (sym (le_bytes_4 x n e B i) ∙ put_le_4 n) ∙ le_put_le 4 n h

  pub le_8 : length x ≡ 8 → n ≡ from_le_bytes w64 x → n < 256 ^ 8 → le x ≡ n
  le_8 e i h = ap le (sym (le_bytes_8 x n e B i) ∙ put_le_8 n) ∙ le_put_le 8 n h

  -- a field of 4 or of 8 bytes is read as the library makes a number of them
  module _ (s : List ℕ) (at q : ℕ) where
    pub got_le_4 : taken 4 s at ≡ Ok (x, q) → length x ≡ 4 → n ≡ from_le_bytes w32 x → n < 256 ^ 4 → get_le 4 s at ≡ Ok (n, q)
    got_le_4 t e i h = get_le_got 4 s at t ∙ ap (λ (v : ℕ). Ok (v, q)) (le_4 e i h)

    pub got_le_8 : taken 8 s at ≡ Ok (x, q) → length x ≡ 8 → n ≡ from_le_bytes w64 x → n < 256 ^ 8 → get_le 8 s at ≡ Ok (n, q)
    got_le_8 t e i h = get_le_got 8 s at t ∙ ap (λ (v : ℕ). Ok (v, q)) (le_8 e i h)
