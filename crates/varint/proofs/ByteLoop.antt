-- The loop that reads a varint byte by byte.
use mathlib.Core.Bool.{false, ◌&&◌}
use mathlib.Core.Path.{◌≡◌, refl, ◌∙◌}
use mathlib.Core.List.{List, ◌∷◌}
use Prim.Native.Nat.{ℕ, ◌+◌, ◌-◌, ◌*◌, ◌%◌, ◌^◌, ◌≤◌, ◌<◌}
use native.Mathlib.Omega.{arith}
use lib.Dec.{ltb, eqb}
use lib.ListN.{length, get_or, drop}
use Rattle.varint.specs.Leb128.{read_from, get_u64}
use Rattle.varint.proofs.ReadLaws.{more, end_value, read_at, weight_8, payload, next_weight}
use Rattle.std.specs.Prelude.{Ok}

-- After i bytes of the varint at place `at` the loop is at place p: their value, and the weight of the next byte.
pub record Going (s : List ℕ) (at value unit i p : ℕ) : Type 0 where
  pub nine : i ≤ 9
  pub same : get_u64 s at ≡ read_from (drop p s) p i value
  pub power : unit ≡ 128 ^ i
  pub low : value < unit

pub going_start : (s : List ℕ) (at : ℕ) → Going s at 0 1 0 at
unfolding get_u64
going_start s at = record { nine = omega arith; same = refl; power = refl; low = omega arith }

module _ {s : List ℕ} {at value unit i p : ℕ} (g : Going s at value unit i p) where
  -- what a payload adds, before the tenth byte
  pub going_fits : (x : ℕ) → x < 128 → (i ≡ 9 → ⊥) → (value + x * unit < unit * 128) × (unit * 128 ≤ 9223372036854775808)
  going_fits x h n =
      let i8 : i ≤ 8 = omega (arith, g.nine) in
      omega (arith, g.low, weight_8 i8 g.power, payload unit h)

  -- the answer is the reader's with the byte at place p first
  pub going_at : p < length s → {b : ℕ} → b ≡ get_or s p 0 → get_u64 s at ≡ read_from (b ∷ drop (p + 1) s) p i value
  going_at h e = g.same ∙ read_at s p i value h ∙ rw e

  -- a last byte that is not refused
  pub going_last : p < length s → {b : ℕ} → b ≡ get_or s p 0 → b < 128 → (ltb 0 i && eqb b 0) ≡ false → (eqb i 9 && ltb 1 b) ≡ false
      → get_u64 s at ≡ Ok (value + b * unit, p + 1)
  going_last h {b} e small t u = going_at h e ∙ end_value b (drop (p + 1) s) p i value small t u ∙ rw g.power

  -- past a byte that is not the last
  pub going_more : p < length s → {b : ℕ} → b ≡ get_or s p 0 → b < 256 → 128 ≤ b → (i ≡ 9 → ⊥)
      → Going s at (value + (b - 128) * unit) (unit * 128) (i + 1) (p + 1)
  going_more h {b} e byte big n =
      let d : b - 128 < 128 = omega arith in
      let m : b % 128 ≡ b - 128 = omega arith in
      let i9 : i < 9 = omega (arith, g.nine) in
      record {
        nine = omega arith;
        same = going_at h e ∙ more b (drop (p + 1) s) p i value big i9 ∙ rw (m, g.power);
        power = next_weight i g.power;
        low = (going_fits (b - 128) d n).0;
      }
