-- What the writers of a field leave: the low bytes of a number.
use mathlib.Core.Path.{◌≡◌, ap, sym, ◌∙◌}
use mathlib.Core.List.{[], ◌++◌}
use Prim.Native.Nat.{ℕ, ◌+◌, ◌-◌, ◌/◌, ◌^◌, ◌≤◌}
use native.Mathlib.Omega.{arith}
use Rattle.std.specs.Int.{w64, to_le_bytes}
use Rattle.varint.specs.Fixed.{put_le}
use Rattle.varint.specs.Stores.{part}
use Rattle.varint.proofs.Digits.{put_le_8}
use Rattle.varint.proofs.FixedLaws.{length_put_le, put_le_append}
use Rattle.varint.proofs.StoreLaws.{part_seam}

-- of 8 bytes, the least first
pub low_bytes : (n v : ℕ) → n ≤ 8 → part (to_le_bytes w64 v) 0 n ≡ put_le n v
low_bytes n v h =
    let high = put_le (8 - n) (v / 256 ^ n) in
    let e : n + (8 - n) ≡ 8 = omega arith in
    let all : to_le_bytes w64 v ≡ put_le n v ++ high = put_le_8 v ∙ ap (λ w. put_le w v) (sym e) ∙ put_le_append n (8 - n) v in
    ap (λ x. part x 0 n) all ∙ ap (part (put_le n v ++ high) 0) (sym (length_put_le n v)) ∙ part_seam [] (put_le n v) high
