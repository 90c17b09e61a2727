-- "`zigzag`: v to 2v, or to −2v−1 when negative."
use Rattle.std.specs.Prelude.{◌≡◌, refl, List, [], ◌∷◌, ℕ, ◌+◌, ◌*◌, ◌/◌, ◌%◌, eqb, ℤ, pos, negsuc, Ok, Err}
use Rattle.varint.specs.Choice.{pick}
use Rattle.varint.specs.Leb128.{get_u64, read_from, put_u64, put_by}
use Rattle.varint.specs.Stores.{filled}
use Rattle.varint.specs.Got.{Got}

-- `negsuc n` is −n − 1, so that −2v − 1 is 2n + 1
unfoldable pub zig : ℤ → ℕ
zig (pos n) = n * 2
zig (negsuc n) = n * 2 + 1

unfoldable pub unzig : ℕ → ℤ
unzig u = pick (eqb (u % 2) 0) (pos (u / 2)) (negsuc (u / 2))

abbrev pub signed_of : Got ℕ → Got ℤ
signed_of (Ok (n, next)) = Ok (unzig n, next)
signed_of (Err r) = Err r

-- the zigzag varint at place `at` of s
abbrev pub get_i64 : List ℕ → ℕ → Got ℤ
get_i64 s at = signed_of (get_u64 s at)

example_minus_one : zig (negsuc 0) ≡ 1
unfolding zig
example_minus_one = refl

example_one : zig (pos 1) ≡ 2
unfolding zig
example_one = refl

-- 300, of varint.rs's own table: D8 04
example_300 : get_i64 (0xD8 ∷ 0x04 ∷ []) 0 ≡ Ok (pos 300, 2)
unfolding get_u64 read_from unzig
example_300 = refl

-- "A varint written alone follows 16(5) too.": the same number in a buffer of three bytes
example_alone : filled (9 ∷ 9 ∷ 9 ∷ []) (put_u64 (zig (pos 300))) ≡ 0xD8 ∷ 0x04 ∷ 0 ∷ []
unfolding filled put_u64 put_by zig
example_alone = refl
