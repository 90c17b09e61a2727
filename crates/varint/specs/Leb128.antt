-- "Public LEB128, least seven bits first, at most ten bytes."
use Rattle.std.specs.Prelude.{true, false, ◌&&◌, ◌≡◌, refl, List, [], ◌∷◌, ℕ, zero, suc, ◌+◌, ◌*◌, ◌/◌, ◌%◌, ◌^◌, ltb, eqb, drop, Ok, Err}
use Rattle.varint.specs.Choice.{pick}
use Rattle.varint.specs.declared.error.Refusal.TheVariants.{UnexpectedEof, VarintOverflow, VarintNotMinimal}
use Rattle.varint.specs.Got.{Got}

-- The bytes s stand at place p, after i bytes of a varint whose value is v so far.
-- "A tenth byte with payload above 1 is 2, tested before 3; a last byte of payload 0 after the first is 3;
-- ten continued bytes are 2, fewer 1."
unfoldable pub read_from : List ℕ → ℕ → ℕ → ℕ → Got ℕ
read_from [] p i v = Err UnexpectedEof
read_from (b ∷ s) p i v =
    pick (eqb i 9 && ltb 1 (b % 128))
    (Err VarintOverflow)
    (pick (ltb b 128)
    (pick (ltb 0 i && eqb b 0) (Err VarintNotMinimal) (Ok (v + b * 128 ^ i, p + 1)))
    (pick (eqb i 9) (Err VarintOverflow) (read_from s (p + 1) (i + 1) (v + b % 128 * 128 ^ i))))

-- the varint at place `at` of s
unfoldable pub get_u64 : List ℕ → ℕ → Got ℕ
get_u64 s at = read_from (drop at s) at 0 0

-- The bytes of n, by at most so many divisions by 128.
unfoldable pub put_by : ℕ → ℕ → List ℕ
put_by zero n = n ∷ []
put_by (suc f) n = elim (ltb n 128) [ true ↦ n ∷ [] | false ↦ (n % 128 + 128) ∷ put_by f (n / 128) ]

-- the varint of n: n divisions are always enough
unfoldable pub put_u64 : ℕ → List ℕ
put_u64 n = put_by n n

-- the DWARF standard's table of unsigned LEB128 has 12857, and Wikipedia's worked example is 624485
example_12857 : put_u64 12857 ≡ 0xB9 ∷ 0x64 ∷ []
unfolding put_u64 put_by
example_12857 = refl

example_624485 : get_u64 (0xFF ∷ 0xE5 ∷ 0x8E ∷ 0x26 ∷ []) 1 ≡ Ok (624485, 4)
unfolding get_u64 read_from
example_624485 = refl

example_largest : put_u64 18446744073709551615 ≡ 0xFF ∷ 0xFF ∷ 0xFF ∷ 0xFF ∷ 0xFF ∷ 0xFF ∷ 0xFF ∷ 0xFF ∷ 0xFF ∷ 1 ∷ []
unfolding put_u64 put_by
example_largest = refl
