-- Little-endian fields: "limit in 8 bytes, cursor length in 4, little-endian", "stream and length of 4 bytes little-endian".
-- One definition for every width.
use Rattle.std.specs.Prelude.{◌≡◌, refl, List, [], ◌∷◌, ℕ, zero, suc, ◌+◌, ◌-◌, ◌*◌, ◌/◌, ◌%◌, ltb, length, Ok, Err}
use Rattle.varint.specs.Choice.{pick}
use Rattle.varint.specs.Stores.{part}
use Rattle.varint.specs.declared.error.Refusal.TheVariants.{UnexpectedEof}
use Rattle.varint.specs.Got.{Got}

-- the number whose digits to the base 256 are these bytes, the least first
unfoldable pub le : List ℕ → ℕ
le [] = 0
le (b ∷ s) = b + le s * 256

-- the w least such digits of n
unfoldable pub put_le : ℕ → ℕ → List ℕ
put_le zero n = []
put_le (suc w) n = n % 256 ∷ put_le w (n / 256)

-- The field of w bytes at place `at` of s; "short is 1".
unfoldable pub get_le : ℕ → List ℕ → ℕ → Got ℕ
get_le w s at = pick (ltb (length s - at) w) (Err UnexpectedEof) (Ok (le (part s at w), at + w))

example_put : put_le 4 305419896 ≡ 0x78 ∷ 0x56 ∷ 0x34 ∷ 0x12 ∷ []
unfolding put_le
example_put = refl

example_get : get_le 4 (0xFF ∷ 0x78 ∷ 0x56 ∷ 0x34 ∷ 0x12 ∷ []) 1 ≡ Ok (305419896, 5)
unfolding get_le le part
example_get = refl

example_short : get_le 4 (1 ∷ 2 ∷ 3 ∷ []) 0 ≡ Err UnexpectedEof
unfolding get_le
example_short = refl
