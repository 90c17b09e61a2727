-- "Bytes to try, * in the proved table". A line of the table is a reader, the bytes that it is given, and what it must answer, in
-- numbers. Each layer adds its lines to those of the layer below, so that there is one table in the end.
use Rattle.std.specs.Prelude.{◌≡◌, List, [], ◌∷◌, ℕ, Ok, Err}
use Rattle.varint.specs.Leb128.{get_u64}
use Rattle.varint.specs.Refusals.{code_of}
use Rattle.varint.specs.declared.error.Refusal.{Refusal}
use Rattle.varint.specs.Got.{Got}

pub record Line : Type 0 where
  pub reader : List ℕ → List ℕ
  pub bytes : List ℕ
  pub answer : List ℕ

-- every line of a table holds
abbrev pub Holds : List Line → Type 0
Holds [] = Unit
Holds (l ∷ ls) = (l.reader l.bytes ≡ l.answer) × Holds ls

-- an answer in numbers: a refusal's number and details
abbrev pub refused_in : Refusal → List ℕ
refused_in r = (code_of r).number ∷ (code_of r).a ∷ (code_of r).b ∷ []

-- or 0, the value and the place after it
abbrev pub varint_in : Got ℕ → List ℕ
varint_in (Ok (n, next)) = 0 ∷ n ∷ next ∷ []
varint_in (Err r) = refused_in r

abbrev pub varint_line : List ℕ → List ℕ → Line
varint_line bytes answer = record { reader = λ s. varint_in (get_u64 s 0); bytes = bytes; answer = answer }

unfoldable pub varint_lines : List Line
varint_lines =
    -- `00` is 0
    varint_line (0x00 ∷ []) (0 ∷ 0 ∷ 1 ∷ [])
    -- `80 01` is 128
    ∷ varint_line (0x80 ∷ 0x01 ∷ []) (0 ∷ 128 ∷ 2 ∷ [])
    -- `80 00` is 3
    ∷ varint_line (0x80 ∷ 0x00 ∷ []) (3 ∷ 0 ∷ 0 ∷ [])
    -- nine FF, 01 is 2^64−1
    ∷ varint_line (0xFF ∷ 0xFF ∷ 0xFF ∷ 0xFF ∷ 0xFF ∷ 0xFF ∷ 0xFF ∷ 0xFF ∷ 0xFF ∷ 0x01 ∷ []) (0 ∷ 18446744073709551615 ∷ 10 ∷ [])
    -- nine FF, 02 is 2
    ∷ varint_line (0xFF ∷ 0xFF ∷ 0xFF ∷ 0xFF ∷ 0xFF ∷ 0xFF ∷ 0xFF ∷ 0xFF ∷ 0xFF ∷ 0x02 ∷ []) (2 ∷ 0 ∷ 0 ∷ [])
    -- nine 80 are 1
    ∷ varint_line (0x80 ∷ 0x80 ∷ 0x80 ∷ 0x80 ∷ 0x80 ∷ 0x80 ∷ 0x80 ∷ 0x80 ∷ 0x80 ∷ []) (1 ∷ 0 ∷ 0 ∷ [])
    ∷ []
