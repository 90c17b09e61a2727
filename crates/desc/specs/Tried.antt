-- "Bytes to try": the lines about descriptors, behind those of the layer below.
use Rattle.std.specs.Prelude.{List, [], ◌∷◌, ◌++◌, ℕ, Ok, Err}
use Rattle.varint.specs.Got.{Got}
use Rattle.varint.specs.Tried.{Line, refused_in, varint_lines}
use Rattle.desc.specs.Layout.{placed, nodes_of}
use Rattle.desc.specs.Reading.{desc}
use Rattle.desc.specs.Trees.{Tree}

-- an answer in numbers: a refusal; or 0, the bytes used, and the nodes
abbrev pub desc_in : Got (Tree (List ℕ)) → List ℕ
desc_in (Ok (tr, next)) = 0 ∷ next ∷ nodes_of (placed tr 0) 0 (0, 0) 0
desc_in (Err r) = refused_in r

abbrev pub desc_line : List ℕ → List ℕ → Line
desc_line bytes answer = record { reader = λ s. desc_in (desc 64 64 s 0); bytes = bytes; answer = answer }

unfoldable pub own_lines : List Line
own_lines =
    -- `03 00` empty record
    desc_line (0x03 ∷ 0x00 ∷ []) (0 ∷ 2 ∷ 3 ∷ 0 ∷ 0 ∷ 0 ∷ 0 ∷ 0 ∷ 1 ∷ [])
    -- `03 05 00` is 5(5, 3)
    ∷ desc_line (0x03 ∷ 0x05 ∷ 0x00 ∷ []) (5 ∷ 5 ∷ 3 ∷ [])
    -- `03 03 00` is 1
    ∷ desc_line (0x03 ∷ 0x03 ∷ 0x00 ∷ []) (1 ∷ 0 ∷ 0 ∷ [])
    -- `03 01`, nine FF, 01 is 5(2^64−1, 0)
    ∷ desc_line (0x03 ∷ 0x01 ∷ 0xFF ∷ 0xFF ∷ 0xFF ∷ 0xFF ∷ 0xFF ∷ 0xFF ∷ 0xFF ∷ 0xFF ∷ 0xFF ∷ 0x01 ∷ []) (5 ∷ 18446744073709551615 ∷ 0 ∷ [])
    ∷ []

abbrev pub desc_lines : List Line
desc_lines = varint_lines ++ own_lines
