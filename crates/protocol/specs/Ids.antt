-- 5 ids: "count, raw ids; bytes after ignored".
use Rattle.varint.specs.Leb128.{read_from, get_u64}
use Rattle.std.specs.Prelude.{◌≡◌, refl, List, [], ◌∷◌, ℕ, length, get_or, Ok}
use Rattle.varint.specs.Got.{Got}
use Rattle.varint.specs.Formats.{Format, varint, counted, read_times}
use Rattle.varint.specs.Gathering.{Held, held}
use Rattle.protocol.specs.Laying.{Laid}
use Rattle.protocol.specs.Pieces.{Piece, cells, many}
use Rattle.protocol.specs.RowsHeld.{enough, held_times}
use Rattle.protocol.specs.declared.message.Message.TheVariants as Msg

abbrev pub ids : Format (List ℕ)
ids = counted varint

unfoldable pub read_ids : List ℕ → Got (List ℕ)
read_ids s = ids.read s 0

-- "id (raw id)"
abbrev pub id_width : ℕ
id_width = 1

abbrev pub lay_id : ℕ → Piece
lay_id i = cells (λ t n. i ∷ [])

unfoldable pub lay_ids : List ℕ → Laid
lay_ids l = record { message = Msg.Ids (length l); piece = many lay_id l }

-- the id whose row starts at number r
abbrev pub held_id : List ℕ → ℕ → Held ℕ
held_id rs r = held (get_or rs r 0)

unfoldable pub held_ids : ℕ → List ℕ → Held (List ℕ)
held_ids count rs = enough id_width count rs (held_times (held_id rs) id_width count 0)

-- what follows the ids is ignored
example_read : read_ids (2 ∷ 5 ∷ 6 ∷ 0xFF ∷ []) ≡ Ok (5 ∷ 6 ∷ [], 3)
unfolding read_ids read_times get_u64 read_from
example_read = refl

example_rows : (lay_ids (5 ∷ 6 ∷ [])).piece.rows 0 0 ≡ 5 ∷ 6 ∷ []
unfolding lay_ids many
example_rows = refl

example_held : held_ids 2 (5 ∷ 6 ∷ 9 ∷ []) ≡ held (5 ∷ 6 ∷ [])
unfolding held_ids held_times
example_held = refl
