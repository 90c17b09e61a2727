-- 4 complete: "two varints".
use Rattle.varint.specs.declared.error.Refusal.TheVariants.{TrailingBytes}
use Rattle.varint.specs.Leb128.{read_from, get_u64}
use Rattle.std.specs.Prelude.{◌≡◌, refl, List, [], ◌∷◌, ℕ, Ok, Err}
use Rattle.varint.specs.Got.{Got}
use Rattle.varint.specs.Formats.{Format, varint, ◌⊗◌, named}
use Rattle.protocol.specs.Laying.{Laid}
use Rattle.protocol.specs.Pieces.{none}
use Rattle.protocol.specs.Wholes.{ended}
use Rattle.protocol.specs.declared.message.Message.TheVariants as Msg

pub record Complete : Type 0 where
  pub first : ℕ
  pub second : ℕ

abbrev pub to_complete : ℕ × ℕ → Complete
to_complete c = record { first = c.0; second = c.1 }

abbrev pub from_complete : Complete → ℕ × ℕ
from_complete m = (m.first, m.second)

abbrev pub complete : Format Complete
complete =
    named to_complete from_complete
    (varint
    ⊗ varint)

unfoldable pub read_complete : List ℕ → Got Complete
read_complete s = ended s (complete.read s 0)

unfoldable pub lay_complete : Complete → Laid
lay_complete m = record { message = Msg.Complete m.first m.second; piece = none }

example_read : read_complete (3 ∷ 0x80 ∷ 0x01 ∷ []) ≡ Ok (record { first = 3; second = 128 }, 3)
unfolding read_complete get_u64 read_from
example_read = refl

example_left : read_complete (3 ∷ 4 ∷ 5 ∷ 6 ∷ []) ≡ Err (TrailingBytes 2)
unfolding read_complete get_u64 read_from
example_left = refl
