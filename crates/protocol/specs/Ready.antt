-- 2 ready: "version, fingerprint, predicates".
use Rattle.varint.specs.Leb128.{read_from, get_u64}
use Rattle.std.specs.Prelude.{◌≡◌, refl, List, [], ◌∷◌, ℕ, Ok}
use Rattle.varint.specs.Got.{Got}
use Rattle.varint.specs.Formats.{Format, varint, ◌⊗◌, named}
use Rattle.protocol.specs.Laying.{Laid}
use Rattle.protocol.specs.Pieces.{none}
use Rattle.protocol.specs.Wholes.{ended, versioned}
use Rattle.protocol.specs.declared.message.Message.TheVariants as Msg

pub record Ready : Type 0 where
  pub version : ℕ
  pub fingerprint : ℕ
  pub predicates : ℕ

abbrev pub to_ready : ℕ × (ℕ × ℕ) → Ready
to_ready c = record { version = c.0; fingerprint = c.1.0; predicates = c.1.1 }

abbrev pub from_ready : Ready → ℕ × (ℕ × ℕ)
from_ready m = (m.version, (m.fingerprint, m.predicates))

abbrev pub ready : Format Ready
ready =
    named to_ready from_ready
    (varint
    ⊗ varint
    ⊗ varint)

unfoldable pub read_ready : List ℕ → Got Ready
read_ready s = versioned (λ m. m.version) (ended s (ready.read s 0))

unfoldable pub lay_ready : Ready → Laid
lay_ready m = record { message = Msg.Ready m.version m.fingerprint m.predicates; piece = none }

example_read : read_ready (4 ∷ 7 ∷ 9 ∷ []) ≡ Ok (record { version = 4; fingerprint = 7; predicates = 9 }, 3)
unfolding read_ready get_u64 read_from
example_read = refl
