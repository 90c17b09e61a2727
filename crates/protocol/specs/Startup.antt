-- 1 startup: "version, database, mode, fingerprint, count, claims (name, fingerprint)".
use Rattle.protocol.specs.declared.message.Mode.TheVariants.{ReadWrite}
use Rattle.varint.specs.Stores.{part}
use Rattle.varint.specs.Utf8.{utf8, scan, lead}
use Rattle.varint.specs.Texts.{skim_text, get_text, get_name}
use Rattle.varint.specs.Leb128.{read_from, get_u64, put_by, put_u64}
use Rattle.std.specs.Prelude.{◌≡◌, refl, List, [], ◌∷◌, ℕ, ◌+◌, length, get_or, Ok}
use Rattle.varint.specs.Got.{Got}
use Rattle.varint.specs.Formats.{Format, varint, name, ◌⊗◌, named, counted, read_times, print_all}
use Rattle.varint.specs.Gathering.{Held, held, then_held, name_held, text_held}
use Rattle.protocol.specs.Fields.{mode}
use Rattle.protocol.specs.Laying.{Laid, span_of}
use Rattle.protocol.specs.Pieces.{Piece, words, cells, ◌⊕◌, many}
use Rattle.protocol.specs.RowsHeld.{enough, held_times}
use Rattle.protocol.specs.Wholes.{ended, versioned}
use Rattle.protocol.specs.declared.message.Mode.{Mode}
use Rattle.varint.specs.declared.text.Span.{Span}
use Rattle.protocol.specs.declared.message.Message.TheVariants as Msg

-- the version of the protocol that is spoken here: `VERSION` of protocol.rs
abbrev pub spoken_version : ℕ
spoken_version = 4

pub record Claim : Type 0 where
  pub name : List ℕ
  pub fingerprint : ℕ

pub record Startup : Type 0 where
  pub version : ℕ
  pub database : List ℕ
  pub mode : Mode
  pub fingerprint : ℕ
  pub claims : List Claim

abbrev pub to_claim : List ℕ × ℕ → Claim
to_claim c = record { name = c.0; fingerprint = c.1 }

abbrev pub from_claim : Claim → List ℕ × ℕ
from_claim c = (c.name, c.fingerprint)

abbrev pub to_startup : ℕ × (List ℕ × (Mode × (ℕ × List Claim))) → Startup
to_startup c = record { version = c.0; database = c.1.0; mode = c.1.1.0; fingerprint = c.1.1.1.0; claims = c.1.1.1.1 }

abbrev pub from_startup : Startup → ℕ × (List ℕ × (Mode × (ℕ × List Claim)))
from_startup m = (m.version, (m.database, (m.mode, (m.fingerprint, m.claims))))

-- the bytes
abbrev pub claim : Format Claim
claim = named to_claim from_claim (name ⊗ varint)

abbrev pub startup : Format Startup
startup =
    named to_startup from_startup
    (varint
    ⊗ name
    ⊗ mode
    ⊗ varint
    ⊗ counted claim)

unfoldable pub read_startup : List ℕ → Got Startup
read_startup s = versioned (λ m. m.version) (ended s (startup.read s 0))

-- the memory: "claim (name start, name length, fingerprint)"
abbrev pub claim_width : ℕ
claim_width = 3

abbrev pub lay_claim : Claim → Piece
lay_claim c = cells (λ t n. t ∷ length c.name ∷ c.fingerprint ∷ []) ⊕ words c.name

unfoldable pub lay_startup : Startup → Laid
lay_startup m =
    record {
      message = Msg.Startup m.version (span_of 0 m.database) m.mode m.fingerprint (length m.claims);
      piece = words m.database ⊕ many lay_claim m.claims;
    }

-- and back: the claim whose row starts at number r
unfoldable pub held_claim : List ℕ → List ℕ → ℕ → Held Claim
held_claim tx rs r = then_held (name_held tx (get_or rs r 0) (get_or rs (r + 1) 0)) (λ x. held (record { name = x; fingerprint = get_or rs (r + 2) 0 }))

unfoldable pub held_startup : ℕ → Span → Mode → ℕ → ℕ → List ℕ → List ℕ → Held Startup
held_startup version database mode fingerprint count tx rs =
    enough claim_width count rs
    (then_held (name_held tx database.start database.len)
    (λ d. then_held (held_times (held_claim tx rs) claim_width count 0)
    (λ l. held (record { version = version; database = d; mode = mode; fingerprint = fingerprint; claims = l }))))

-- the version spoken here, database "d" to read and write, fingerprint 7, and one claim: "a" has fingerprint 5
abbrev sample : Startup
sample = record { version = spoken_version; database = 0x64 ∷ []; mode = ReadWrite; fingerprint = 7; claims = record { name = 0x61 ∷ []; fingerprint = 5 } ∷ [] }

example_read : read_startup (4 ∷ 1 ∷ 0x64 ∷ 1 ∷ 7 ∷ 1 ∷ 1 ∷ 0x61 ∷ 5 ∷ []) ≡ Ok (sample, 9)
unfolding read_startup read_times get_u64 read_from get_name get_text skim_text utf8 scan lead part
example_read = refl

example_printed : startup.print sample ≡ 4 ∷ 1 ∷ 0x64 ∷ 1 ∷ 7 ∷ 1 ∷ 1 ∷ 0x61 ∷ 5 ∷ []
unfolding print_all put_u64 put_by
example_printed = refl

-- the claim's name stands behind the database's
example_rows : (lay_startup sample).piece.rows 0 0 ≡ 1 ∷ 1 ∷ 5 ∷ []
unfolding lay_startup many
example_rows = refl

example_held : held_startup spoken_version (record { start = 0; len = 1 }) ReadWrite 7 1 (0x64 ∷ 0x61 ∷ []) (1 ∷ 1 ∷ 5 ∷ []) ≡ held sample
unfolding held_startup held_times held_claim name_held text_held utf8 scan lead part
example_held = refl
