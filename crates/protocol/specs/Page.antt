-- 10 page: "limit in 8 bytes, cursor length in 4, little-endian, cursor, then query; short is 1".
use Rattle.varint.specs.Utf8.{utf8, scan, lead}
use Rattle.varint.specs.Fixed.{le, get_le}
use Rattle.std.specs.Prelude.{◌≡◌, refl, List, [], ◌∷◌, ℕ, ◌+◌, ltb, length, Ok, Err}
use Rattle.varint.specs.Choice.{pick}
use Rattle.varint.specs.Got.{Got}
use Rattle.varint.specs.Formats.{Format, fixed, ◌⊗◌, named}
use Rattle.varint.specs.Gathering.{Held, held, lacks, then_held, text_held}
use Rattle.varint.specs.Stores.{part}
use Rattle.varint.specs.declared.error.Fault.TheVariants.{Texts}
use Rattle.varint.specs.declared.error.Refusal.TheVariants.{BadMessage, UnexpectedEof, BadString}
use Rattle.protocol.specs.Fields.{raw, to_end}
use Rattle.protocol.specs.Laying.{Laid, span_of}
use Rattle.protocol.specs.Pieces.{words, ◌⊕◌}
use Rattle.varint.specs.declared.text.Span.{Span}
use Rattle.protocol.specs.declared.message.Message.TheVariants as Msg

pub record Page : Type 0 where
  pub limit : ℕ
  pub cursor : List ℕ
  pub query : List ℕ

abbrev pub to_page : ℕ × (List ℕ × List ℕ) → Page
to_page c = record { limit = c.0; cursor = c.1.0; query = c.1.1 }

abbrev pub from_page : Page → ℕ × (List ℕ × List ℕ)
from_page m = (m.limit, (m.cursor, m.query))

abbrev pub page : Format Page
page =
    named to_page from_page
    (fixed 8
    ⊗ raw
    ⊗ to_end)

unfoldable pub read_page : List ℕ → Got Page
read_page s = page.read s 0

unfoldable pub lay_page : Page → Laid
lay_page m =
    record {
      message = Msg.Page m.limit (span_of 0 m.cursor) (span_of (length m.cursor) m.query);
      piece = words m.cursor ⊕ words m.query;
    }

-- "the page's cursor is kept as one but never checked for UTF-8"
unfoldable pub raw_held : List ℕ → ℕ → ℕ → Held (List ℕ)
raw_held tx start len = pick (ltb (length tx) (start + len)) (lacks (BadMessage Texts)) (held (part tx start len))

unfoldable pub held_page : ℕ → Span → Span → List ℕ → Held Page
held_page limit cursor query tx =
    then_held (raw_held tx cursor.start cursor.len)
    (λ c. then_held (text_held tx query.start query.len) (λ x. held (record { limit = limit; cursor = c; query = x })))

-- limit 5, a cursor that is no text, and the query "q"
example_read : read_page (5 ∷ 0 ∷ 0 ∷ 0 ∷ 0 ∷ 0 ∷ 0 ∷ 0 ∷ 1 ∷ 0 ∷ 0 ∷ 0 ∷ 0xFF ∷ 0x71 ∷ []) ≡ Ok (record { limit = 5; cursor = 0xFF ∷ []; query = 0x71 ∷ [] }, 14)
unfolding read_page get_le le part utf8 scan lead
example_read = refl

example_short : read_page (5 ∷ 0 ∷ 0 ∷ 0 ∷ 0 ∷ 0 ∷ 0 ∷ 0 ∷ 2 ∷ 0 ∷ 0 ∷ 0 ∷ 0xFF ∷ []) ≡ Err UnexpectedEof
unfolding read_page get_le le part
example_short = refl

-- a query must be one
example_query : read_page (5 ∷ 0 ∷ 0 ∷ 0 ∷ 0 ∷ 0 ∷ 0 ∷ 0 ∷ 0 ∷ 0 ∷ 0 ∷ 0 ∷ 0xFF ∷ []) ≡ Err BadString
unfolding read_page get_le le part utf8 scan lead
example_query = refl

-- the query stands behind the cursor in text
example_text : (lay_page (record { limit = 5; cursor = 0xFF ∷ []; query = 0x71 ∷ [] })).piece.text ≡ 0xFF ∷ 0x71 ∷ []
unfolding lay_page
example_text = refl

-- and back: the cursor need not be UTF-8
example_held : held_page 5 (record { start = 0; len = 1 }) (record { start = 1; len = 1 }) (0xFF ∷ 0x71 ∷ []) ≡ held (record { limit = 5; cursor = 0xFF ∷ []; query = 0x71 ∷ [] })
unfolding held_page raw_held text_held utf8 scan lead part
example_held = refl
