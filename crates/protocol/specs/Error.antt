-- 3 error: "code, text; bytes after ignored".
use Rattle.varint.specs.declared.error.Refusal.TheVariants.{TypeMismatch}
use Rattle.protocol.specs.declared.message.ErrorCode.TheVariants.{UnknownDatabase}
use Rattle.varint.specs.Stores.{part}
use Rattle.varint.specs.Utf8.{utf8, scan, lead}
use Rattle.varint.specs.Texts.{skim_text, get_text, span}
use Rattle.varint.specs.Leb128.{read_from, get_u64}
use Rattle.std.specs.Prelude.{◌≡◌, refl, List, [], ◌∷◌, ℕ, Ok, Err}
use Rattle.varint.specs.Got.{Got}
use Rattle.varint.specs.Formats.{Format, text, ◌⊗◌, named}
use Rattle.varint.specs.Gathering.{Held, held, then_held, text_held}
use Rattle.varint.specs.declared.error.Mismatch.TheVariants as M
use Rattle.protocol.specs.Fields.{error_code}
use Rattle.protocol.specs.Laying.{Laid, span_of}
use Rattle.protocol.specs.Pieces.{words}
use Rattle.protocol.specs.declared.message.ErrorCode.{ErrorCode}
use Rattle.varint.specs.declared.text.Span.{Span}
use Rattle.protocol.specs.declared.message.Message.TheVariants as Msg

pub record Error : Type 0 where
  pub code : ErrorCode
  pub text : List ℕ

abbrev pub to_error : ErrorCode × List ℕ → Error
to_error c = record { code = c.0; text = c.1 }

abbrev pub from_error : Error → ErrorCode × List ℕ
from_error m = (m.code, m.text)

abbrev pub error : Format Error
error =
    named to_error from_error
    (error_code
    ⊗ text)

unfoldable pub read_error : List ℕ → Got Error
read_error s = error.read s 0

unfoldable pub lay_error : Error → Laid
lay_error m = record { message = Msg.Error m.code (span_of 0 m.text); piece = words m.text }

unfoldable pub held_error : ErrorCode → Span → List ℕ → Held Error
held_error code span tx = then_held (text_held tx span.start span.len) (λ x. held (record { code = code; text = x }))

-- what follows the text is ignored
example_read : read_error (2 ∷ 1 ∷ 0x61 ∷ 0xFF ∷ []) ≡ Ok (record { code = UnknownDatabase; text = 0x61 ∷ [] }, 3)
unfolding read_error get_u64 read_from get_text skim_text utf8 scan lead part
example_read = refl

example_unknown : read_error (12 ∷ []) ≡ Err (TypeMismatch M.ErrorCode)
unfolding read_error
example_unknown = refl

-- it has one text, from the start of text on
example_laid : lay_error (record { code = UnknownDatabase; text = 0x61 ∷ [] }) ≡ record { message = Msg.Error UnknownDatabase (record { start = 0; len = 1 }); piece = words (0x61 ∷ []) }
unfolding lay_error
example_laid = refl

-- and back from anywhere in text
example_held : held_error UnknownDatabase (record { start = 1; len = 1 }) (0x62 ∷ 0x61 ∷ []) ≡ held (record { code = UnknownDatabase; text = 0x61 ∷ [] })
unfolding held_error text_held utf8 scan lead part
example_held = refl
