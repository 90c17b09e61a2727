-- 7 control: "op, database, flag, schema".
use Rattle.varint.specs.declared.error.Refusal.TheVariants.{TypeMismatch}
use Rattle.varint.specs.Stores.{part}
use Rattle.varint.specs.Utf8.{utf8, scan, lead}
use Rattle.varint.specs.Texts.{skim_text, get_text, get_name}
use Rattle.varint.specs.Leb128.{read_from, get_u64}
use Rattle.std.specs.Prelude.{◌≡◌, refl, Bool, true, List, [], ◌∷◌, ℕ, length, Err}
use Rattle.varint.specs.Got.{Got}
use Rattle.varint.specs.Formats.{Format, name, text, ◌⊗◌, named}
use Rattle.varint.specs.Gathering.{Held, held, then_held, name_held, text_held}
use Rattle.varint.specs.declared.error.Mismatch.TheVariants as M
use Rattle.protocol.specs.Fields.{control_op, flag}
use Rattle.protocol.specs.Laying.{Laid, span_of}
use Rattle.protocol.specs.Pieces.{words, ◌⊕◌}
use Rattle.protocol.specs.Wholes.{ended}
use Rattle.protocol.specs.declared.message.ControlOp.{ControlOp}
use Rattle.protocol.specs.declared.message.ControlOp.TheVariants.{Finish}
use Rattle.varint.specs.declared.text.Span.{Span}
use Rattle.protocol.specs.declared.message.Message.TheVariants as Msg

pub record Control : Type 0 where
  pub op : ControlOp
  pub database : List ℕ
  pub allow_zero_facts : Bool
  pub schema : List ℕ

abbrev pub to_control : ControlOp × (List ℕ × (Bool × List ℕ)) → Control
to_control c = record { op = c.0; database = c.1.0; allow_zero_facts = c.1.1.0; schema = c.1.1.1 }

abbrev pub from_control : Control → ControlOp × (List ℕ × (Bool × List ℕ))
from_control m = (m.op, (m.database, (m.allow_zero_facts, m.schema)))

abbrev pub control : Format Control
control =
    named to_control from_control
    (control_op
    ⊗ name
    ⊗ flag M.ControlFlag
    ⊗ text)

unfoldable pub read_control : List ℕ → Got Control
read_control s = ended s (control.read s 0)

unfoldable pub lay_control : Control → Laid
lay_control m =
    record {
      message = Msg.Control m.op (span_of 0 m.database) m.allow_zero_facts (span_of (length m.database) m.schema);
      piece = words m.database ⊕ words m.schema;
    }

unfoldable pub held_control : ControlOp → Span → Bool → Span → List ℕ → Held Control
held_control op database allow schema tx =
    then_held (name_held tx database.start database.len)
    (λ d. then_held (text_held tx schema.start schema.len)
    (λ x. held (record { op = op; database = d; allow_zero_facts = allow; schema = x })))

-- the flag is missing
example_flag : read_control (2 ∷ 1 ∷ 0x61 ∷ []) ≡ Err (TypeMismatch M.ControlFlag)
unfolding read_control get_u64 read_from get_name get_text skim_text utf8 scan lead part
example_flag = refl

-- the schema stands behind the database in text
example_text : (lay_control (record { op = Finish; database = 0x61 ∷ []; allow_zero_facts = true; schema = 0x62 ∷ 0x63 ∷ [] })).piece.text ≡ 0x61 ∷ 0x62 ∷ 0x63 ∷ []
unfolding lay_control
example_text = refl
