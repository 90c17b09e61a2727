-- 8 control reply: "A control reply is created, finished or removed, each with its own fields; finished has three varints and a flag."
use Rattle.varint.specs.declared.error.Fault.TheVariants.{Texts}
use Rattle.varint.specs.declared.error.Refusal.TheVariants.{BadMessage, TrailingBytes}
use Rattle.varint.specs.Stores.{part}
use Rattle.varint.specs.Utf8.{utf8, scan, lead}
use Rattle.varint.specs.Texts.{skim_text, get_text, get_name}
use Rattle.varint.specs.Leb128.{read_from, get_u64}
use Rattle.std.specs.Prelude.{◌≡◌, refl, Bool, true, List, ◌++◌, [], ◌∷◌, ℕ, Ok, Err}
use Rattle.varint.specs.Got.{Got, then}
use Rattle.varint.specs.Formats.{Format, varint, name, ◌⊗◌, named}
use Rattle.varint.specs.Gathering.{Held, held, lacks, then_held, text_held, name_held}
use Rattle.varint.specs.declared.error.Mismatch.TheVariants as M
use Rattle.protocol.specs.Fields.{control_op, flag}
use Rattle.protocol.specs.Laying.{Laid, span_of}
use Rattle.protocol.specs.Pieces.{none, words}
use Rattle.protocol.specs.Wholes.{ended}
use Rattle.protocol.specs.declared.message.ControlOp.{ControlOp}
use Rattle.protocol.specs.declared.message.ControlOp.TheVariants.{Create, Finish, Remove}
use Rattle.protocol.specs.declared.message.ControlReply.{ControlReply}
use Rattle.protocol.specs.declared.message.ControlReply.TheVariants as R
use Rattle.protocol.specs.declared.message.Message.TheVariants as Msg

pub record Finished : Type 0 where
  pub fingerprint : ℕ
  pub facts : ℕ
  pub bytes : ℕ
  pub already_complete : Bool

pub data Reply : Type 0 where
  created : (instance : List ℕ) → Reply
  finished : Finished → Reply
  removed : Reply

abbrev pub to_finished : ℕ × (ℕ × (ℕ × Bool)) → Finished
to_finished c = record { fingerprint = c.0; facts = c.1.0; bytes = c.1.1.0; already_complete = c.1.1.1 }

abbrev pub from_finished : Finished → ℕ × (ℕ × (ℕ × Bool))
from_finished m = (m.fingerprint, (m.facts, (m.bytes, m.already_complete)))

abbrev pub finish : Format Finished
finish =
    named to_finished from_finished
    (varint
    ⊗ varint
    ⊗ varint
    ⊗ flag M.AlreadyComplete)

-- what follows the op
abbrev pub reply_on : ControlOp → List ℕ → ℕ → Got Reply
reply_on Create s at = then (name.read s at) (λ i q. Ok (created i, q))
reply_on Finish s at = then (finish.read s at) (λ f q. Ok (finished f, q))
reply_on Remove s at = Ok (removed, at)

abbrev pub print_reply : Reply → List ℕ
print_reply (created i) = control_op.print Create ++ name.print i
print_reply (finished f) = control_op.print Finish ++ finish.print f
print_reply removed = control_op.print Remove

abbrev pub reply : Format Reply
reply = record { read = λ s at. then (control_op.read s at) (λ o p. reply_on o s p); print = print_reply }

unfoldable pub read_reply : List ℕ → Got Reply
read_reply s = ended s (reply.read s 0)

unfoldable pub lay_reply : Reply → Laid
lay_reply (created i) = record { message = Msg.Reply (R.Created (span_of 0 i)); piece = words i }
lay_reply (finished f) = record { message = Msg.Reply (R.Finished f.fingerprint f.facts f.bytes f.already_complete); piece = none }
lay_reply removed = record { message = Msg.Reply R.Removed; piece = none }

unfoldable pub held_reply : ControlReply → List ℕ → Held Reply
held_reply (R.Created span) tx = then_held (name_held tx span.start span.len) (λ i. held (created i))
held_reply (R.Finished fingerprint facts bytes complete) tx =
    held (finished (record { fingerprint = fingerprint; facts = facts; bytes = bytes; already_complete = complete }))
held_reply R.Removed tx = held removed

example_created : read_reply (1 ∷ 1 ∷ 0x61 ∷ []) ≡ Ok (created (0x61 ∷ []), 3)
unfolding read_reply get_u64 read_from get_name get_text skim_text utf8 scan lead part
example_created = refl

-- a flag of 7 is yes
example_finished : read_reply (2 ∷ 4 ∷ 5 ∷ 6 ∷ 7 ∷ []) ≡ Ok (finished (record { fingerprint = 4; facts = 5; bytes = 6; already_complete = true }), 5)
unfolding read_reply get_u64 read_from
example_finished = refl

example_removed : read_reply (3 ∷ 0 ∷ []) ≡ Err (TrailingBytes 1)
unfolding read_reply
example_removed = refl

-- the instance is the one text
example_laid : lay_reply (created (0x61 ∷ [])) ≡ record { message = Msg.Reply (R.Created (record { start = 0; len = 1 })); piece = words (0x61 ∷ []) }
unfolding lay_reply
example_laid = refl

-- and back from anywhere in text
example_held : held_reply (R.Created (record { start = 1; len = 1 })) (0x62 ∷ 0x61 ∷ []) ≡ held (created (0x61 ∷ []))
unfolding held_reply name_held text_held utf8 scan lead part
example_held = refl

-- an instance past text's end
example_past : held_reply (R.Created (record { start = 1; len = 1 })) (0x62 ∷ []) ≡ lacks (BadMessage Texts)
unfolding held_reply name_held text_held
example_past = refl
