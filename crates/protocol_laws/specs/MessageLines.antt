-- "Bytes to try": the lines about messages, behind those of the layers below.
use Rattle.std.specs.Prelude.{List, [], ◌∷◌, ◌++◌, ℕ, Ok, Err, Some, None, Option}
use Rattle.varint.specs.Got.{Got}
use Rattle.varint.specs.Tried.{Line, refused_in}
use Rattle.desc.specs.Tried.{desc_lines}
use Rattle.protocol.specs.Codes.{mode_byte, error_byte, op_byte}
use Rattle.protocol.specs.Fields.{bit}
use Rattle.protocol.specs.Said.{Said, read_message, lay}
use Rattle.protocol.specs.declared.message.ControlOp.TheVariants.{Create, Finish, Remove}
use Rattle.protocol.specs.declared.message.ControlReply.{ControlReply}
use Rattle.protocol.specs.declared.message.ControlReply.TheVariants.{Created, Finished, Removed}
use Rattle.protocol.specs.declared.message.Message.{Message}
use Rattle.protocol.specs.declared.message.Message.TheVariants as Msg
use Rattle.varint.specs.declared.text.Span.{Span}

-- a text: where it starts, and how long it is
abbrev pub span_in : Span → List ℕ
span_in x = x.start ∷ x.len ∷ []

abbrev pub digest_in : Option ℕ → List ℕ
digest_in None = 0 ∷ []
digest_in (Some d) = 1 ∷ d ∷ []

abbrev pub reply_in : ControlReply → List ℕ
reply_in (Created instance) = op_byte Create ∷ span_in instance
reply_in (Finished fingerprint facts bytes complete) = op_byte Finish ∷ fingerprint ∷ facts ∷ bytes ∷ bit complete ∷ []
reply_in Removed = op_byte Remove ∷ []

-- a message's fields in order: a flag is 0 or 1, and what has a byte is that byte
abbrev pub fields_in : Message → List ℕ
fields_in (Msg.Startup version database mode fingerprint claims) = version ∷ span_in database ++ (mode_byte mode ∷ fingerprint ∷ claims ∷ [])
fields_in (Msg.Ready version fingerprint predicates) = version ∷ fingerprint ∷ predicates ∷ []
fields_in (Msg.Error code text) = error_byte code ∷ span_in text
fields_in (Msg.Complete first second) = first ∷ second ∷ []
fields_in (Msg.Ids count) = count ∷ []
fields_in (Msg.Types count) = count ∷ []
fields_in (Msg.Control op database allow schema) = op_byte op ∷ span_in database ++ (bit allow ∷ span_in schema)
fields_in (Msg.Reply reply) = reply_in reply
fields_in (Msg.Profile count) = count ∷ []
fields_in (Msg.Page limit cursor query) = limit ∷ span_in cursor ++ span_in query
fields_in (Msg.Fetch digest count) = digest_in digest ++ (count ∷ [])
fields_in (Msg.ListingDigest predicate digest) = predicate ∷ digest ∷ []
fields_in (Msg.Opaque payload) = span_in payload

-- an answer in numbers: a refusal; or 0 and the message's fields
abbrev pub message_in : Got Said → List ℕ
message_in (Ok (m, next)) = 0 ∷ fields_in (lay m).message
message_in (Err r) = refused_in r

abbrev pub message_line : ℕ → List ℕ → List ℕ → Line
message_line entry bytes answer = record { reader = λ s. message_in (read_message 67108864 64 entry s); bytes = bytes; answer = answer }

unfoldable pub message_lines : List Line
message_lines =
    -- ready `80 80 80 80 10 00 00 00` is 10(1)
    message_line 2 (0x80 ∷ 0x80 ∷ 0x80 ∷ 0x80 ∷ 0x10 ∷ 0x00 ∷ 0x00 ∷ 0x00 ∷ []) (10 ∷ 1 ∷ 0 ∷ [])
    -- control `02 01 61 07 00` is accepted, flag yes
    ∷ message_line 7 (0x02 ∷ 0x01 ∷ 0x61 ∷ 0x07 ∷ 0x00 ∷ []) (0 ∷ 2 ∷ 0 ∷ 1 ∷ 1 ∷ 1 ∷ 0 ∷ [])
    -- listing digest `FF FF FF FF 0F 00` accepted
    ∷ message_line 12 (0xFF ∷ 0xFF ∷ 0xFF ∷ 0xFF ∷ 0x0F ∷ 0x00 ∷ []) (0 ∷ 4294967295 ∷ 0 ∷ [])
    -- `80 80 80 80 10 00` is 14(4294967296)
    ∷ message_line 12 (0x80 ∷ 0x80 ∷ 0x80 ∷ 0x80 ∷ 0x10 ∷ 0x00 ∷ []) (14 ∷ 4294967296 ∷ 0 ∷ [])
    -- fetch `00 81 20` is 12(4097, 4096)
    ∷ message_line 11 (0x00 ∷ 0x81 ∷ 0x20 ∷ []) (12 ∷ 4097 ∷ 4096 ∷ [])
    -- `00 80 20` is 1
    ∷ message_line 11 (0x00 ∷ 0x80 ∷ 0x20 ∷ []) (1 ∷ 0 ∷ 0 ∷ [])
    ∷ []

-- the whole table
abbrev pub session_lines : List Line
session_lines = desc_lines ++ message_lines
