-- A message as numbers: which of the twelve it is, and six fields. "Where an answer is an enum, a definition gives this paper's number and values for
-- each of its cases."
use Rattle.std.specs.Prelude.{Bool, true, false, ◌&&◌, ◌≡◌, refl, List, [], ◌∷◌, ℕ, ◌+◌, leb, eqb, get_or, Result, Ok, Err, Some, None, Option}
use Rattle.varint.specs.Choice.{pick}
use Rattle.protocol.specs.Codes.{mode_byte, mode_of, error_byte, error_of, op_byte, op_of}
use Rattle.protocol.specs.Fields.{bit, yes, narrow}
use Rattle.protocol.specs.declared.message.Mode.{Mode}
use Rattle.protocol.specs.declared.message.Mode.TheVariants.{ReadOnly, ReadWrite}
use Rattle.protocol.specs.declared.message.ErrorCode.{ErrorCode}
use Rattle.protocol.specs.declared.message.ErrorCode.TheVariants.{Protocol, Busy}
use Rattle.protocol.specs.declared.message.ControlOp.{ControlOp}
use Rattle.protocol.specs.declared.message.ControlOp.TheVariants.{Create, Finish, Remove}
use Rattle.protocol.specs.declared.message.ControlReply.{ControlReply}
use Rattle.protocol.specs.declared.message.ControlReply.TheVariants.{Created, Finished, Removed}
use Rattle.protocol.specs.declared.message.Message.{Message}
use Rattle.protocol.specs.declared.message.Message.TheVariants as Msg
use Rattle.varint.specs.declared.text.Span.{Span}
use Rattle.varint.specs.declared.error.Refusal.{Refusal}

abbrev pub six : ℕ → ℕ → ℕ → ℕ → ℕ → ℕ → List ℕ
six a b c d e f = a ∷ b ∷ c ∷ d ∷ e ∷ f ∷ []

-- "1 startup: .. 2 ready: .. 3 error: .. 4 complete: .. 5 ids: .. 6 types: .. 7 control: .. 8 control reply. 9 profile: .. 10 page: .. 11 fetch: .. 12
-- listing digest"; an opaque payload has 0
abbrev pub number_of : Message → ℕ
number_of (Msg.Startup version database mode fingerprint claims) = 1
number_of (Msg.Ready version fingerprint predicates) = 2
number_of (Msg.Error code text) = 3
number_of (Msg.Complete first second) = 4
number_of (Msg.Ids count) = 5
number_of (Msg.Types count) = 6
number_of (Msg.Control op database allow schema) = 7
number_of (Msg.Reply reply) = 8
number_of (Msg.Profile steps) = 9
number_of (Msg.Page limit cursor query) = 10
number_of (Msg.Fetch digest count) = 11
number_of (Msg.ListingDigest predicate digest) = 12
number_of (Msg.Opaque payload) = 0

-- "A control reply is created, finished or removed, each with its own fields": its op comes first
abbrev pub reply_fields : ControlReply → List ℕ
reply_fields (Created instance) = six (op_byte Create) instance.start instance.len 0 0 0
reply_fields (Finished fingerprint facts bytes complete) = six (op_byte Finish) fingerprint facts bytes (bit complete) 0
reply_fields Removed = six (op_byte Remove) 0 0 0 0 0

-- "flag, digest if 1, count": a fetch without a digest has 0 for it
abbrev pub fetch_fields : Option ℕ → ℕ → List ℕ
fetch_fields None count = six 0 0 count 0 0 0
fetch_fields (Some digest) count = six 1 digest count 0 0 0

-- A message's fields in reading order, then zeros. "A text is a start and a length in text"; what has a byte is that byte; a flag is 0 or 1.
abbrev pub fields_of : Message → List ℕ
fields_of (Msg.Startup version database mode fingerprint claims) = six version database.start database.len (mode_byte mode) fingerprint claims
fields_of (Msg.Ready version fingerprint predicates) = six version fingerprint predicates 0 0 0
fields_of (Msg.Error code text) = six (error_byte code) text.start text.len 0 0 0
fields_of (Msg.Complete first second) = six first second 0 0 0 0
fields_of (Msg.Ids count) = six count 0 0 0 0 0
fields_of (Msg.Types count) = six count 0 0 0 0 0
fields_of (Msg.Control op database allow schema) = six (op_byte op) database.start database.len (bit allow) schema.start schema.len
fields_of (Msg.Reply reply) = reply_fields reply
fields_of (Msg.Profile steps) = six steps 0 0 0 0 0
fields_of (Msg.Page limit cursor query) = six limit cursor.start cursor.len query.start query.len 0
fields_of (Msg.Fetch digest count) = fetch_fields digest count
fields_of (Msg.ListingDigest predicate digest) = six predicate digest 0 0 0 0
fields_of (Msg.Opaque payload) = six payload.start payload.len 0 0 0 0

-- The way back, from any numbers to some message: what they mean if they are those of one. Whether they are is tested below.

abbrev pub at : List ℕ → ℕ → ℕ
at f k = get_or f k 0

abbrev pub span_at : List ℕ → ℕ → Span
span_at f k = record { start = at f k; len = at f (k + 1) }

abbrev pub mode_in : Result Mode Refusal → Mode
mode_in (Ok mode) = mode
mode_in (Err e) = ReadOnly

abbrev pub error_in : Result ErrorCode Refusal → ErrorCode
error_in (Ok code) = code
error_in (Err e) = Protocol

abbrev pub op_in : Result ControlOp Refusal → ControlOp
op_in (Ok op) = op
op_in (Err e) = Create

abbrev pub reply_from : ControlOp → List ℕ → ControlReply
reply_from Create f = Created (span_at f 1)
reply_from Finish f = Finished (at f 1) (at f 2) (at f 3) (yes (at f 4))
reply_from Remove f = Removed

abbrev pub digest_from : ℕ → ℕ → Option ℕ
digest_from flag digest = pick (eqb flag 0) None (Some digest)

unfoldable pub message_from : ℕ → List ℕ → Message
message_from n f =
    pick (eqb n 1) (Msg.Startup (at f 0) (span_at f 1) (mode_in (mode_of (at f 3))) (at f 4) (at f 5))
    (pick (eqb n 2) (Msg.Ready (at f 0) (at f 1) (at f 2))
    (pick (eqb n 3) (Msg.Error (error_in (error_of (at f 0))) (span_at f 1))
    (pick (eqb n 4) (Msg.Complete (at f 0) (at f 1))
    (pick (eqb n 5) (Msg.Ids (at f 0))
    (pick (eqb n 6) (Msg.Types (at f 0))
    (pick (eqb n 7) (Msg.Control (op_in (op_of (at f 0))) (span_at f 1) (yes (at f 3)) (span_at f 4))
    (pick (eqb n 8) (Msg.Reply (reply_from (op_in (op_of (at f 0))) f))
    (pick (eqb n 9) (Msg.Profile (at f 0))
    (pick (eqb n 10) (Msg.Page (at f 0) (span_at f 1) (span_at f 3))
    (pick (eqb n 11) (Msg.Fetch (digest_from (at f 0) (at f 1)) (at f 2))
    (pick (eqb n 12) (Msg.ListingDigest (at f 0) (at f 1))
    (Msg.Opaque (span_at f 0)))))))))))))

-- The tests: are the numbers those of a message of the twelve? (point 23 of docs/DECISIONS.md). A mode, a code or an op has a byte, a flag is 0 or 1, a
-- version and a listing's predicate have 32 bits. Fields past the message's own may be any, and so may the digest of a fetch whose flag is 0.

abbrev pub is_mode : Result Mode Refusal → Bool
is_mode (Ok mode) = true
is_mode (Err e) = false

abbrev pub is_error : Result ErrorCode Refusal → Bool
is_error (Ok code) = true
is_error (Err e) = false

abbrev pub is_op : Result ControlOp Refusal → Bool
is_op (Ok op) = true
is_op (Err e) = false

abbrev pub is_flag : ℕ → Bool
is_flag n = leb n 1

-- of the three replies only finished has a flag
abbrev pub reply_flag : ControlOp → ℕ → Bool
reply_flag Create n = true
reply_flag Finish n = is_flag n
reply_flag Remove n = true

unfoldable pub is_message : ℕ → List ℕ → Bool
is_message n f =
    pick (eqb n 1) (narrow (at f 0) && is_mode (mode_of (at f 3)))
    (pick (eqb n 2) (narrow (at f 0))
    (pick (eqb n 3) (is_error (error_of (at f 0)))
    (pick (eqb n 4) true
    (pick (eqb n 5) true
    (pick (eqb n 6) true
    (pick (eqb n 7) (is_op (op_of (at f 0)) && is_flag (at f 3))
    (pick (eqb n 8) (is_op (op_of (at f 0)) && reply_flag (op_in (op_of (at f 0))) (at f 4))
    (pick (eqb n 9) true
    (pick (eqb n 10) true
    (pick (eqb n 11) (is_flag (at f 0))
    (pick (eqb n 12) (narrow (at f 0))
    false)))))))))))

unfoldable pub message_of : ℕ → List ℕ → Option Message
message_of n f = pick (is_message n f) (Some (message_from n f)) None

-- what the types of a message's fields say of its numbers, where 64 bits could say more; an opaque payload is none of the twelve
abbrev pub fits : Message → Bool
fits (Msg.Startup version database mode fingerprint claims) = narrow version
fits (Msg.Ready version fingerprint predicates) = narrow version
fits (Msg.Error code text) = true
fits (Msg.Complete first second) = true
fits (Msg.Ids count) = true
fits (Msg.Types count) = true
fits (Msg.Control op database allow schema) = true
fits (Msg.Reply reply) = true
fits (Msg.Profile steps) = true
fits (Msg.Page limit cursor query) = true
fits (Msg.Fetch digest count) = true
fits (Msg.ListingDigest predicate digest) = narrow predicate
fits (Msg.Opaque payload) = false

example_startup : fields_of (Msg.Startup 4 (record { start = 0; len = 3 }) ReadWrite 7 2) ≡ 4 ∷ 0 ∷ 3 ∷ 1 ∷ 7 ∷ 2 ∷ []
example_startup = refl

-- of the fields of a fetch without a digest only the first and the third are read
example_fetch : message_of 11 (0 ∷ 8 ∷ 2 ∷ 9 ∷ 9 ∷ 9 ∷ []) ≡ Some (Msg.Fetch None 2)
unfolding message_of message_from is_message
example_fetch = refl

example_busy : message_of 3 (11 ∷ 5 ∷ 6 ∷ 0 ∷ 0 ∷ 0 ∷ []) ≡ Some (Msg.Error Busy (record { start = 5; len = 6 }))
unfolding message_of message_from is_message
example_busy = refl

example_code : message_of 3 (12 ∷ 5 ∷ 6 ∷ 0 ∷ 0 ∷ 0 ∷ []) ≡ None
unfolding message_of message_from is_message
example_code = refl

example_version : message_of 2 (4294967296 ∷ 0 ∷ 0 ∷ 0 ∷ 0 ∷ 0 ∷ []) ≡ None
unfolding message_of message_from is_message
example_version = refl

-- removed has no flag, finished has
example_removed : message_of 8 (3 ∷ 0 ∷ 0 ∷ 0 ∷ 2 ∷ 0 ∷ []) ≡ Some (Msg.Reply Removed)
unfolding message_of message_from is_message
example_removed = refl

example_finished : message_of 8 (2 ∷ 0 ∷ 0 ∷ 0 ∷ 2 ∷ 0 ∷ []) ≡ None
unfolding message_of message_from is_message
example_finished = refl

example_thirteen : message_of 13 (0 ∷ 0 ∷ 0 ∷ 0 ∷ 0 ∷ 0 ∷ []) ≡ None
unfolding message_of message_from is_message
example_thirteen = refl
