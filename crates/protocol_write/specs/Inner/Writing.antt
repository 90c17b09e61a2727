-- Writing a message from a place of a buffer on, field by field, as the code has it.
use Rattle.std.specs.Prelude.{Bool, true, false, ◌≡◌, refl, List, [], ◌∷◌, ℕ, zero, suc, ◌+◌, ◌/◌, ◌%◌, get_or, Result, Some, None, Option}
use Rattle.varint.specs.Fixed.{put_le}
use Rattle.varint.specs.Leb128.{put_by, put_u64}
use Rattle.desc.specs.Emitting.{Pen, put_bytes, put_number, put_name}
use Rattle.desc.specs.Inner.Emission.{put_at}
use Rattle.desc.specs.Table.{table}
use Rattle.protocol.specs.Codes.{mode_byte, error_byte, op_byte}
use Rattle.protocol.specs.Fields.{bit, yes}
use Rattle.protocol.specs.Rows.{width_of}
use Rattle.protocol.specs.declared.message.ControlOp.{ControlOp}
use Rattle.protocol.specs.declared.message.ControlOp.TheVariants.{Create, Finish, Remove}
use Rattle.protocol.specs.declared.message.ControlReply.{ControlReply}
use Rattle.protocol.specs.declared.message.ControlReply.TheVariants as R
use Rattle.protocol.specs.declared.message.Message.{Message}
use Rattle.protocol.specs.declared.message.Message.TheVariants as Msg
use Rattle.protocol.specs.declared.message.Mode.{Mode}
use Rattle.protocol.specs.declared.message.RowKind.{RowKind}
use Rattle.protocol.specs.declared.message.RowKind.TheVariants.{Claim, Id, Predicate, Step, Pair}
use Rattle.varint.specs.declared.error.Refusal.{Refusal}
use Rattle.varint.specs.declared.text.Span.{Span}
use Rattle.protocol_write.specs.Inner.Checking.{value_root, size_if}
use Rattle.protocol_write.specs.declared.write.Writer.{Writer}

-- where a writer stands
abbrev pub pen : Writer → Pen
pen w = record { out = w.out.now; place = w.at }

-- a writer has written so, into the buffer that it had, and is lent what it was
abbrev pub Writes : (Pen → Pen) → Writer → Writer → Type 0
Writes put before after = (after.lent ≡ before.lent) × (after.out.ghost_name ≡ before.out.ghost_name) × (pen after ≡ put (pen before))

-- one byte
unfoldable pub put_byte : ℕ → Pen → Pen
put_byte b s = put_bytes (b ∷ []) s

-- a flag is the byte 1 or 0
unfoldable pub put_flag : Bool → Pen → Pen
put_flag yes s = put_byte (bit yes) s

-- a number in so many bytes, the least first
unfoldable pub put_fixed : ℕ → ℕ → Pen → Pen
put_fixed width v s = put_bytes (put_le width v) s

-- two varints
unfoldable pub put_two : ℕ → ℕ → Pen → Pen
put_two v w s = put_number w (put_number v s)

-- a length and so many bytes
unfoldable pub put_text : List ℕ → ℕ → ℕ → Pen → Pen
put_text tx start len s = put_name tx (start, len) (put_number len s)

-- Rows

-- a fact's id in its two halves
unfoldable pub put_pair : ℕ → Pen → Pen
put_pair i s = put_two (i / 1099511627776) (i % 1099511627776) s

-- a text and a number: what claims and steps begin with
unfoldable pub put_labelled : List ℕ → List ℕ → ℕ → Pen → Pen
put_labelled tx rs r s = put_number (get_or rs (r + 2) 0) (put_text tx (get_or rs r 0) (get_or rs (r + 1) 0) s)

-- a step is that and a flag
unfoldable pub put_step : List ℕ → List ℕ → ℕ → Pen → Pen
put_step tx rs r s = put_flag (yes (get_or rs (r + 3) 0)) (put_labelled tx rs r s)

-- whether a type has a value, and the value
unfoldable pub put_value : ℕ → List ℕ → List ℕ → Option ℕ → Pen → Pen
put_value limit tx nd None s = put_flag false s
put_value limit tx nd (Some n) s = put_at tx (table limit nd n 0) (put_flag true s)

-- the type whose row starts at number r
unfoldable pub put_type : ℕ → List ℕ → List ℕ → List ℕ → ℕ → Pen → Pen
put_type limit tx rs nd r s =
    put_value limit tx nd (value_root nd (get_or rs (r + 4) 0) (get_or rs (r + 5) 0))
    (put_at tx (table limit nd (get_or rs (r + 5) 0) 0)
    (put_flag (yes (get_or rs (r + 3) 0))
    (put_text tx (get_or rs (r + 1) 0) (get_or rs (r + 2) 0)
    (put_number (get_or rs r 0) s))))

-- the row at number r
unfoldable pub put_row : RowKind → ℕ → List ℕ → List ℕ → List ℕ → ℕ → Pen → Pen
put_row Claim limit tx rs nd r s = put_labelled tx rs r s
put_row Id limit tx rs nd r s = put_number (get_or rs r 0) s
put_row Predicate limit tx rs nd r s = put_type limit tx rs nd r s
put_row Step limit tx rs nd r s = put_step tx rs r s
put_row Pair limit tx rs nd r s = put_pair (get_or rs r 0) s

-- n rows from number r on
unfoldable pub put_rows : RowKind → ℕ → List ℕ → List ℕ → List ℕ → ℕ → ℕ → Pen → Pen
put_rows kind limit tx rs nd zero r s = s
put_rows kind limit tx rs nd (suc n) r s = put_rows kind limit tx rs nd n (r + width_of kind) (put_row kind limit tx rs nd r s)

-- a count and so many rows
unfoldable pub put_counted : RowKind → ℕ → List ℕ → List ℕ → List ℕ → ℕ → Pen → Pen
put_counted kind limit tx rs nd count s = put_rows kind limit tx rs nd count 0 (put_number count s)

-- A check of so many rows tells the place after them, where the gauge has passed what stands before; or why they may not be written.
abbrev pub Sizes : RowKind → ℕ → Result (Unit {0}) Refusal → Writer → Result ℕ Refusal → Type 0
Sizes kind count verdict gauge x =
    x ≡ size_if verdict (put_counted kind gauge.lent.now.limit gauge.lent.now.text.now gauge.lent.now.rows.now gauge.lent.now.nodes.now count (pen gauge)).place

-- Messages

-- a byte and a text
unfoldable pub put_tagged : ℕ → Span → List ℕ → Pen → Pen
put_tagged b span tx s = put_text tx span.start span.len (put_byte b s)

-- a startup up to its claims
unfoldable pub put_startup : ℕ → Span → Mode → ℕ → List ℕ → Pen → Pen
put_startup version database mode fingerprint tx s =
    put_number fingerprint (put_byte (mode_byte mode) (put_text tx database.start database.len (put_number version s)))

-- a control message
unfoldable pub put_control : ControlOp → Span → Bool → Span → List ℕ → Pen → Pen
put_control op database allow schema tx s =
    put_text tx schema.start schema.len (put_flag allow (put_tagged (op_byte op) database tx s))

-- a reply to a finish
unfoldable pub put_finished : ℕ → ℕ → ℕ → Bool → Pen → Pen
put_finished fingerprint facts bytes complete s =
    put_flag complete (put_number bytes (put_two fingerprint facts (put_byte (op_byte Finish) s)))

-- a control reply: the byte of its op, and its fields
unfoldable pub put_reply : ControlReply → List ℕ → Pen → Pen
put_reply (R.Created span) tx s = put_tagged (op_byte Create) span tx s
put_reply (R.Finished fingerprint facts bytes complete) tx s = put_finished fingerprint facts bytes complete s
put_reply R.Removed tx s = put_byte (op_byte Remove) s

-- a page; neither its cursor nor its query has a varint before it
unfoldable pub put_page : ℕ → Span → Span → List ℕ → Pen → Pen
put_page most cursor query tx s =
    put_name tx (query.start, query.len) (put_name tx (cursor.start, cursor.len) (put_fixed 4 cursor.len (put_fixed 8 most s)))

-- a digest behind the byte that says whether there is one
unfoldable pub put_digest : Option ℕ → Pen → Pen
put_digest None s = put_byte 0 s
put_digest (Some d) s = put_number d (put_byte 1 s)

-- a message up to its rows
unfoldable pub put_head : Message → List ℕ → Pen → Pen
put_head (Msg.Startup version database mode fingerprint count) tx s = put_startup version database mode fingerprint tx s
put_head (Msg.Ready version fingerprint predicates) tx s = put_number predicates (put_two version fingerprint s)
put_head (Msg.Error code text) tx s = put_tagged (error_byte code) text tx s
put_head (Msg.Complete first second) tx s = put_two first second s
put_head (Msg.Ids count) tx s = s
put_head (Msg.Types count) tx s = s
put_head (Msg.Control op database allow schema) tx s = put_control op database allow schema tx s
put_head (Msg.Reply reply) tx s = put_reply reply tx s
put_head (Msg.Profile count) tx s = s
put_head (Msg.Page most cursor query) tx s = put_page most cursor query tx s
put_head (Msg.Fetch digest count) tx s = put_digest digest s
put_head (Msg.ListingDigest predicate digest) tx s = put_two predicate digest s
put_head (Msg.Opaque payload) tx s = put_name tx (payload.start, payload.len) s

-- the rows of a message that has some
unfoldable pub put_body : ℕ → Message → List ℕ → List ℕ → List ℕ → Pen → Pen
put_body limit (Msg.Startup version database mode fingerprint count) tx rs nd s = put_counted Claim limit tx rs nd count s
put_body limit (Msg.Ready version fingerprint predicates) tx rs nd s = s
put_body limit (Msg.Error code text) tx rs nd s = s
put_body limit (Msg.Complete first second) tx rs nd s = s
put_body limit (Msg.Ids count) tx rs nd s = put_counted Id limit tx rs nd count s
put_body limit (Msg.Types count) tx rs nd s = put_counted Predicate limit tx rs nd count s
put_body limit (Msg.Control op database allow schema) tx rs nd s = s
put_body limit (Msg.Reply reply) tx rs nd s = s
put_body limit (Msg.Profile count) tx rs nd s = put_counted Step limit tx rs nd count s
put_body limit (Msg.Page most cursor query) tx rs nd s = s
put_body limit (Msg.Fetch digest count) tx rs nd s = put_counted Pair limit tx rs nd count s
put_body limit (Msg.ListingDigest predicate digest) tx rs nd s = s
put_body limit (Msg.Opaque payload) tx rs nd s = s

-- the whole message
unfoldable pub put_message : ℕ → Message → List ℕ → List ℕ → List ℕ → Pen → Pen
put_message limit message tx rs nd s = put_body limit message tx rs nd (put_head message tx s)

-- the size that a writer tells with an empty buffer
unfoldable pub size_of : ℕ → Message → List ℕ → List ℕ → List ℕ → ℕ
size_of limit message tx rs nd = (put_message limit message tx rs nd (record { out = []; place = 0 })).place

-- an id of predicate 2 and sequence 5 as a fetch has it, into a buffer that is a byte short of it
example_pair : put_row Pair 64 [] (2199023255557 ∷ []) [] 0 (record { out = 9 ∷ []; place = 0 }) ≡ record { out = 2 ∷ []; place = 2 }
unfolding put_row put_pair put_two put_number put_bytes put_u64 put_by
example_pair = refl
