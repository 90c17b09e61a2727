-- Demand 2's two round trips. The limits are parameters: 67,108,864 bytes and 64 levels on the wire.
use Rattle.std.specs.Prelude.{true, ◌≡◌, refl, List, [], ◌∷◌, ℕ, ◌-◌, ◌≤◌, ◌<◌, length, take, drop, replicate, Ok}
use Rattle.std.proofs.Common.{arith, lit<}
use Rattle.varint.specs.Gathering.{held, text_held, name_held}
use Rattle.varint.specs.Leb128.{read_from, get_u64, put_by, put_u64}
use Rattle.varint.specs.Lent.{Left, kept, fitted, settled}
use Rattle.varint.specs.Outs.{wrote, send, sent}
use Rattle.varint.specs.RoundTrips.{Bytes}
use Rattle.varint.specs.Stores.{part, filled}
use Rattle.varint.specs.Texts.{skim_text, get_text, get_name}
use Rattle.varint.specs.Utf8.{utf8, scan, lead}
use Rattle.varint.specs.declared.error.Buffer.TheVariants.{Text, Rows, Nodes}
use Rattle.varint.specs.declared.error.Refusal.TheVariants.{TooSmall}
use Rattle.protocol.specs.Control.{read_control, lay_control, held_control}
use Rattle.protocol.specs.Decoding.{taken_by, decode_message}
use Rattle.protocol.specs.Encoding.{held_said, encode_message}
use Rattle.protocol.specs.Said.{Said, read_entry, read_message, print_said, lay, entry_of}
use Rattle.protocol.specs.declared.message.ControlOp.TheVariants.{Finish}
use Rattle.protocol.specs.declared.message.Message.{Message}
use Rattle.protocol.specs.declared.message.Message.TheVariants as Msg
use Rattle.protocol_laws.specs.Canonical.{Canonical}
use Rattle.protocol_laws.specs.Fine.{Wide, Typed, Numbers}
use Rattle.protocol_laws.specs.Shown.{Shown, shown, lengths, numbers, text_needed, rows_needed, nodes_needed}

-- the buffer b after so many of its elements were written: as long as it was, and "zero from there to their ends"
pub record Cleared (b : List ℕ) (needed : ℕ) (b' : List ℕ) : Type 0 where
  pub long : length b' ≡ length b
  pub zeros : drop needed b' ≡ replicate (length b - needed) 0

-- What decoding into the buffers t, r and k must leave of a message that showed s: "last 16 for text, rows, nodes in that order, exactly when the read
-- message needs more than was lent", and "Refused: nothing written"; where they suffice, a message that shows the same, and then zeros.
pub data Leaves (s : Shown) (t r k : List ℕ) : Left Message → Type 0 where
  text_short : length t < text_needed s → Leaves s t r k (kept (TooSmall Text (text_needed s)) t r k)
  rows_short : text_needed s ≤ length t → length r < rows_needed s → Leaves s t r k (kept (TooSmall Rows (rows_needed s)) t r k)
  nodes_short : text_needed s ≤ length t → rows_needed s ≤ length r → length k < nodes_needed s
      → Leaves s t r k (kept (TooSmall Nodes (nodes_needed s)) t r k)
  same : text_needed s ≤ length t → rows_needed s ≤ length r → nodes_needed s ≤ length k
      → (m : Message) (t' r' k' : List ℕ) → shown m t' r' k' ≡ s
      → Cleared t (text_needed s) t' → Cleared r (rows_needed s) r' → Cleared k (nodes_needed s) k'
      → Leaves s t r k (record { answer = Ok m; text = t'; rows = r'; nodes = k' })

-- A message is encoded from the memory tx, rs and nd: out was lent, n bytes were written, and out' is what it holds then. What is assumed of the message
-- and the memory is what their types say: numbers of 32 and 64 bits.
pub record Encoded (max limit : ℕ) (message : Message) (tx rs nd : List ℕ) (n : ℕ) (out' : List ℕ) : Type 0 where
  pub typed : Typed message
  pub text : Wide (length tx)
  pub nodes : Wide (length nd)
  pub rows : Numbers rs
  pub out : List ℕ
  pub sent : encode_message max limit message tx rs nd out ≡ record { answer = Ok n; out = out' }

-- Demand 2, first half: decoding an encoded message into buffers that suffice returns its fields and texts. The n bytes are decoded as a message of its
-- number, into any buffers, with anything in them.
abbrev pub Returns : (max limit : ℕ) → Type 0
Returns max limit =
    (message : Message) (tx rs nd : List ℕ) (n : ℕ) (out' : List ℕ) → Encoded max limit message tx rs nd n out' → (t r k : List ℕ)
    → Leaves (shown message tx rs nd) t r k (decode_message max limit (shown message tx rs nd).entry (take n out') t r k)

-- on the wire
abbrev pub DecodeEncoded : Type 0
DecodeEncoded = Returns 67108864 64

-- The same in terms of the definitions: the bytes x are those of the message that the memory tx, rs and nd holds, and what is decoded is its layout,
-- as `fitted` says it fits the buffers t, r and k.
pub record Returned (max limit : ℕ) (message : Message) (tx rs nd x : List ℕ) : Type 0 where
  pub said : Said
  pub holds : held_said limit message tx rs nd ≡ held said
  pub bytes : x ≡ print_said said
  pub decodes : (t r k : List ℕ) → decode_message max limit (entry_of said) x t r k ≡ fitted (lay said).message (taken_by (lay said)) t r k

abbrev pub LayoutReturns : (max limit : ℕ) → Type 0
LayoutReturns max limit =
    (message : Message) (tx rs nd : List ℕ) (n : ℕ) (out' : List ℕ) → Encoded max limit message tx rs nd n out'
    → Returned max limit message tx rs nd (take n out')

-- A message with one encoding was decoded from the bytes s, and text, rows and nodes hold tx, rs and nd then.
pub record Decoded (max limit : ℕ) (s : List ℕ) (message : Message) (tx rs nd : List ℕ) : Type 0 where
  pub entry : ℕ
  pub canonical : Canonical entry
  pub bytes : Bytes s
  pub t : List ℕ
  pub r : List ℕ
  pub k : List ℕ
  pub left : decode_message max limit entry s t r k ≡ record { answer = Ok message; text = tx; rows = rs; nodes = nd }

-- Demand 2, second half: for startup, ready, complete, page, fetch and listing digest encoding what was decoded returns the bytes. Out is s and then zeros;
-- or, where s does not fit, as it was, and the answer is 16(5) with the length of s.
abbrev pub BytesReturn : (max limit : ℕ) → Type 0
BytesReturn max limit =
    (s : List ℕ) (message : Message) (tx rs nd : List ℕ) → Decoded max limit s message tx rs nd → (out : List ℕ)
    → encode_message max limit message tx rs nd out ≡ record { answer = wrote out s; out = filled out s }

abbrev pub EncodeDecoded : Type 0
EncodeDecoded = BytesReturn 67108864 64

-- A control whose schema stands before its database in text, encoded into seven bytes: six are written.
abbrev control : Message
control = Msg.Control Finish (record { start = 1; len = 1 }) true (record { start = 0; len = 1 })

abbrev control_bytes : List ℕ
control_bytes = 0x02 ∷ 0x01 ∷ 0x61 ∷ 0x01 ∷ 0x01 ∷ 0x62 ∷ 0 ∷ []

example_encoded : Encoded 67108864 64 control (0x62 ∷ 0x61 ∷ []) [] [] 6 control_bytes
unfolding Typed encode_message sent held_said held_control print_said send wrote filled text_held name_held utf8 scan lead part put_u64 put_by
example_encoded =
    record { typed = tt; text = lit< tt; nodes = lit< tt; rows = λ i. lit< tt; out = 9 ∷ 9 ∷ 9 ∷ 9 ∷ 9 ∷ 9 ∷ 9 ∷ []; sent = refl }

-- Decoded into buffers with old numbers in them the database comes first, and the rest is zero.
example_same : Leaves (shown control (0x62 ∷ 0x61 ∷ []) [] []) (9 ∷ 9 ∷ 9 ∷ []) (9 ∷ []) [] (decode_message 67108864 64 7 (take 6 control_bytes) (9 ∷ 9 ∷ 9 ∷ []) (9 ∷ []) [])
unfolding decode_message settled fitted filled read_message read_entry read_control lay lay_control get_u64 read_from get_name get_text skim_text utf8 scan lead part shown lengths numbers
example_same =
    same (omega arith) (omega arith) (omega arith) (Msg.Control Finish (record { start = 0; len = 1 }) true (record { start = 1; len = 1 }))
    (0x61 ∷ 0x62 ∷ 0 ∷ []) (0 ∷ []) [] refl (record { long = refl; zeros = refl }) (record { long = refl; zeros = refl }) (record { long = refl; zeros = refl })

-- one byte of text is too little: 16(1, 2)
example_short : Leaves (shown control (0x62 ∷ 0x61 ∷ []) [] []) (9 ∷ []) (9 ∷ []) [] (decode_message 67108864 64 7 (take 6 control_bytes) (9 ∷ []) (9 ∷ []) [])
unfolding decode_message settled fitted filled read_message read_entry read_control lay lay_control get_u64 read_from get_name get_text skim_text utf8 scan lead part shown lengths numbers
example_short = text_short (omega arith)
