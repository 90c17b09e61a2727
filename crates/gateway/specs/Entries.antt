-- What each entry point answers and leaves, by the definition of the layer below: the result, the answer's sixteen numbers, and every lent buffer.
use Rattle.std.specs.Prelude.{Bool, false, ◌≡◌, refl, List, [], ◌∷◌, ℕ, ◌*◌, ltb, leb, eqb, length, Err, Some, None, Option}
use Rattle.varint.specs.Choice.{pick}
use Rattle.varint.specs.Formats.{print_all}
use Rattle.varint.specs.Leb128.{read_from, get_u64, put_by, put_u64}
use Rattle.varint.specs.Lent.{Left, fitted, settled}
use Rattle.varint.specs.Outs.{Sent, wrote, send, sent}
use Rattle.varint.specs.Stores.{part, filled}
use Rattle.varint.specs.Texts.{skim_text, get_text, get_name}
use Rattle.varint.specs.Utf8.{utf8, scan, lead}
use Rattle.varint.specs.declared.error.Fault.{Fault}
use Rattle.varint.specs.declared.error.Fault.TheVariants.{RowCount, Number}
use Rattle.varint.specs.declared.error.Refusal.TheVariants.{BadMessage}
use Rattle.desc.specs.Decoding.{decode_desc}
use Rattle.desc.specs.Encoding.{encode_desc}
use Rattle.protocol.specs.Control.{read_control, lay_control}
use Rattle.protocol.specs.Decoding.{decode_message}
use Rattle.protocol.specs.Encoding.{held_said, encode_message}
use Rattle.protocol.specs.Fetch.{held_fetch}
use Rattle.protocol.specs.Ids.{id_width}
use Rattle.protocol.specs.RowsHeld.{held_times}
use Rattle.protocol.specs.Said.{read_entry, read_message, print_said, lay}
use Rattle.protocol.specs.Startup.{claim_width}
use Rattle.gateway.specs.Numbers.{at, message_from, is_message, message_of}
use Rattle.gateway.specs.Answers.{numbers_of, of_message, of_used, of_number}
use Rattle.gateway.specs.declared.answers.Parts.{Parts}
use Rattle.protocol.specs.declared.message.Message.{Message}

-- a call that is lent nothing else to write
pub record Told : Type 0 where
  pub result : ℕ
  pub answer : List ℕ

-- a decoder
pub record Decoded : Type 0 where
  pub result : ℕ
  pub answer : List ℕ
  pub text : List ℕ
  pub rows : List ℕ
  pub nodes : List ℕ

-- an encoder
pub record Encoded : Type 0 where
  pub result : ℕ
  pub answer : List ℕ
  pub out : List ℕ

-- the result is the refusal's number, or 0, as in the answer
abbrev pub told : Parts → Told
told p = record { result = p.refusal.number; answer = numbers_of p }

abbrev pub decoded : Parts → (text rows nodes : List ℕ) → Decoded
decoded p tx rs nd = record { result = p.refusal.number; answer = numbers_of p; text = tx; rows = rs; nodes = nd }

abbrev pub encoded : Parts → List ℕ → Encoded
encoded p d = record { result = p.refusal.number; answer = numbers_of p; out = d }

-- fjord_decode

-- "An entry 1 to 12 names a message; any other is opaque": the message's number, also of one that is refused
abbrev pub named_entry : ℕ → ℕ
named_entry entry = pick (leb entry 12) entry 0

abbrev pub message_left : ℕ → Left Message → Decoded
message_left n l = decoded (of_message n l.answer) l.text l.rows l.nodes

unfoldable pub decode_call : ℕ → List ℕ → List ℕ → List ℕ → List ℕ → Decoded
decode_call entry s tx rs nd = message_left (named_entry entry) (decode_message 67108864 64 (named_entry entry) s tx rs nd)

-- fjord_decode_desc: "Read alone, a descriptor is a message without rows"

abbrev pub desc_left : Left ℕ → Decoded
desc_left l = decoded (of_used l.answer) l.text l.rows l.nodes

unfoldable pub decode_desc_call : List ℕ → List ℕ → List ℕ → List ℕ → Decoded
decode_desc_call s tx rs nd = desc_left (decode_desc 67108864 64 s tx rs nd)

-- fjord_encode

-- "19(2) row count times width over rows", before 19(4): of the messages that can have a wrong number, startup and fetch have rows
abbrev pub few_rows : ℕ → List ℕ → List ℕ → Bool
few_rows n f rs =
    pick (eqb n 1) (ltb (length rs) (at f 5 * claim_width))
    (pick (eqb n 11) (ltb (length rs) (at f 2 * id_width))
    false)

abbrev pub fault_of : ℕ → List ℕ → List ℕ → Fault
fault_of n f rs = pick (few_rows n f rs) RowCount Number

-- "Refused: nothing written."
abbrev pub encode_found : Option Message → Fault → List ℕ → List ℕ → List ℕ → List ℕ → Sent
encode_found (Some message) fault tx rs nd d = encode_message 67108864 64 message tx rs nd d
encode_found None fault tx rs nd d = record { answer = Err (BadMessage fault); out = d }

unfoldable pub encode_numbers : ℕ → List ℕ → List ℕ → List ℕ → List ℕ → List ℕ → Sent
encode_numbers n f tx rs nd d = encode_found (message_of n f) (fault_of n f rs) tx rs nd d

abbrev pub sent_left : Sent → Encoded
sent_left s = encoded (of_used s.answer) s.out

unfoldable pub encode_call : ℕ → List ℕ → List ℕ → List ℕ → List ℕ → List ℕ → Encoded
encode_call n f tx rs nd d = sent_left (encode_numbers n f tx rs nd d)

-- fjord_encode_desc

unfoldable pub encode_desc_call : List ℕ → List ℕ → List ℕ → Encoded
encode_desc_call tx nd d = sent_left (encode_desc 67108864 64 tx nd d)

-- fjord_get_u64

unfoldable pub get_call : List ℕ → Told
get_call s = told (of_number (get_u64 s 0))

-- fjord_put_u64: "A varint written alone follows 16(5) too."

unfoldable pub put_call : ℕ → List ℕ → Encoded
put_call value d = encoded (of_used (wrote d (put_u64 value))) (filled d (put_u64 value))

-- control `02 01 61 07 00`: number 7, op 2, database 0, 1, flag 1, schema 1, 0
example_control : decode_call 7 (0x02 ∷ 0x01 ∷ 0x61 ∷ 0x07 ∷ 0x00 ∷ []) (9 ∷ 9 ∷ []) (9 ∷ []) []
    ≡ record { result = 0; answer = 0 ∷ 0 ∷ 0 ∷ 0 ∷ 0 ∷ 0 ∷ 0 ∷ 7 ∷ 2 ∷ 0 ∷ 1 ∷ 1 ∷ 1 ∷ 0 ∷ 0 ∷ 0 ∷ []; text = 0x61 ∷ 0 ∷ []; rows = 0 ∷ []; nodes = [] }
unfolding decode_call decode_message settled fitted filled read_message read_entry read_control lay lay_control get_u64 read_from get_name get_text skim_text utf8 scan lead part
example_control = refl

-- the same with no text lent: the number stays, the fields are zeros
example_small : decode_call 7 (0x02 ∷ 0x01 ∷ 0x61 ∷ 0x07 ∷ 0x00 ∷ []) [] (9 ∷ []) []
    ≡ record { result = 16; answer = 16 ∷ 1 ∷ 1 ∷ 0 ∷ 0 ∷ 0 ∷ 0 ∷ 7 ∷ 0 ∷ 0 ∷ 0 ∷ 0 ∷ 0 ∷ 0 ∷ 0 ∷ 0 ∷ []; text = []; rows = 9 ∷ []; nodes = [] }
unfolding decode_call decode_message settled fitted filled read_message read_entry read_control lay lay_control get_u64 read_from get_name get_text skim_text utf8 scan lead part
example_small = refl

-- 13 names no message
example_opaque : decode_call 13 (0xFF ∷ []) (9 ∷ 9 ∷ []) (9 ∷ []) []
    ≡ record { result = 0; answer = 0 ∷ 0 ∷ 0 ∷ 0 ∷ 0 ∷ 0 ∷ 0 ∷ 0 ∷ 0 ∷ 1 ∷ 0 ∷ 0 ∷ 0 ∷ 0 ∷ 0 ∷ 0 ∷ []; text = 0xFF ∷ 0 ∷ []; rows = 0 ∷ []; nodes = [] }
unfolding decode_call decode_message settled fitted filled read_message read_entry lay
example_opaque = refl

-- startup of mode 2, with a database past the text's end, one claim, and two numbers of rows: 19(2); with three 19(4)
example_few : encode_numbers 1 (4 ∷ 5 ∷ 1 ∷ 2 ∷ 0 ∷ 1 ∷ []) [] (0 ∷ 0 ∷ []) [] (9 ∷ []) ≡ record { answer = Err (BadMessage RowCount); out = 9 ∷ [] }
unfolding encode_numbers message_of is_message
example_few = refl

example_mode : encode_numbers 1 (4 ∷ 5 ∷ 1 ∷ 2 ∷ 0 ∷ 1 ∷ []) [] (0 ∷ 0 ∷ 0 ∷ []) [] (9 ∷ []) ≡ record { answer = Err (BadMessage Number); out = 9 ∷ [] }
unfolding encode_numbers message_of is_message
example_mode = refl

-- a fetch without a digest of one id, 2 × 2^40 + 5
example_fetch : encode_call 11 (0 ∷ 9 ∷ 1 ∷ 9 ∷ 9 ∷ 9 ∷ []) [] (2199023255557 ∷ []) [] (9 ∷ 9 ∷ 9 ∷ 9 ∷ 9 ∷ [])
    ≡ record { result = 0; answer = 0 ∷ 0 ∷ 0 ∷ 4 ∷ 0 ∷ 0 ∷ 0 ∷ 0 ∷ 0 ∷ 0 ∷ 0 ∷ 0 ∷ 0 ∷ 0 ∷ 0 ∷ 0 ∷ []; out = 0 ∷ 1 ∷ 2 ∷ 5 ∷ 0 ∷ [] }
unfolding encode_call encode_numbers message_of message_from is_message encode_message sent held_said held_fetch held_times print_said print_all send wrote filled put_u64 put_by
example_fetch = refl

example_get : get_call (0x80 ∷ 0x01 ∷ 0xFF ∷ []) ≡ record { result = 0; answer = 0 ∷ 0 ∷ 0 ∷ 2 ∷ 0 ∷ 0 ∷ 0 ∷ 0 ∷ 128 ∷ 0 ∷ 0 ∷ 0 ∷ 0 ∷ 0 ∷ 0 ∷ 0 ∷ [] }
unfolding get_call get_u64 read_from
example_get = refl

example_put : put_call 128 (9 ∷ []) ≡ record { result = 16; answer = 16 ∷ 5 ∷ 2 ∷ 0 ∷ 0 ∷ 0 ∷ 0 ∷ 0 ∷ 0 ∷ 0 ∷ 0 ∷ 0 ∷ 0 ∷ 0 ∷ 0 ∷ 0 ∷ []; out = 9 ∷ [] }
unfolding put_call wrote filled put_u64 put_by
example_put = refl
