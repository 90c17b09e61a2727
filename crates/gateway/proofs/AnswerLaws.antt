-- Over the boundary and back nothing is lost: an accepted message is what the answer's numbers mean, and a message's numbers are encoded as the message.
use mathlib.Core.Bool.{true}
use mathlib.Core.Path.{◌≡◌, refl, ◌∙◌}
use mathlib.Core.List.{List}
use Prim.Native.Nat.{ℕ}
use Rattle.protocol.specs.Codes.{op_of}
use Rattle.protocol.specs.Decoding.{decode_message}
use Rattle.protocol.specs.Encoding.{encode_message}
use Rattle.protocol.specs.declared.message.ControlOp.{ControlOp}
use Rattle.protocol.specs.declared.message.ControlOp.TheVariants.{Create, Finish, Remove}
use Rattle.protocol.specs.declared.message.Message.{Message}
use Rattle.gateway.specs.Numbers.{six, number_of, fields_of, at, op_in, reply_from, message_from, fits}
use Rattle.gateway.specs.Entries.{named_entry, decode_call, encode_numbers, sent_left, encode_call}
use Rattle.gateway.proofs.NumberLaws.{message_back, message_found}
use Rattle.std.specs.Prelude.{Ok}

-- the message that an answer's numbers mean
abbrev told_message : List ℕ → Message
told_message a = message_from (at a 7) (six (at a 8) (at a 9) (at a 10) (at a 11) (at a 12) (at a 13))

-- six fields are read and no more
abbrev pub first_six : List ℕ → List ℕ
first_six f = six (at f 0) (at f 1) (at f 2) (at f 3) (at f 4) (at f 5)

reply_six : (op : ControlOp) (f : List ℕ) → reply_from op (first_six f) ≡ reply_from op f
reply_six Create f = refl
reply_six Finish f = refl
reply_six Remove f = refl

only_six : (n : ℕ) (f : List ℕ) → message_from n (first_six f) ≡ message_from n f
unfolding message_from
only_six n f = rw (reply_six (op_in (op_of (at f 0))) f)

pub decode_told : (entry : ℕ) (s tx rs nd : List ℕ) (m : Message) → (decode_message 67108864 64 (named_entry entry) s tx rs nd).answer ≡ Ok m
    → told_message (decode_call entry s tx rs nd).answer ≡ m
unfolding decode_call
decode_told entry s tx rs nd m h = rw h (only_six (number_of m) (fields_of m) ∙ message_back m)

pub encode_told : (m : Message) (tx rs nd d : List ℕ) → fits m ≡ true
    → encode_call (number_of m) (fields_of m) tx rs nd d ≡ sent_left (encode_message 67108864 64 m tx rs nd d)
unfolding encode_call encode_numbers
encode_told m tx rs nd d h = rw (message_found m h)
