-- What a call answers in numbers, one layout for all calls; "The Rust editor calls decode and offer as C functions on numbers and byte slices."
use Rattle.std.specs.Prelude.{◌≡◌, refl, List, [], ◌∷◌, ℕ, Result, Ok, Err}
use Rattle.varint.specs.Refusals.{code_of}
use Rattle.varint.specs.declared.error.Buffer.TheVariants.{Out}
use Rattle.varint.specs.declared.error.Code.{Code}
use Rattle.varint.specs.declared.error.Refusal.{Refusal}
use Rattle.varint.specs.declared.error.Refusal.TheVariants.{TooSmall, BadString}
use Rattle.protocol.specs.declared.message.Message.TheVariants as Msg
use Rattle.gateway.specs.Numbers.{six, number_of, fields_of, at}
use Rattle.gateway.specs.declared.answers.Parts.{Parts}
use Rattle.varint.specs.Got.{Got}
use Rattle.protocol.specs.declared.message.Message.{Message}

-- The sixteen numbers: "A refusal is a number with details a, b", the bytes used or written, a frame's kind, stream and length, the message's number, and its fields.
abbrev pub numbers_of : Parts → List ℕ
numbers_of p =
    p.refusal.number ∷ p.refusal.a ∷ p.refusal.b ∷ p.used
    ∷ p.kind ∷ p.stream ∷ p.length ∷ p.message
    ∷ at p.fields 0 ∷ at p.fields 1 ∷ at p.fields 2 ∷ at p.fields 3 ∷ at p.fields 4 ∷ at p.fields 5
    ∷ 0 ∷ 0 ∷ []

-- "0 where not given"
abbrev pub no_refusal : Code
no_refusal = record { number = 0; a = 0; b = 0 }

abbrev pub no_fields : List ℕ
no_fields = six 0 0 0 0 0 0

-- what a call that knows of no frame gives; what it does not give is 0
abbrev pub given : Code → (used message : ℕ) → List ℕ → Parts
given refusal used message fields =
    record { refusal = refusal; used = used; kind = 0; stream = 0; length = 0; message = message; fields = fields }

abbrev pub accepted : (used message : ℕ) → List ℕ → Parts
accepted used message fields = given no_refusal used message fields

-- of a refused message its number is told, and nothing of what was read
abbrev pub refused : ℕ → Refusal → Parts
refused message e = given (code_of e) 0 message no_fields

-- a message, or why it was refused: then n is the number of the one that was asked for
abbrev pub of_message : ℕ → Result Message Refusal → Parts
of_message n (Ok message) = accepted 0 (number_of message) (fields_of message)
of_message n (Err e) = refused n e

-- "bytes after it are ignored, and the bytes used are given"; or the length written
abbrev pub of_used : Result ℕ Refusal → Parts
of_used (Ok used) = accepted used 0 no_fields
of_used (Err e) = refused 0 e

-- done, with nothing to tell
abbrev pub of_done : Result (Unit {0}) Refusal → Parts
of_done (Ok u) = accepted 0 0 no_fields
of_done (Err e) = refused 0 e

-- a varint's value is the first field
abbrev pub of_number : Got ℕ → Parts
of_number (Ok (value, next)) = accepted next 0 (six value 0 0 0 0 0)
of_number (Err e) = refused 0 e

example_complete : numbers_of (of_message 4 (Ok (Msg.Complete 7 8))) ≡ 0 ∷ 0 ∷ 0 ∷ 0 ∷ 0 ∷ 0 ∷ 0 ∷ 4 ∷ 7 ∷ 8 ∷ 0 ∷ 0 ∷ 0 ∷ 0 ∷ 0 ∷ 0 ∷ []
example_complete = refl

example_string : numbers_of (of_message 3 (Err BadString)) ≡ 4 ∷ 0 ∷ 0 ∷ 0 ∷ 0 ∷ 0 ∷ 0 ∷ 3 ∷ 0 ∷ 0 ∷ 0 ∷ 0 ∷ 0 ∷ 0 ∷ 0 ∷ 0 ∷ []
example_string = refl

example_out : numbers_of (of_used (Err (TooSmall Out 9))) ≡ 16 ∷ 5 ∷ 9 ∷ 0 ∷ 0 ∷ 0 ∷ 0 ∷ 0 ∷ 0 ∷ 0 ∷ 0 ∷ 0 ∷ 0 ∷ 0 ∷ 0 ∷ 0 ∷ []
example_out = refl

example_number : numbers_of (of_number (Ok (300, 2))) ≡ 0 ∷ 0 ∷ 0 ∷ 2 ∷ 0 ∷ 0 ∷ 0 ∷ 0 ∷ 300 ∷ 0 ∷ 0 ∷ 0 ∷ 0 ∷ 0 ∷ 0 ∷ 0 ∷ []
example_number = refl
