-- What an entry point answers and leaves, from what the calls in it ensure.
use mathlib.Core.Path.{◌≡◌}
use mathlib.Core.List.{List}
use Prim.Native.Nat.{ℕ}
use native.Mathlib.Omega.{arith}
use Rattle.varint.specs.Refusals.{code_of}
use Rattle.varint.specs.declared.error.Fault.TheVariants.{Number}
use Rattle.varint.specs.declared.error.Code.{Code}
use Rattle.varint.specs.declared.error.Refusal.{Refusal}
use Rattle.varint.specs.declared.error.Refusal.TheVariants.{BadMessage}
use Rattle.protocol.specs.Decoding.{decode_message}
use Rattle.protocol.specs.Entries.{entry_of}
use Rattle.protocol.specs.declared.message.Message.{Message}
use Rattle.protocol.proofs.EntryLaws.{entry_differs}
use Rattle.gateway.specs.Numbers.{number_of, fields_of, is_message, message_of}
use Rattle.gateway.specs.Answers.{numbers_of, no_fields, given, accepted, of_message}
use Rattle.gateway.specs.Entries.{named_entry, decode_call, encode_numbers}
use Rattle.gateway.specs.declared.answers.Parts.{Parts}
use Rattle.gateway.proofs.AnswerLaws.{first_six}
use Rattle.std.specs.Prelude.{Result, Err, Ok, None}

-- the answer y of the parts p was written, and x returned
abbrev pub Tells : Parts → ℕ → List ℕ → Type 0
Tells p x y = (x ≡ p.refusal.number) × (y ≡ numbers_of p)

-- what is told of a message, from the parts of it that were written
pub accepted_told : (asked : ℕ) {a : Result Message Refusal} {message : Message} {n x : ℕ} {f y : List ℕ} → Tells (accepted 0 n (first_six f)) x y
    → a ≡ Ok message → n ≡ number_of message → f ≡ fields_of message → Tells (of_message asked a) x y
accepted_told asked h i e f = rw (i, ← e, ← f) h

pub refused_told : (asked : ℕ) {a : Result Message Refusal} {e : Refusal} {code : Code} {x : ℕ} {y : List ℕ} → Tells (given code 0 asked no_fields) x y
    → a ≡ Err e → code ≡ code_of e → Tells (of_message asked a) x y
refused_told asked h i e = rw (i, ← e) h

pub message_told : (entry : ℕ) (s tx rs nd : List ℕ) {n x : ℕ} {a : Result Message Refusal} {y tx' rs' nd' : List ℕ} → Tells (of_message n a) x y → n ≡ named_entry entry
    → record { answer = a; text = tx'; rows = rs'; nodes = nd' } ≡ decode_message 67108864 64 n s tx rs nd
    → record { result = x; answer = y; text = tx'; rows = rs'; nodes = nd' } ≡ decode_call entry s tx rs nd
unfolding decode_call
message_told entry s tx rs nd h e f = rw (← e, ← f, h.0, h.1)

-- a number of none of the twelve
pub encode_none : (n : ℕ) (f tx rs nd d : List ℕ) → entry_of n ≡ None → record { answer = Err (BadMessage Number); out = d } ≡ encode_numbers n f tx rs nd d
unfolding encode_numbers is_message message_of
encode_none n f tx rs nd d h = grind (arith, entry_differs n h)
