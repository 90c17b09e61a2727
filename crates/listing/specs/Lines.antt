-- The lister's lines, as bytes.
use Rattle.std.specs.Prelude.{true, false, ◌≡◌, refl, List, [], ◌∷◌, ◌++◌, ℕ, zero, suc, ◌+◌, ◌/◌, ◌%◌, ltb, Result, Ok, Err}
use Rattle.varint.specs.Outs.{declared}
use Rattle.varint.specs.Refusals.{code_of}
use Rattle.varint.specs.declared.error.Refusal.TheVariants.{UnexpectedEof}
use Rattle.frame.specs.declared.receiver.Receiver.{Receiver}
use Rattle.listing.specs.declared.Last.{Last}
use Rattle.listing.specs.declared.Last.TheVariants.{Held, Stopped}
use Rattle.varint.specs.declared.error.Refusal.{Refusal}
use Rattle.protocol.specs.declared.message.Message.{Message}

-- The digits of n to the base 10, the greatest first, by at most so many divisions.
unfoldable pub decimal_by : ℕ → ℕ → List ℕ
decimal_by zero n = (0x30 + n) ∷ []
decimal_by (suc f) n = elim (ltb n 10) [ true ↦ (0x30 + n) ∷ [] | false ↦ decimal_by f (n / 10) ++ ((0x30 + n % 10) ∷ []) ]

-- "in decimal": n divisions are always enough
unfoldable pub decimal : ℕ → List ℕ
decimal n = decimal_by n n

-- a number and the byte after it
unfoldable pub column : (n end : ℕ) → List ℕ
column n end = decimal n ++ (end ∷ [])

-- "Each frame is a line: kind, stream, length, and 0 or the refusal's number, in decimal." A space stands between two, and a newline last.
unfoldable pub line_of : (kind stream len number : ℕ) → List ℕ
line_of kind stream len number = column kind 0x20 ++ column stream 0x20 ++ column len 0x20 ++ column number 0x0A

-- "0 or the refusal's number"
abbrev pub number_of : Result Message Refusal → ℕ
number_of (Ok m) = 0
number_of (Err e) = (code_of e).number

-- "the count of header and payload bytes held". Of a receiver that no offer leaves the sum may be over 64 bits: 2^64−1 stands for it.
abbrev pub held_of : Receiver → ℕ
held_of r = declared (r.progress.header_len + r.progress.payload_len)

-- `held ` and `stopped `
abbrev pub held_word : List ℕ
held_word = 0x68 ∷ 0x65 ∷ 0x6C ∷ 0x64 ∷ 0x20 ∷ []

abbrev pub stopped_word : List ℕ
stopped_word = 0x73 ∷ 0x74 ∷ 0x6F ∷ 0x70 ∷ 0x70 ∷ 0x65 ∷ 0x64 ∷ 0x20 ∷ []

-- "Last: `held` and the count of header and payload bytes held, or `stopped` and the number."
unfoldable pub last_line : Last → List ℕ
last_line (Held n) = held_word ++ column n 0x0A
last_line (Stopped n) = stopped_word ++ column n 0x0A

-- the lines of document 01's example: `5 1 3 0` and `held 0`
example_frame : line_of 5 1 3 0 ≡ 0x35 ∷ 0x20 ∷ 0x31 ∷ 0x20 ∷ 0x33 ∷ 0x20 ∷ 0x30 ∷ 0x0A ∷ []
unfolding line_of column decimal decimal_by
example_frame = refl

example_held : last_line (Held 0) ≡ 0x68 ∷ 0x65 ∷ 0x6C ∷ 0x64 ∷ 0x20 ∷ 0x30 ∷ 0x0A ∷ []
unfolding last_line column decimal decimal_by
example_held = refl

-- "Under 256 bytes it prints only `stopped 18`."
example_stopped : last_line (Stopped 18) ≡ 0x73 ∷ 0x74 ∷ 0x6F ∷ 0x70 ∷ 0x70 ∷ 0x65 ∷ 0x64 ∷ 0x20 ∷ 0x31 ∷ 0x38 ∷ 0x0A ∷ []
unfolding last_line column decimal decimal_by
example_stopped = refl

example_largest : decimal 18446744073709551615
    ≡ 0x31 ∷ 0x38 ∷ 0x34 ∷ 0x34 ∷ 0x36 ∷ 0x37 ∷ 0x34 ∷ 0x34 ∷ 0x30 ∷ 0x37 ∷ 0x33 ∷ 0x37 ∷ 0x30 ∷ 0x39 ∷ 0x35 ∷ 0x35 ∷ 0x31 ∷ 0x36 ∷ 0x31 ∷ 0x35 ∷ []
unfolding decimal decimal_by
example_largest = refl

example_number : number_of (Err UnexpectedEof) ≡ 1
example_number = refl
