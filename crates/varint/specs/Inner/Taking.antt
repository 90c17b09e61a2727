-- The bytes of a field of a known width.
use Rattle.std.specs.Prelude.{List, ℕ, ◌+◌, ◌-◌, ltb, length, Ok, Err}
use Rattle.varint.specs.Choice.{pick}
use Rattle.varint.specs.Got.{Got}
use Rattle.varint.specs.Stores.{part}
use Rattle.varint.specs.declared.error.Refusal.TheVariants.{UnexpectedEof}

-- the w bytes at place `at` of s, if there are so many
abbrev pub taken : ℕ → List ℕ → ℕ → Got (List ℕ)
taken w s at = pick (ltb (length s - at) w) (Err UnexpectedEof) (Ok (part s at w, at + w))
