-- What is made of a number that may be the byte of a known value, whatever it is that the byte is known for.
use Rattle.std.specs.Prelude.{ℕ, ◌<◌, Result, Ok, Err, Some, None, Option}
use Rattle.varint.specs.declared.error.Refusal.{Refusal}

-- what a conversion that answers as `gives` says makes of it; nothing of a number that is no byte
abbrev pub Known : {A : Type 0} → (ℕ → Result A Refusal → Type 0) → ℕ → Option A → Type 0
Known gives n (Some a) = gives n (Ok a)
Known gives n None = n < 256 → (e : Refusal) × gives n (Err e)
