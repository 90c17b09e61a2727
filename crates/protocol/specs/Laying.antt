-- A message laid out for lent memory: its fields, and what it leaves there.
use Rattle.std.specs.Prelude.{ℕ, List, length}
use Rattle.protocol.specs.Pieces.{Piece}
use Rattle.varint.specs.declared.text.Span.{Span}
use Rattle.protocol.specs.declared.message.Message.{Message}

pub record Laid : Type 0 where
  pub message : Message
  pub piece : Piece

-- the text x from place t on
abbrev pub span_of : ℕ → List ℕ → Span
span_of t x = record { start = t; len = length x }
