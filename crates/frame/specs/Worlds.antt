-- A receiver with the memory that is lent to it.
use Rattle.std.specs.Prelude.{List, ℕ, ◌-◌, ◌++◌, length, replicate}
use Rattle.varint.specs.declared.error.Code.{Code}
use Rattle.frame.specs.declared.receiver.Progress.{Progress}
use Rattle.frame.specs.declared.receiver.Receiver.{Receiver}

-- the longest payload and the depth of descriptors that are accepted
pub record Limits : Type 0 where
  pub payload : ℕ
  pub depth : ℕ

-- "over 67,108,864 bytes", "depth over 64"
abbrev pub editor : Limits
editor = record { payload = 67108864; depth = 64 }

-- what an opening fixes: "the opening's table and hold length"
pub record Setup : Type 0 where
  pub table : List ℕ
  pub room : ℕ

-- "three buffers to write: text bytes, rows and nodes"
pub record Lent : Type 0 where
  pub text : List ℕ
  pub rows : List ℕ
  pub nodes : List ℕ

pub record World : Type 0 where
  pub receiver : Receiver
  pub hold : List ℕ
  pub lent : Lent

-- "The receiver keeps the kind table of 256 entries, nine header bytes with their count (zeros after), a payload count, the hold's length and a stop."
abbrev pub progress_of : (room : ℕ) → (header : List ℕ) → (header_len payload_len : ℕ) → Code → Progress
progress_of room hd g n e = record { header = hd; header_len = g; payload_len = n; hold_len = room; stop = e.number; stop_a = e.a; stop_b = e.b }

abbrev pub receiver_of : Setup → (header : List ℕ) → (header_len payload_len : ℕ) → Code → Receiver
receiver_of c hd g n e = record { table = c.table; progress = progress_of c.room hd g n e }

-- no stop
abbrev pub running : Code
running = record { number = 0; a = 0; b = 0 }

-- s, and zeros after it up to n
unfoldable pub pad : ℕ → List ℕ → List ℕ
pad n s = s ++ replicate (n - length s) 0

-- just opened, or a frame was just handed out: "header and hold are zero again"
unfoldable pub fresh : Setup → Lent → World
fresh c b = record { receiver = receiver_of c (replicate 9 0) 0 0 running; hold = replicate c.room 0; lent = b }
