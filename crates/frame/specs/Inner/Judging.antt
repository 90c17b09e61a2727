-- What the receiver's inner functions say.
use Rattle.std.specs.Prelude.{◌≡◌, List, ℕ, ◌≤◌, Result, Ok, Err}
use Rattle.frame.specs.Frames.{header_of}
use Rattle.frame.specs.Worlds.{Limits}
use Rattle.frame.specs.Reading.{refuse, gather, judge}
use Rattle.varint.specs.declared.error.Refusal.{Refusal}
use Rattle.frame.specs.declared.FrameHeader.{FrameHeader}

-- what the code says of nine header bytes is what the reading says
abbrev pub Judges : Limits → (room : ℕ) → List ℕ → Result FrameHeader Refusal → Type 0
Judges l room hd (Err e) = judge l room hd ≡ refuse e
Judges l room hd (Ok h) = (judge l room hd ≡ gather h.length) × (h ≡ header_of hd) × (h.length ≤ room)
