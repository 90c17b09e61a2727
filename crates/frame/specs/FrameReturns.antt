-- Demand 2's two round trips, of frames. The longest payload is a parameter, 67,108,864 bytes on the wire: a length has four bytes.
use Rattle.std.specs.Prelude.{◌≡◌, List, ℕ, ◌+◌, ◌≤◌, ◌<◌, length, take, Ok}
use Rattle.varint.specs.RoundTrips.{Bytes}
use Rattle.varint.specs.Stores.{part}
use Rattle.frame.specs.declared.Frame.{Frame}
use Rattle.frame.specs.Frames.{decode_frame, frame_bytes, encode_frame}

-- What was encoded into a buffer that suffices is decoded to its kind, stream and length, and its payload stands behind the nine bytes.
abbrev pub FrameReturns : Type 0
FrameReturns = (max kind stream : ℕ) (payload d : List ℕ) → stream < 4294967296 → max < 4294967296 → length payload ≤ max → 9 + length payload ≤ length d
    → (decode_frame max (encode_frame max kind stream payload d).out
    ≡ Ok (record { header = record { kind = record { 0 = kind }; stream = stream; length = length payload }; used = 9 + length payload }))
    × (part (encode_frame max kind stream payload d).out 9 (length payload) ≡ payload)

-- The bytes of what was decoded are those that were used.
abbrev pub FrameBytesReturn : Type 0
FrameBytesReturn = (max : ℕ) (s : List ℕ) (f : Frame) → Bytes s → decode_frame max s ≡ Ok f
    → frame_bytes f.header.kind.0 f.header.stream (part s 9 f.header.length) ≡ take f.used s
