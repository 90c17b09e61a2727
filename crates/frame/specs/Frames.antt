-- "Kind byte, stream and length of 4 bytes little-endian, payload."
use Rattle.std.specs.Prelude.{◌≡◌, refl, List, [], ◌∷◌, ◌++◌, ℕ, ◌+◌, ◌-◌, ltb, length, get_or, Ok, Err, Result}
use Rattle.varint.specs.Choice.{pick}
use Rattle.varint.specs.Fixed.{le, put_le}
use Rattle.varint.specs.Outs.{Sent, wrote}
use Rattle.varint.specs.Stores.{part, filled}
use Rattle.varint.specs.declared.error.Buffer.TheVariants.{Out}
use Rattle.varint.specs.declared.error.Refusal.TheVariants.{UnexpectedEof, LengthOutOfRange, BlockTooLarge, TooSmall}
use Rattle.frame.specs.declared.FrameHeader.{FrameHeader}
use Rattle.varint.specs.declared.error.Refusal.{Refusal}
use Rattle.frame.specs.declared.Frame.{Frame}

-- ---- the parts of nine header bytes, which may have more after them

unfoldable pub kind_of : List ℕ → ℕ
kind_of s = get_or s 0 0

unfoldable pub stream_of : List ℕ → ℕ
stream_of s = le (part s 1 4)

unfoldable pub length_of : List ℕ → ℕ
length_of s = le (part s 5 4)

abbrev pub header_of : List ℕ → FrameHeader
header_of s = record { kind = record { 0 = kind_of s }; stream = stream_of s; length = length_of s }

-- ---- reading

-- "`decode_header`: under 9 bytes 1; over the maximum 12."
unfoldable pub decode_header : (max : ℕ) → List ℕ → Result FrameHeader Refusal
decode_header max s =
    pick (ltb (length s) 9) (Err UnexpectedEof)
    (pick (ltb max (length_of s)) (Err (BlockTooLarge (length_of s) max)) (Ok (header_of s)))

-- "`decode_frame`: then 5(length, bytes after header)."
unfoldable pub framed : Result FrameHeader Refusal → List ℕ → Result Frame Refusal
framed (Err e) s = Err e
framed (Ok h) s =
    pick (ltb (length s - 9) h.length) (Err (LengthOutOfRange h.length (length s - 9)))
    (Ok (record { header = h; used = 9 + h.length }))

unfoldable pub decode_frame : (max : ℕ) → List ℕ → Result Frame Refusal
decode_frame max s = framed (decode_header max s) s

-- ---- writing

unfoldable pub frame_bytes : (kind stream : ℕ) → List ℕ → List ℕ
frame_bytes kind stream payload = kind ∷ put_le 4 stream ++ put_le 4 (length payload) ++ payload

-- "a payload over the maximum is refused 12 before anything is written; then 16(5, nine plus payload length). Out holds the frame, then zeros."
unfoldable pub encode_frame : (max kind stream : ℕ) → List ℕ → List ℕ → Sent
encode_frame max kind stream payload out =
    pick (ltb max (length payload))
    (record { answer = Err (BlockTooLarge (length payload) max); out = out })
    (record { answer = wrote out (frame_bytes kind stream payload); out = filled out (frame_bytes kind stream payload) })

-- the frame of document 01's lister
example_whole : decode_frame 67108864 (0x05 ∷ 0x01 ∷ 0 ∷ 0 ∷ 0 ∷ 0x03 ∷ 0 ∷ 0 ∷ 0 ∷ 0x01 ∷ 0x2A ∷ 0x00 ∷ [])
    ≡ Ok (record { header = record { kind = record { 0 = 5 }; stream = 1; length = 3 }; used = 12 })
unfolding decode_frame framed decode_header kind_of stream_of length_of le part
example_whole = refl

example_cut : decode_frame 67108864 (0x05 ∷ 0x01 ∷ 0 ∷ 0 ∷ 0 ∷ 0x03 ∷ 0 ∷ 0 ∷ 0 ∷ 0x01 ∷ []) ≡ Err (LengthOutOfRange 3 1)
unfolding decode_frame framed decode_header kind_of stream_of length_of le part
example_cut = refl

-- 67,108,865 bytes
example_large : decode_header 67108864 (0x05 ∷ 0x01 ∷ 0 ∷ 0 ∷ 0 ∷ 0x01 ∷ 0 ∷ 0 ∷ 0x04 ∷ []) ≡ Err (BlockTooLarge 67108865 67108864)
unfolding decode_header length_of le part
example_large = refl

example_written : encode_frame 67108864 5 1 (0x2A ∷ []) (9 ∷ 9 ∷ 9 ∷ 9 ∷ 9 ∷ 9 ∷ 9 ∷ 9 ∷ 9 ∷ 9 ∷ 9 ∷ [])
    ≡ record { answer = Ok 10; out = 0x05 ∷ 0x01 ∷ 0 ∷ 0 ∷ 0 ∷ 0x01 ∷ 0 ∷ 0 ∷ 0 ∷ 0x2A ∷ 0 ∷ [] }
unfolding encode_frame frame_bytes put_le wrote filled
example_written = refl

example_small : encode_frame 67108864 5 1 (0x2A ∷ []) (9 ∷ []) ≡ record { answer = Err (TooSmall Out 10); out = 9 ∷ [] }
unfolding encode_frame frame_bytes put_le wrote filled
example_small = refl
