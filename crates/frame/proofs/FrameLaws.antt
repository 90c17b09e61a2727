-- Laws of frames: what a decoded header and a decoded frame are, decoding what was encoded, and encoding what was decoded.
use mathlib.Core.Path.{◌≡◌, refl, sym, ◌∙◌, ap}
use mathlib.Core.List.{List, [], ◌∷◌, ◌++◌}
use Prim.Native.Nat.{ℕ, ◌+◌, ◌-◌, ◌≤◌, ◌<◌}
use native.Mathlib.Omega.{arith}
use lib.Dec.{ltb}
use lib.ListN.{length, take, set, get_or, replicate, length-append}
use lib.Seq.{sets, take-append_seam}
use borrow.Author.Tests.{le-ltb, ltb-false}
use Rattle.std.proofs.lemmas.List.{get_or-take}
use Rattle.std.specs.Int.{w32, from_le_bytes}
use Rattle.varint.specs.Fixed.{le, put_le}
use Rattle.varint.specs.RoundTrips.{Bytes}
use Rattle.varint.specs.Stores.{part, clear_from, filled}
use Rattle.varint.proofs.Basics.{never, pick_cases}
use Rattle.varint.proofs.FixedLaws.{length_put_le, le_put_le, put_le_le}
use Rattle.varint.proofs.StoreLaws.{length_part, part_add, part_all, part_cons, sets_append, filled_fits, filled_steps}
use Rattle.varint.proofs.VarintLaws.{part_bytes}
use Rattle.frame.specs.declared.Frame.{Frame}
use Rattle.frame.specs.declared.FrameHeader.{FrameHeader}
use Rattle.frame.specs.FrameReturns.{FrameReturns, FrameBytesReturn}
use Rattle.frame.specs.Frames.{kind_of, stream_of, length_of, header_of, frame_bytes, decode_header, framed, decode_frame, encode_frame}
use Rattle.std.specs.Prelude.{Result, Ok, Err}
use Rattle.varint.specs.declared.error.Refusal.{Refusal}

pub length_frame_bytes : (kind stream : ℕ) (payload : List ℕ) → length (frame_bytes kind stream payload) ≡ 9 + length payload
unfolding frame_bytes
length_frame_bytes kind stream payload = simp (length-append, length_put_le) (omega arith)

-- ---- what is encoded

-- a header and a payload, stored one after the other
stored : (kind stream : ℕ) (payload d : List ℕ)
    → sets (sets (sets (set d 0 kind) 1 (put_le 4 stream)) 5 (put_le 4 (length payload))) 9 (part payload 0 (length payload)) ≡ sets d 0 (frame_bytes kind stream payload)
unfolding frame_bytes
stored kind stream payload d =
    let x : List ℕ = put_le 4 stream in
    let y : List ℕ = put_le 4 (length payload) in
    let l : length (x ++ y) ≡ 8 = simp (length-append, length_put_le) in
    rw (part_all payload, sets_append (x ++ y) payload (set d 0 kind) 1, l, sets_append x y (set d 0 kind) 1, length_put_le 4 stream)

-- and zeros after them
pub frame_sent : (kind stream : ℕ) (payload d : List ℕ) → 9 + length payload ≤ length d
    → clear_from (sets (sets (sets (set d 0 kind) 1 (put_le 4 stream)) 5 (put_le 4 (length payload))) 9 (part payload 0 (length payload))) (9 + length payload)
    ≡ filled d (frame_bytes kind stream payload)
frame_sent kind stream payload d h =
    let n = length_frame_bytes kind stream payload in
    rw (stored kind stream payload d, ← n) (filled_steps d (frame_bytes kind stream payload) (rw n h))

-- ---- the fields of a header

part_none : (s : List ℕ) (from : ℕ) → part s from 0 ≡ []
unfolding part
part_none s from = refl

-- a field's four bytes, one by one
four_bytes : (s : List ℕ) (at : ℕ) → at + 4 ≤ length s
    → part s at 4 ≡ get_or s at 0 ∷ get_or s (at + 1) 0 ∷ get_or s (at + 2) 0 ∷ get_or s (at + 3) 0 ∷ []
four_bytes s at h =
    let two : at + 1 + 1 ≡ at + 2 = omega arith in
    let three : at + 2 + 1 ≡ at + 3 = omega arith in
    rw (
      part_cons s at 4 (omega arith) (omega arith),
      part_cons s (at + 1) 3 (omega arith) (omega arith),
      two,
      part_cons s (at + 2) 2 (omega arith) (omega arith),
      three,
      part_cons s (at + 3) 1 (omega arith) (omega arith),
      part_none s (at + 3 + 1),
    )

-- and so the number that the library reads of them
pub field_is : (s : List ℕ) (at : ℕ) → at + 4 ≤ length s
    → le (part s at 4) ≡ from_le_bytes w32 (get_or s at 0 ∷ get_or s (at + 1) 0 ∷ get_or s (at + 2) 0 ∷ get_or s (at + 3) 0 ∷ [])
unfolding le
field_is s at h = rw (four_bytes s at h) (omega arith)

-- Of a header the first nine bytes are read: what the library makes of them.
module _ (s b : List ℕ) (e : b ≡ take 9 s) (h : 9 ≤ length s) where
  byte : (i : ℕ) → i < 9 → get_or s i 0 ≡ get_or b i 0
  byte i k = rw e (sym (get_or-take 9 s i 0 k))

  field : (at : ℕ) → at + 4 ≤ 9 → le (part s at 4) ≡ from_le_bytes w32 (get_or b at 0 ∷ get_or b (at + 1) 0 ∷ get_or b (at + 2) 0 ∷ get_or b (at + 3) 0 ∷ [])
  field at k = rw (← byte at (omega arith), ← byte (at + 1) (omega arith), ← byte (at + 2) (omega arith), ← byte (at + 3) (omega arith)) (field_is s at (omega arith))

  pub kind_is : kind_of s ≡ get_or b 0 0
  unfolding kind_of
  kind_is = byte 0 (omega arith)

  pub stream_is : {n : ℕ} → n ≡ from_le_bytes w32 (get_or b 1 0 ∷ get_or b 2 0 ∷ get_or b 3 0 ∷ get_or b 4 0 ∷ []) → stream_of s ≡ n
  unfolding stream_of
  stream_is i = field 1 (omega arith) ∙ sym i

  pub length_is : {n : ℕ} → n ≡ from_le_bytes w32 (get_or b 5 0 ∷ get_or b 6 0 ∷ get_or b 7 0 ∷ get_or b 8 0 ∷ []) → length_of s ≡ n
  unfolding length_of
  length_is i = field 5 (omega arith) ∙ sym i

-- ---- what was decoded

-- a header was decoded
pub record Heading (max : ℕ) (s : List ℕ) (h : FrameHeader) : Type 0 where
  pub room : 9 ≤ length s
  pub small : length_of s ≤ max
  pub same : h ≡ header_of s

pub heading : (max : ℕ) (s : List ℕ) (h : FrameHeader) → decode_header max s ≡ Ok h → Heading max s h
unfolding decode_header
heading max s h e =
    pick_cases (λ (x : Result FrameHeader Refusal). x ≡ Ok h → Heading max s h) (ltb (length s) 9)
    (λ _ f. never (cc (f)))
    (λ t.
    pick_cases (λ (x : Result FrameHeader Refusal). x ≡ Ok h → Heading max s h) (ltb max (length_of s))
    (λ _ f. never (cc (f)))
    (λ u f. record { room = ltb-false (length s) 9 t; small = ltb-false max (length_of s) u; same = cc (f) }))
    e

-- a whole frame was decoded
pub record Framing (max : ℕ) (s : List ℕ) (f : Frame) : Type 0 where
  pub header : Heading max s f.header
  pub fits : length_of s ≤ length s - 9
  pub used : f.used ≡ 9 + length_of s

framed_is : (max : ℕ) (s : List ℕ) (f : Frame) (a : Result FrameHeader Refusal) → decode_header max s ≡ a → framed a s ≡ Ok f → Framing max s f
unfolding framed
framed_is max s f (Err e) d p = never (cc)
framed_is max s f (Ok h) d p =
    let g = heading max s h d in
    pick_cases (λ (x : Result Frame Refusal). x ≡ Ok f → Framing max s f) (ltb (length s - 9) h.length)
    (λ _ q. never (cc (q)))
    (λ t q.
    let k : h.length ≤ length s - 9 = ltb-false (length s - 9) h.length t in
    let same : h ≡ f.header = cc (q) in
    let n : h.length ≡ length_of s = ap (λ (x : FrameHeader). x.length) g.same in
    let u : 9 + h.length ≡ f.used = cc (q) in
    record { header = rw same at g; fits = omega arith; used = omega arith })
    p

pub framing : (max : ℕ) (s : List ℕ) (f : Frame) → decode_frame max s ≡ Ok f → Framing max s f
unfolding decode_frame
framing max s f e = framed_is max s f (decode_header max s) refl e

-- ---- decoding what was encoded

module _ (kind stream : ℕ) (payload rest : List ℕ) where
  whole : List ℕ
  whole = frame_bytes kind stream payload ++ rest

  kind_back : kind_of whole ≡ kind
  unfolding whole kind_of frame_bytes
  kind_back = refl

  stream_back : stream < 4294967296 → stream_of whole ≡ stream
  unfolding whole stream_of part frame_bytes put_le
  stream_back h = le_put_le 4 stream h

  length_back : length payload < 4294967296 → length_of whole ≡ length payload
  unfolding whole length_of part frame_bytes put_le
  length_back h = le_put_le 4 (length payload) h

  pub payload_back : part (frame_bytes kind stream payload ++ rest) 9 (length payload) ≡ payload
  unfolding part frame_bytes put_le
  payload_back = take-append_seam payload rest

  -- whatever follows it
  pub frame_back : (max : ℕ) → stream < 4294967296 → max < 4294967296 → length payload ≤ max
      → decode_frame max (frame_bytes kind stream payload ++ rest)
      ≡ Ok (record { header = record { kind = record { 0 = kind }; stream = stream; length = length payload }; used = 9 + length payload })
  unfolding whole decode_frame framed decode_header
  frame_back max hs hm hp =
      let l : length whole ≡ 9 + length payload + length rest = simp (length-append, length_frame_bytes) in
      let k : kind_of whole ≡ kind = kind_back in
      let a : 9 ≤ length whole = omega arith in
      let b : length payload ≤ length whole - 9 = omega arith in
      rw (le-ltb (length whole) 9 a, length_back (omega arith), le-ltb max (length payload) hp, le-ltb (length whole - 9) (length payload) b, stream_back hs, k)

-- the same for what a writer leaves in its buffer
pub written_back : FrameReturns
unfolding encode_frame
written_back max kind stream payload d hs hm hp hd =
    let Z : List ℕ = replicate (length d - length (frame_bytes kind stream payload)) 0 in
    rw (le-ltb max (length payload) hp, filled_fits d (frame_bytes kind stream payload) (rw length_frame_bytes hd))
    (frame_back kind stream payload Z max hs hm hp, payload_back kind stream payload Z)

-- ---- encoding what was decoded

-- the bytes of a field are the digits of its number
field_back : (s : List ℕ) (at : ℕ) → Bytes s → at + 4 ≤ length s → put_le 4 (le (part s at 4)) ≡ part s at 4
field_back s at B h = put_le_le 4 (part s at 4) (part_bytes s at 4 B) (length_part s at 4 h)

header_back : (s : List ℕ) (n : ℕ) → 9 ≤ length s → kind_of s ∷ ((part s 1 4 ++ part s 5 4) ++ part s 9 n) ≡ take (9 + n) s
unfolding kind_of part
header_back s n h =
    let a : part s 0 9 ≡ kind_of s ∷ part s 1 8 = part_cons s 0 9 (omega arith) (omega arith) in
    sym (part_add s 0 9 n ∙ ap (λ (x : List ℕ). x ++ part s 9 n) (a ∙ ap (λ (x : List ℕ). kind_of s ∷ x) (part_add s 1 4 4)))

pub bytes_back : FrameBytesReturn
unfolding frame_bytes stream_of length_of
bytes_back max s f B e =
    let g = framing max s f e in
    let r = g.header.room in
    let p = g.fits in
    let l : length (part s 9 (length_of s)) ≡ length_of s = length_part s 9 (length_of s) (omega arith) in
    rw (g.header.same, l, g.used, field_back s 1 B (omega arith), field_back s 5 B (omega arith)) (header_back s (length_of s) r)
