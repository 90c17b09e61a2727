-- What the entry points of frames, the slot and the receiver answer and leave, by the definitions of the layer of frames.
use Rattle.std.specs.Prelude.{◌≡◌, refl, List, [], ◌∷◌, ℕ, get_or, Result, Ok, Err}
use Rattle.varint.specs.Stores.{part}
use Rattle.varint.specs.Fixed.{le}
use Rattle.frame.specs.Frames.{decode_header, decode_frame, framed, encode_frame, kind_of, stream_of, length_of}
use Rattle.frame.specs.Offering.{Opens, opens, Offer, offering, world_of}
use Rattle.frame.specs.Slots.{Slot, put_slot, slot_of}
use Rattle.frame.specs.Worlds.{editor}
use Rattle.frame.specs.declared.FrameHeader.{FrameHeader}
use Rattle.frame.specs.declared.receiver.Outcome.{Outcome}
use Rattle.frame.specs.declared.receiver.Outcome.TheVariants.{More, Handed, Stopped, Refused}
use Rattle.frame.specs.declared.receiver.Receiver.{Receiver}
use Rattle.gateway.specs.Answers.{numbers_of, no_fields, given, accepted, refused, of_message, of_done}
use Rattle.gateway.specs.Entries.{Told, Encoded, told, encoded, sent_left, named_entry}
use Rattle.gateway.specs.declared.answers.Parts.{Parts}
use Rattle.varint.specs.declared.error.Refusal.{Refusal}
use Rattle.frame.specs.declared.Frame.{Frame}

-- a frame's header beside what else is told
abbrev pub headed : FrameHeader → (used : ℕ) → Parts → Parts
headed h u p = record {
  refusal = p.refusal;
  used = u;
  kind = h.kind.0;
  stream = h.stream;
  length = h.length;
  message = p.message;
  fields = p.fields;
}

-- fjord_encode_frame

unfoldable pub encode_frame_call : (kind stream : ℕ) → List ℕ → List ℕ → Encoded
encode_frame_call kind stream payload d = sent_left (encode_frame 67108864 kind stream payload d)

-- fjord_decode_header, fjord_decode_frame

abbrev pub of_header : Result FrameHeader Refusal → Parts
of_header (Ok h) = headed h 0 (accepted 0 0 no_fields)
of_header (Err e) = refused 0 e

abbrev pub of_frame : Result Frame Refusal → Parts
of_frame (Ok f) = headed f.header f.used (accepted 0 0 no_fields)
of_frame (Err e) = refused 0 e

unfoldable pub header_call : List ℕ → Told
header_call s = told (of_header (decode_header 67108864 s))

unfoldable pub frame_call : List ℕ → Told
frame_call s = told (of_frame (decode_frame 67108864 s))

-- fjord_put_slot

abbrev pub slot_left : Slot → Encoded
slot_left s = encoded (of_done s.answer) s.slot

unfoldable pub slot_call : (text : List ℕ) → (start len : ℕ) → (slot : List ℕ) → Encoded
slot_call text start len slot = slot_left (put_slot text start len slot)

-- fjord_open: "hold and host's receiver then stay unaltered"

pub record OpenLeft : Type 0 where
  pub result : ℕ
  pub answer : List ℕ
  pub receiver : Receiver
  pub hold : List ℕ

abbrev pub open_left : Opens → OpenLeft
open_left o = record { result = (of_done o.opening).refusal.number; answer = numbers_of (of_done o.opening); receiver = o.receiver; hold = o.hold }

unfoldable pub open_call : Receiver → (table hold : List ℕ) → OpenLeft
open_call r table hold = open_left (opens r table hold)

-- what the entry point says, here and where it is exported
pub record OpensTo (r : Receiver) (table hold answer : List ℕ) (result : ℕ) (r' : Receiver) (hold' answer' : List ℕ) : Type 0 where
  pub is : ◌≡◌ {A = OpenLeft} (record { result = result; answer = answer'; receiver = r'; hold = hold' }) (open_call r table hold)

-- fjord_offer

pub record OfferLeft : Type 0 where
  pub result : ℕ
  pub answer : List ℕ
  pub receiver : Receiver
  pub hold : List ℕ
  pub text : List ℕ
  pub rows : List ℕ
  pub nodes : List ℕ

-- 0: more is wanted; 1: a frame is handed out; 2: the run stops here; 3: the offer is refused
abbrev pub result_of : Outcome → ℕ
result_of More = 0
result_of (Handed h a) = 1
result_of (Stopped e) = 2
result_of (Refused e) = 3

-- a frame "by kind, stream, length, and message or refusal with details"; the message's number is the kind table's, also where the message is refused
abbrev pub of_outcome : (table : List ℕ) → (used : ℕ) → Outcome → Parts
of_outcome table u More = accepted u 0 no_fields
of_outcome table u (Handed h a) = headed h u (of_message (named_entry (get_or table h.kind.0 0)) a)
of_outcome table u (Stopped e) = given e u 0 no_fields
of_outcome table u (Refused e) = given e u 0 no_fields

abbrev pub offer_left : (table : List ℕ) → Offer → OfferLeft
offer_left table o = record {
  result = result_of o.outcome;
  answer = numbers_of (of_outcome table o.used o.outcome);
  receiver = o.world.receiver;
  hold = o.world.hold;
  text = o.world.lent.text;
  rows = o.world.lent.rows;
  nodes = o.world.lent.nodes;
}

unfoldable pub offer_call : Receiver → (piece hold text rows nodes : List ℕ) → OfferLeft
offer_call r piece hold text rows nodes = offer_left r.table (offering editor (world_of r hold text rows nodes) piece)

pub record OffersTo (r : Receiver) (piece hold text rows nodes answer : List ℕ) (result : ℕ) (r' : Receiver) (hold' text' rows' nodes' answer' : List ℕ) : Type 0 where
  pub is : ◌≡◌ {A = OfferLeft}
      (record { result = result; answer = answer'; receiver = r'; hold = hold'; text = text'; rows = rows'; nodes = nodes' })
      (offer_call r piece hold text rows nodes)

-- the frame of document 01's lister, cut after its first payload byte: 5(3, 1)
example_cut : frame_call (0x05 ∷ 0x01 ∷ 0 ∷ 0 ∷ 0 ∷ 0x03 ∷ 0 ∷ 0 ∷ 0 ∷ 0x01 ∷ [])
    ≡ record { result = 5; answer = 5 ∷ 3 ∷ 1 ∷ 0 ∷ 0 ∷ 0 ∷ 0 ∷ 0 ∷ 0 ∷ 0 ∷ 0 ∷ 0 ∷ 0 ∷ 0 ∷ 0 ∷ 0 ∷ [] }
unfolding frame_call decode_frame framed decode_header kind_of stream_of length_of le part
example_cut = refl

example_header : header_call (0x05 ∷ 0x01 ∷ 0 ∷ 0 ∷ 0 ∷ 0x03 ∷ 0 ∷ 0 ∷ 0 ∷ [])
    ≡ record { result = 0; answer = 0 ∷ 0 ∷ 0 ∷ 0 ∷ 5 ∷ 1 ∷ 3 ∷ 0 ∷ 0 ∷ 0 ∷ 0 ∷ 0 ∷ 0 ∷ 0 ∷ 0 ∷ 0 ∷ [] }
unfolding header_call decode_header kind_of stream_of length_of le part
example_header = refl

example_slot : slot_call (0x61 ∷ []) 0 1 (9 ∷ 9 ∷ []) ≡ record { result = 0; answer = 0 ∷ 0 ∷ 0 ∷ 0 ∷ 0 ∷ 0 ∷ 0 ∷ 0 ∷ 0 ∷ 0 ∷ 0 ∷ 0 ∷ 0 ∷ 0 ∷ 0 ∷ 0 ∷ []; out = 0x61 ∷ 0x20 ∷ [] }
unfolding slot_call put_slot slot_of part
example_slot = refl
