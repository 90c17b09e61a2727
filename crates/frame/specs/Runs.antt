-- Demand 3 as one statement, and small runs worked out.
use Rattle.std.specs.Prelude.{true, ◌≡◌, refl, List, [], ◌∷◌, ◌++◌, map, ℕ, ◌-◌, eqb, leb, length, replicate, Ok, Err}
use Rattle.varint.specs.Choice.{pick}
use Rattle.varint.specs.Fixed.{le}
use Rattle.varint.specs.Leb128.{read_from, get_u64}
use Rattle.varint.specs.Lent.{settled, fitted}
use Rattle.varint.specs.Refusals.{code_of}
use Rattle.varint.specs.Stores.{part, filled}
use Rattle.varint.specs.Texts.{skim_text, get_text, get_name}
use Rattle.varint.specs.Utf8.{utf8, scan, lead}
use Rattle.varint.specs.declared.error.Buffer.TheVariants.{Hold}
use Rattle.varint.specs.declared.error.Mismatch.TheVariants as M
use Rattle.varint.specs.declared.error.Refusal.TheVariants.{TooSmall, TypeMismatch}
use Rattle.protocol.specs.Control.{read_control, lay_control}
use Rattle.protocol.specs.Decoding.{decode_message}
use Rattle.protocol.specs.Said.{read_message, read_entry, lay}
use Rattle.protocol.specs.declared.message.ControlOp.TheVariants.{Finish}
use Rattle.protocol.specs.declared.message.Message.TheVariants as Msg
use Rattle.frame.specs.declared.receiver.Receiver.{Receiver}
use Rattle.frame.specs.Frames.{kind_of, stream_of, length_of}
use Rattle.frame.specs.Worlds.{Setup, Lent, World, editor, receiver_of, running, pad, fresh}
use Rattle.frame.specs.Reading.{frame, halt, Run, done, after, judge, first_of, first, holding, stopped_at, decoded_kind, answered, read, reading}
use Rattle.frame.specs.Offering.{Opens, opens, declined, stop_of, header_held, payload_held, impossible, handed, loads, settles, takes, offering}
use Rattle.frame.specs.Driving.{joined, plus, Driven, later, drive, steps_in, driving}

-- the world after an opening
abbrev pub opened : Opens → Lent → World
opened o b = record { receiver = o.receiver; hold = o.hold; lent = b }

-- the pieces behind the one that byte n of the run, counted from 1, lies in
unfoldable pub behind : ℕ → List (List ℕ) → List (List ℕ)
behind n [] = []
behind n (p ∷ ps) = pick (leb n (length p)) ps (behind (n - length p) ps)

-- the pieces that a run which stopped has not taken from: those behind the stop's ninth header byte, its last byte used
unfoldable pub later_pieces : Run → List (List ℕ) → List (List ℕ)
later_pieces r ps = pick (eqb r.world.receiver.progress.stop 0) [] (behind r.used ps)

-- What pieces gave is what a reading r says: everything handed out, the bytes used, the receiver and every buffer; and each offer after the stop, one for
-- each later piece, gave the stop's refusal, used nothing and left all as the run did.
pub record Cuts (pieces : List (List ℕ)) (d : Driven) (r : Run) : Type 0 where
  pub run : d.run ≡ r
  pub again : d.again ≡ map (λ _. declined (stop_of r.world.receiver) r.world) (later_pieces r pieces)

-- Demand 3, "a single claim about the list of pieces": for every list of pieces offered to a fresh receiver, everything handed out and every buffer equals the
-- reading of the joined bytes, and each offer after a stop gives the stop's refusal again and changes nothing. "A fresh receiver comes straight from an
-- accepted opening, with the hold as that left it; the kind table may be any, and hold, text, rows and nodes of any length." The host's receiver before the
-- opening, and what hold, text, rows and nodes held, may be anything too.
abbrev pub EveryCut : Type 0
EveryCut = (before : Receiver) (table hold : List ℕ) (lent : Lent) (pieces : List (List ℕ)) → length table ≡ 256
    → Cuts pieces (driving editor (opened (opens before table hold) lent) pieces) (reading editor (record { table = table; room = length hold }) (joined pieces) lent)

-- ---- nothing stays behind

-- "nine header bytes with their count (zeros after)", "hold zero after": header and hold are what is held, and zeros
pub record ZeroAfter (w : World) : Type 0 where
  pub header : w.receiver.progress.header ≡ pad 9 (header_held w.receiver.progress)
  pub hold : w.hold ≡ pad w.receiver.progress.hold_len (payload_held w)

-- so it is after every list of pieces
abbrev pub EveryRest : Type 0
EveryRest = (before : Receiver) (table hold : List ℕ) (lent : Lent) (pieces : List (List ℕ)) → length table ≡ 256
    → ZeroAfter (driving editor (opened (opens before table hold) lent) pieces).run.world

-- ---- two frames of no known kind, the second empty, and ten bytes of a third, in five pieces

pieces : List (List ℕ)
pieces = (7 ∷ 2 ∷ 0 ∷ []) ∷ [] ∷ (0 ∷ 0 ∷ 3 ∷ 0 ∷ 0 ∷ 0 ∷ 7 ∷ 8 ∷ []) ∷ (9 ∷ 8 ∷ 5 ∷ 0 ∷ 0 ∷ 0 ∷ 0 ∷ 0 ∷ 0 ∷ 0 ∷ 1 ∷ 2 ∷ []) ∷ (0 ∷ 0 ∷ 0 ∷ 3 ∷ 0 ∷ 0 ∷ 0 ∷ 4 ∷ []) ∷ []

setup : ℕ → Setup
setup n = record { table = []; room = n }

lent : List ℕ → Lent
lent text = record { text = text; rows = 9 ∷ []; nodes = [] }

cleared : List ℕ → Lent
cleared text = record { text = text; rows = 0 ∷ []; nodes = [] }

opaque : ℕ → ℕ → ℕ → ℕ → List ℕ → Rattle.frame.specs.Reading.Event
opaque kind stream len n text = frame (record { kind = record { 0 = kind }; stream = stream; length = len }) (Ok (Msg.Opaque (record { start = 0; len = n }))) (cleared text)

example_read : reading editor (setup 5) (joined pieces) (lent (1 ∷ 2 ∷ 3 ∷ 4 ∷ []))
    ≡ record {
      events = opaque 7 2 3 3 (7 ∷ 8 ∷ 9 ∷ 0 ∷ []) ∷ opaque 8 5 0 0 (0 ∷ 0 ∷ 0 ∷ 0 ∷ []) ∷ [];
      used = 31;
      world = record { receiver = receiver_of (setup 5) (1 ∷ 2 ∷ 0 ∷ 0 ∷ 0 ∷ 3 ∷ 0 ∷ 0 ∷ 0 ∷ []) 9 1 running; hold = 4 ∷ 0 ∷ 0 ∷ 0 ∷ 0 ∷ []; lent = cleared (0 ∷ 0 ∷ 0 ∷ 0 ∷ []) };
    }
unfolding pieces setup lent cleared opaque joined reading read first first_of judge holding answered decoded_kind decode_message settled fitted read_message read_entry lay filled done after pad kind_of stream_of length_of le part
example_read = refl

example_driven : driving editor (fresh (setup 5) (lent (1 ∷ 2 ∷ 3 ∷ 4 ∷ []))) pieces
    ≡ record { run = reading editor (setup 5) (joined pieces) (lent (1 ∷ 2 ∷ 3 ∷ 4 ∷ [])); again = [] }
unfolding pieces setup lent cleared joined reading read first first_of judge holding answered decoded_kind decode_message settled fitted read_message read_entry lay filled done after pad kind_of stream_of length_of le part driving drive later plus steps_in fresh offering impossible takes settles loads handed
example_driven = refl

-- ---- an opening with a kind table of 256 entries, over a hold that was dirty

-- kind 42 is control, any other is opaque
kinds : List ℕ
kinds = replicate 42 0 ++ (7 ∷ replicate 213 0)

example_kinds : length kinds ≡ 256
unfolding kinds
example_kinds = refl

session : World
session = opened (opens (receiver_of (record { table = []; room = 0 }) [] 3 1 running) kinds (9 ∷ 9 ∷ 9 ∷ 9 ∷ 9 ∷ [])) (record { text = 9 ∷ 9 ∷ []; rows = 9 ∷ []; nodes = [] })

-- control `02 01 61 07 00`, which is accepted; `02 01 61`, which is refused; a header that asks for six bytes of a hold of five, and a byte behind it; and two
-- pieces more, the last with no bytes
cuts : List (List ℕ)
cuts = (42 ∷ 1 ∷ 0 ∷ 0 ∷ []) ∷ (0 ∷ 5 ∷ 0 ∷ 0 ∷ 0 ∷ 0x02 ∷ 0x01 ∷ 0x61 ∷ 0x07 ∷ 0x00 ∷ 42 ∷ 2 ∷ 0 ∷ 0 ∷ 0 ∷ 3 ∷ 0 ∷ 0 ∷ 0 ∷ 0x02 ∷ 0x01 ∷ [])
    ∷ (0x61 ∷ 42 ∷ 3 ∷ 0 ∷ 0 ∷ 0 ∷ 6 ∷ 0 ∷ 0 ∷ 0 ∷ 77 ∷ []) ∷ (1 ∷ 2 ∷ []) ∷ [] ∷ []

-- the text of the accepted message, which the refused one keeps
shown : Lent
shown = record { text = 0x61 ∷ 0 ∷ []; rows = 0 ∷ []; nodes = [] }

stopped : World
stopped = record {
  receiver = receiver_of (record { table = kinds; room = 5 }) (42 ∷ 3 ∷ 0 ∷ 0 ∷ 0 ∷ 6 ∷ 0 ∷ 0 ∷ 0 ∷ []) 9 0 (code_of (TooSmall Hold 6));
  hold = 0 ∷ 0 ∷ 0 ∷ 0 ∷ 0 ∷ [];
  lent = shown;
}

-- the stop's refusal once in the run, and again from each of the two offers after it
example_session : driving editor session cuts ≡ record {
  run = record {
    events = frame (record { kind = record { 0 = 42 }; stream = 1; length = 5 }) (Ok (Msg.Control Finish (record { start = 0; len = 1 }) true (record { start = 1; len = 0 }))) shown
        ∷ frame (record { kind = record { 0 = 42 }; stream = 2; length = 3 }) (Err (TypeMismatch M.ControlFlag)) shown
        ∷ halt (code_of (TooSmall Hold 6)) ∷ [];
    used = 35;
    world = stopped;
  };
  again = declined (code_of (TooSmall Hold 6)) stopped ∷ declined (code_of (TooSmall Hold 6)) stopped ∷ [];
}
unfolding session kinds cuts shown stopped opens decoded_kind decode_message settled fitted read_message read_entry read_control lay lay_control get_u64 read_from get_name get_text skim_text utf8 scan lead filled done after pad kind_of stream_of length_of le part driving drive later plus steps_in offering impossible takes settles loads handed judge
example_session = refl

-- the two pieces behind the stop's ninth header byte, which is byte 35
example_later : later_pieces (driving editor session cuts).run cuts ≡ (1 ∷ 2 ∷ []) ∷ [] ∷ []
unfolding later_pieces behind session kinds cuts opens decoded_kind decode_message settled fitted read_message read_entry read_control lay lay_control get_u64 read_from get_name get_text skim_text utf8 scan lead filled done after pad kind_of stream_of length_of le part driving drive later plus steps_in offering impossible takes settles loads handed judge
example_later = refl

-- the reading of the same bytes, joined
example_session_read : reading editor (record { table = kinds; room = 5 }) (joined cuts) session.lent ≡ (driving editor session cuts).run
unfolding session kinds cuts joined opens reading read first first_of judge holding stopped_at answered decoded_kind decode_message settled fitted read_message read_entry read_control lay lay_control get_u64 read_from get_name get_text skim_text utf8 scan lead filled done after pad kind_of stream_of length_of le part driving drive later plus steps_in offering impossible takes settles loads handed
example_session_read = refl
