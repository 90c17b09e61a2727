-- What the lister prints of a run, said of the run's events: so the lines of pieces are those of `driving`, which demand 3 holds against the reading of the
-- joined bytes.
use Rattle.std.specs.Prelude.{◌≡◌, refl, List, [], ◌∷◌, ◌++◌, ℕ, length, replicate}
use Rattle.std.proofs.lemmas.List.Edits.{sets}
use Rattle.varint.specs.Fixed.{le}
use Rattle.varint.specs.Leb128.{read_from, get_u64}
use Rattle.varint.specs.Lent.{settled, fitted}
use Rattle.varint.specs.Outs.{declared}
use Rattle.varint.specs.Stores.{part, filled}
use Rattle.protocol.specs.Decoding.{decode_message}
use Rattle.protocol.specs.Ready.{read_ready, lay_ready}
use Rattle.protocol.specs.Said.{read_message, read_entry, lay}
use Rattle.frame.specs.declared.receiver.Receiver.{Receiver}
use Rattle.frame.specs.Frames.{kind_of, stream_of, length_of}
use Rattle.frame.specs.Worlds.{World, Lent, editor, receiver_of, running, pad}
use Rattle.frame.specs.Reading.{Event, frame, halt, denied, Run, done, after, judge, decoded_kind, reading}
use Rattle.frame.specs.Offering.{world_of, opens, impossible, handed, loads, settles, takes, offering}
use Rattle.frame.specs.Driving.{joined, plus, later, drive, steps_in, driving}
use Rattle.frame.specs.Runs.{opened}
use Rattle.listing.specs.declared.Last.{Last}
use Rattle.listing.specs.declared.Last.TheVariants.{Held, Stopped}
use Rattle.listing.specs.declared.Listed.{Listed}
use Rattle.listing.specs.Lines.{decimal_by, decimal, column, line_of, number_of, held_of, last_line}

-- "Each frame is a line". A stop is no line of its own, but the last line, and so is an offer that is refused: nothing is listed after it.
unfoldable pub lines_of : List Event → List ℕ
lines_of [] = []
lines_of (frame h a b ∷ es) = line_of h.kind.0 h.stream h.length (number_of a) ++ lines_of es
lines_of (halt e ∷ es) = []
lines_of (denied e ∷ es) = []

-- "Last: `held` and the count of header and payload bytes held, or `stopped` and the number."
unfoldable pub last_of : List Event → Receiver → Last
last_of [] r = Held (held_of r)
last_of (frame h a b ∷ es) r = last_of es r
last_of (halt e ∷ es) r = Stopped e.number
last_of (denied e ∷ es) r = Stopped e.number

-- ---- a piece

-- a piece that was listed: the receiver and the lent memory after it, how the run ends if no piece follows, and the page with the count of bytes of its lines
pub record Listing : Type 0 where
  pub world : World
  pub last : Last
  pub len : ℕ
  pub page : List ℕ

-- The lines stand from the page's start on. What lies past its end is not stored and is counted all the same; "a length over 2^64−1 is declared as 2^64−1".
unfoldable pub listed : Run → (page : List ℕ) → Listing
listed r page = record {
  world = r.world;
  last = last_of r.events r.world.receiver;
  len = declared (length (lines_of r.events));
  page = sets page 0 (lines_of r.events);
}

-- the memory of a call, as the definition has it
abbrev pub listing_of : Listed → Receiver → (hold text rows nodes page : List ℕ) → Listing
listing_of l r hold text rows nodes page = record { world = world_of r hold text rows nodes; last = l.last; len = l.len; page = page }

-- ---- a run

-- all that is printed of a run: a line for each frame, and the last line
unfoldable pub text_of : Run → List ℕ
text_of r = lines_of r.events ++ last_line (last_of r.events r.world.receiver)

-- Pieces listed one after the other, each from the world that the one before left, until the run has stopped; and then the last line.
unfoldable pub printed : World → Last → List (List ℕ) → List ℕ
printed w last [] = last_line last
printed w last (p ∷ ps) =
    elim last [
      | Held n ↦
          let r : Run = (driving editor w (p ∷ [])).run in
          lines_of r.events ++ printed r.world (last_of r.events r.world.receiver) ps
      | Stopped n ↦ last_line (Stopped n)
    ]

-- After an accepted opening, whatever the pieces, what is printed is the text of document 01's reading of the joined bytes: how the input was cut never shows.
abbrev pub EveryListing : Type 0
EveryListing = (before : Receiver) (table hold : List ℕ) (lent : Lent) (pieces : List (List ℕ)) → length table ≡ 256
    → printed (opened (opens before table hold) lent) (Held 0) pieces ≡ text_of (reading editor (record { table = table; room = length hold }) (joined pieces) lent)

-- ---- document 01's example, its run cut into three pieces: `5 1 3 0` and `held 0`

kinds : List ℕ
kinds = replicate 5 0 ++ (2 ∷ replicate 250 0)

memory : Lent
memory = record { text = 9 ∷ []; rows = []; nodes = 9 ∷ [] }

session : World
session = opened (opens (receiver_of (record { table = []; room = 0 }) [] 3 1 running) kinds (9 ∷ 9 ∷ 9 ∷ 9 ∷ [])) memory

cuts : List (List ℕ)
cuts = (0x05 ∷ 0x01 ∷ 0x00 ∷ 0x00 ∷ []) ∷ (0x00 ∷ 0x03 ∷ 0x00 ∷ 0x00 ∷ 0x00 ∷ 0x01 ∷ 0x2A ∷ []) ∷ (0x00 ∷ []) ∷ []

example_printed : printed session (Held 0) cuts
    ≡ 0x35 ∷ 0x20 ∷ 0x31 ∷ 0x20 ∷ 0x33 ∷ 0x20 ∷ 0x30 ∷ 0x0A ∷ 0x68 ∷ 0x65 ∷ 0x6C ∷ 0x64 ∷ 0x20 ∷ 0x30 ∷ 0x0A ∷ []
unfolding kinds memory session cuts printed lines_of last_of line_of last_line column decimal decimal_by opens decoded_kind decode_message settled fitted read_message read_entry read_ready lay lay_ready get_u64 read_from filled done after pad kind_of stream_of length_of le part driving drive later plus steps_in offering impossible takes settles loads handed judge
example_printed = refl

-- a header that asks for five bytes of a hold of four, and a byte after it: a run that stops has its lines before, and the refusal's number
example_stop : printed session (Held 0) (cuts ++ ((0x05 ∷ 0x01 ∷ 0x00 ∷ 0x00 ∷ 0x00 ∷ 0x05 ∷ 0x00 ∷ 0x00 ∷ 0x00 ∷ 0x07 ∷ []) ∷ (0x01 ∷ []) ∷ []))
    ≡ 0x35 ∷ 0x20 ∷ 0x31 ∷ 0x20 ∷ 0x33 ∷ 0x20 ∷ 0x30 ∷ 0x0A ∷ 0x73 ∷ 0x74 ∷ 0x6F ∷ 0x70 ∷ 0x70 ∷ 0x65 ∷ 0x64 ∷ 0x20 ∷ 0x31 ∷ 0x36 ∷ 0x0A ∷ []
unfolding kinds memory session cuts printed lines_of last_of line_of last_line column decimal decimal_by opens decoded_kind decode_message settled fitted read_message read_entry read_ready lay lay_ready get_u64 read_from filled done after pad kind_of stream_of length_of le part driving drive later plus steps_in offering impossible takes settles loads handed judge
example_stop = refl
