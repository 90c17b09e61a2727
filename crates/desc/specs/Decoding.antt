-- Decoding a descriptor into lent memory: "Read alone, a descriptor is a message without rows: bytes after it are ignored, and the bytes
-- used are given."
use Rattle.std.specs.Prelude.{◌≡◌, refl, List, [], ◌∷◌, ℕ, ltb, length, Ok}
use Rattle.varint.specs.Choice.{pick}
use Rattle.varint.specs.Got.{Got}
use Rattle.varint.specs.Leb128.{read_from, get_u64}
use Rattle.varint.specs.Lent.{Left, kept, Taken, fitted, settled}
use Rattle.varint.specs.Stores.{part, filled}
use Rattle.varint.specs.Texts.{skim_text, get_text, get_name}
use Rattle.varint.specs.Utf8.{utf8, scan, lead}
use Rattle.varint.specs.declared.error.Buffer.TheVariants.{Nodes}
use Rattle.varint.specs.declared.error.Refusal.TheVariants.{BlockTooLarge, TooSmall, UnknownRefForm}
use Rattle.desc.specs.Layout.{texts, placed, nodes_of}
use Rattle.desc.specs.Reading.{head_at, label_at, children, desc}
use Rattle.desc.specs.Trees.{Tree, kid_count, size}

-- A descriptor alone, in memory of its own: "text holds the message's texts joined in reading order, rows and nodes hold its rows".
abbrev pub taken_by : Tree (List ℕ) → Taken
taken_by tr = record { text = texts tr; rows = []; nodes = nodes_of (placed tr 0) 0 (0, 0) 0 }

-- what a reading that was accepted, or refused, leaves of the lent memory, and answers: the bytes used
abbrev pub settled_desc : Got (Tree (List ℕ)) → List ℕ → List ℕ → List ℕ → Left ℕ
settled_desc g tx rs nd = settled (λ tr next. next) taken_by g tx rs nd

-- "first 12 for a payload over 67,108,864 bytes"; the maximum and the depth are parameters
unfoldable pub decode_desc : (max limit : ℕ) → List ℕ → List ℕ → List ℕ → List ℕ → Left ℕ
decode_desc max limit s tx rs nd =
    pick (ltb max (length s)) (kept (BlockTooLarge (length s) max) tx rs nd) (settled_desc (desc limit limit s 0) tx rs nd)

-- into two bytes, one number and fifteen, all of them dirty before
example_decoded : decode_desc 67108864 64 (0x04 ∷ 0x01 ∷ 0x01 ∷ 0x78 ∷ 0x09 ∷ 0x00 ∷ 0xFF ∷ []) (9 ∷ 9 ∷ []) (9 ∷ []) (9 ∷ 9 ∷ 9 ∷ 9 ∷ 9 ∷ 9 ∷ 9 ∷ 9 ∷ 9 ∷ 9 ∷ 9 ∷ 9 ∷ 9 ∷ 9 ∷ 9 ∷ [])
    ≡ record { answer = Ok 6; text = 0x78 ∷ 0 ∷ []; rows = 0 ∷ []; nodes = 4 ∷ 0 ∷ 0 ∷ 0 ∷ 0 ∷ 1 ∷ 2 ∷ 0 ∷ 0 ∷ 1 ∷ 9 ∷ 0 ∷ 0 ∷ 2 ∷ 0 ∷ [] }
unfolding decode_desc settled fitted filled desc children head_at label_at get_u64 read_from get_name get_text skim_text utf8 scan lead part texts placed nodes_of size kid_count
example_decoded = refl

-- "TooSmall given before the message is read" is not accepted: a bad descriptor is refused as one, whatever was lent
example_bad : decode_desc 67108864 64 (0x06 ∷ []) [] [] [] ≡ kept (UnknownRefForm 6) [] [] []
unfolding decode_desc settled desc head_at get_u64 read_from
example_bad = refl

example_short : decode_desc 67108864 64 (0x00 ∷ []) [] [] (9 ∷ []) ≡ kept (TooSmall Nodes 7) [] [] (9 ∷ [])
unfolding decode_desc settled fitted desc head_at get_u64 read_from texts placed nodes_of
example_short = refl

-- with a maximum of two bytes
example_large : decode_desc 2 64 (0x03 ∷ 0x00 ∷ 0x00 ∷ []) [] [] [] ≡ kept (BlockTooLarge 3 2) [] [] []
unfolding decode_desc
example_large = refl
