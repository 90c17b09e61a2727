-- Decoding: a payload is read, laid out, and stored where it fits.
use Rattle.std.specs.Prelude.{true, ◌≡◌, refl, List, [], ◌∷◌, ℕ, Ok}
use Rattle.varint.specs.Formats.{read_times}
use Rattle.varint.specs.Leb128.{read_from, get_u64}
use Rattle.varint.specs.Lent.{Left, kept, Taken, fitted, settled}
use Rattle.varint.specs.Stores.{part, filled}
use Rattle.varint.specs.Texts.{skim_text, get_text, get_name}
use Rattle.varint.specs.Utf8.{utf8, scan, lead}
use Rattle.varint.specs.declared.error.Buffer.TheVariants.{Text, Rows, Nodes}
use Rattle.varint.specs.declared.error.Mismatch.TheVariants as M
use Rattle.varint.specs.declared.error.Refusal.TheVariants.{TooSmall, TypeMismatch}
use Rattle.desc.specs.Layout.{texts, placed, nodes_of}
use Rattle.desc.specs.Reading.{head_at, desc}
use Rattle.desc.specs.Trees.{size}
use Rattle.protocol.specs.Laying.{Laid}
use Rattle.protocol.specs.Pieces.{many}
use Rattle.protocol.specs.Profile.{read_profile, lay_profile}
use Rattle.protocol.specs.Control.{read_control, lay_control}
use Rattle.protocol.specs.Types.{read_types, lay_types}
use Rattle.protocol.specs.Said.{read_entry, read_message, lay}
use Rattle.protocol.specs.declared.message.ControlOp.TheVariants.{Finish}
use Rattle.protocol.specs.declared.message.Message.TheVariants as Msg
use Rattle.protocol.specs.declared.message.Message.{Message}

-- what a message puts into the memory
abbrev pub taken_by : Laid → Taken
taken_by l = record { text = l.piece.text; rows = l.piece.rows 0 0; nodes = l.piece.nodes 0 0 }

-- Message `entry` of a payload: the longest payload and the depth of descriptors are parameters.
unfoldable pub decode_message : (max limit : ℕ) → ℕ → List ℕ → List ℕ → List ℕ → List ℕ → Left Message
decode_message max limit entry s tx rs nd = settled (λ v q. (lay v).message) (λ v. taken_by (lay v)) (read_message max limit entry s) tx rs nd

-- control `02 01 61 07 00`, into buffers that were dirty
example_control : decode_message 67108864 64 7 (0x02 ∷ 0x01 ∷ 0x61 ∷ 0x07 ∷ 0x00 ∷ []) (9 ∷ 9 ∷ []) (9 ∷ []) []
    ≡ record { answer = Ok (Msg.Control Finish (record { start = 0; len = 1 }) true (record { start = 1; len = 0 })); text = 0x61 ∷ 0 ∷ []; rows = 0 ∷ []; nodes = [] }
unfolding decode_message settled fitted filled read_message read_entry read_control lay lay_control get_u64 read_from get_name get_text skim_text utf8 scan lead part
example_control = refl

-- a profile of one step, and one number too few for its row
example_short : decode_message 67108864 64 9 (0x01 ∷ 0x01 ∷ 0x61 ∷ 0x05 ∷ 0x07 ∷ []) (9 ∷ []) (9 ∷ 9 ∷ 9 ∷ []) [] ≡ kept (TooSmall Rows 4) (9 ∷ []) (9 ∷ 9 ∷ 9 ∷ []) []
unfolding decode_message settled fitted filled read_message read_entry read_profile lay lay_profile many read_times get_u64 read_from get_name get_text skim_text utf8 scan lead part
example_short = refl

-- what is wrong with it is told first, whatever was lent
example_first : decode_message 67108864 64 9 (0x01 ∷ 0x01 ∷ 0x61 ∷ 0x05 ∷ []) [] [] [] ≡ kept (TypeMismatch M.FullScan) [] [] []
unfolding decode_message settled fitted filled read_message read_entry read_profile lay lay_profile many read_times get_u64 read_from get_name get_text skim_text utf8 scan lead part
example_first = refl

-- entry 13 names no message: its payload is the one text, though it is not UTF-8
example_opaque : decode_message 67108864 64 13 (0xFF ∷ 0x61 ∷ []) (9 ∷ 9 ∷ 9 ∷ []) (9 ∷ []) (9 ∷ []) ≡ record { answer = Ok (Msg.Opaque (record { start = 0; len = 2 })); text = 0xFF ∷ 0x61 ∷ 0 ∷ []; rows = 0 ∷ []; nodes = 0 ∷ [] }
unfolding decode_message settled fitted filled read_message read_entry lay
example_opaque = refl

-- 16(1): the control message above, and no room for its text
example_text : decode_message 67108864 64 7 (0x02 ∷ 0x01 ∷ 0x61 ∷ 0x07 ∷ 0x00 ∷ []) [] (9 ∷ []) [] ≡ kept (TooSmall Text 1) [] (9 ∷ []) []
unfolding decode_message settled fitted read_message read_entry read_control lay lay_control get_u64 read_from get_name get_text skim_text utf8 scan lead part
example_text = refl

-- 16(3): a type whose key and value take two nodes, and room for one
example_nodes : decode_message 67108864 64 6 (1 ∷ 3 ∷ 1 ∷ 0x70 ∷ 0 ∷ 0 ∷ 1 ∷ 1 ∷ []) (9 ∷ []) (9 ∷ 9 ∷ 9 ∷ 9 ∷ 9 ∷ 9 ∷ []) (9 ∷ 9 ∷ 9 ∷ 9 ∷ 9 ∷ 9 ∷ 9 ∷ [])
    ≡ kept (TooSmall Nodes 14) (9 ∷ []) (9 ∷ 9 ∷ 9 ∷ 9 ∷ 9 ∷ 9 ∷ []) (9 ∷ 9 ∷ 9 ∷ 9 ∷ 9 ∷ 9 ∷ 9 ∷ [])
unfolding decode_message settled fitted read_message read_entry read_types lay lay_types many read_times desc head_at texts placed nodes_of size get_u64 read_from get_name get_text skim_text utf8 scan lead part
example_nodes = refl
