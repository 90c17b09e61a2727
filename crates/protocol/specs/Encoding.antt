-- Encoding: a message is taken out of lent memory, printed, and written where it fits.
use Rattle.std.specs.Prelude.{true, ◌≡◌, refl, List, [], ◌∷◌, ℕ, replicate, Ok, Err, None}
use Rattle.varint.specs.Gathering.{Held, held, then_held, text_held, name_held}
use Rattle.varint.specs.Leb128.{put_by, put_u64}
use Rattle.varint.specs.Outs.{Sent, wrote, send, sent}
use Rattle.varint.specs.Stores.{part, filled}
use Rattle.varint.specs.Utf8.{utf8, scan, lead}
use Rattle.varint.specs.declared.error.Buffer.TheVariants.{Out}
use Rattle.varint.specs.declared.error.Fault.TheVariants.{Texts, RowCount, Layout, Number}
use Rattle.varint.specs.declared.error.Refusal.TheVariants.{BadMessage, BlockTooLarge, TooSmall}
use Rattle.desc.specs.Table.{table, node_fits}
use Rattle.protocol.specs.RowsHeld.{all_good}
use Rattle.protocol.specs.Startup.{held_startup}
use Rattle.protocol.specs.Error.{held_error}
use Rattle.protocol.specs.Ids.{held_ids}
use Rattle.protocol.specs.Types.{held_types, type_numbers, types_laid, type_laid}
use Rattle.protocol.specs.Control.{held_control}
use Rattle.protocol.specs.Reply.{held_reply}
use Rattle.protocol.specs.Profile.{held_profile}
use Rattle.protocol.specs.Page.{raw_held, held_page}
use Rattle.protocol.specs.Fetch.{held_fetch}
use Rattle.protocol.specs.Said.{Said, said_startup, said_ready, said_error, said_complete, said_ids, said_types, said_control, said_reply, said_profile, said_page, said_fetch, said_listing, opaque, print_said}
use Rattle.protocol.specs.declared.message.Message.{Message}
use Rattle.protocol.specs.declared.message.Message.TheVariants as Msg
use Rattle.protocol.specs.declared.message.ControlOp.TheVariants.{Finish}
use Rattle.protocol.specs.declared.message.ErrorCode.TheVariants.{UnknownDatabase}

abbrev pub held_as : {A : Type 0} → (A → Said) → Held A → Held Said
held_as to h = then_held h (λ a. held (to a))

-- what a message and the memory that it points into say
unfoldable pub held_said : ℕ → Message → List ℕ → List ℕ → List ℕ → Held Said
held_said limit (Msg.Startup version database mode fingerprint count) tx rs nd = held_as said_startup (held_startup version database mode fingerprint count tx rs)
held_said limit (Msg.Ready version fingerprint predicates) tx rs nd =
    held (said_ready (record { version = version; fingerprint = fingerprint; predicates = predicates }))
held_said limit (Msg.Error code text) tx rs nd = held_as said_error (held_error code text tx)
held_said limit (Msg.Complete first second) tx rs nd = held (said_complete (record { first = first; second = second }))
held_said limit (Msg.Ids count) tx rs nd = held_as said_ids (held_ids count rs)
held_said limit (Msg.Types count) tx rs nd = held_as said_types (held_types limit count tx rs nd)
held_said limit (Msg.Control op database allow schema) tx rs nd = held_as said_control (held_control op database allow schema tx)
held_said limit (Msg.Reply reply) tx rs nd = held_as said_reply (held_reply reply tx)
held_said limit (Msg.Profile count) tx rs nd = held_as said_profile (held_profile count tx rs)
held_said limit (Msg.Page limit₁ cursor query) tx rs nd = held_as said_page (held_page limit₁ cursor query tx)
held_said limit (Msg.Fetch digest count) tx rs nd = held_as said_fetch (held_fetch digest count rs)
held_said limit (Msg.ListingDigest predicate digest) tx rs nd = held (said_listing (record { predicate = predicate; digest = digest }))
held_said limit (Msg.Opaque payload) tx rs nd = held_as opaque (raw_held tx payload.start payload.len)

-- what the memory holds, printed into the buffer: the longest payload and the depth of descriptors are parameters
unfoldable pub encode_message : (max limit : ℕ) → Message → List ℕ → List ℕ → List ℕ → List ℕ → Sent
encode_message max limit message tx rs nd d = sent max print_said (held_said limit message tx rs nd) d

-- a schema that stands before the database's name in text
example_control : encode_message 67108864 64 (Msg.Control Finish (record { start = 1; len = 1 }) true (record { start = 0; len = 1 })) (0x62 ∷ 0x61 ∷ []) [] [] (9 ∷ 9 ∷ 9 ∷ 9 ∷ 9 ∷ 9 ∷ 9 ∷ [])
    ≡ record { answer = Ok 6; out = 0x02 ∷ 0x01 ∷ 0x61 ∷ 0x01 ∷ 0x01 ∷ 0x62 ∷ 0 ∷ [] }
unfolding encode_message sent held_said held_control print_said send wrote filled text_held name_held utf8 scan lead part put_u64 put_by
example_control = refl

-- a flag of 2, and a label past the text's end: 19(4) comes first
example_order : encode_message 67108864 64 (Msg.Profile 1) [] (5 ∷ 1 ∷ 0 ∷ 2 ∷ []) [] [] ≡ record { answer = Err (BadMessage Number); out = [] }
unfolding encode_message sent held_said held_profile all_good
example_order = refl

-- 19(1): a text past text's end
example_past : encode_message 67108864 64 (Msg.Error UnknownDatabase (record { start = 0; len = 2 })) (0x61 ∷ []) [] [] (9 ∷ []) ≡ record { answer = Err (BadMessage Texts); out = 9 ∷ [] }
unfolding encode_message sent held_said held_error text_held
example_past = refl

-- 19(2): three ids in rows of two numbers
example_few : encode_message 67108864 64 (Msg.Ids 3) [] (5 ∷ 6 ∷ []) [] (9 ∷ []) ≡ record { answer = Err (BadMessage RowCount); out = 9 ∷ [] }
unfolding encode_message sent held_said held_ids
example_few = refl

-- 19(3): a type's row without its node; its name is past text's end as well, which is told later
example_layout : encode_message 67108864 64 (Msg.Types 1) [] (3 ∷ 0 ∷ 1 ∷ 0 ∷ 0 ∷ 0 ∷ []) [] (9 ∷ []) ≡ record { answer = Err (BadMessage Layout); out = 9 ∷ [] }
unfolding encode_message sent held_said held_types all_good type_numbers types_laid type_laid table node_fits
example_layout = refl

-- 12(4097, 4096)
example_fetch : encode_message 67108864 64 (Msg.Fetch None 4097) [] (replicate 4097 0) [] (9 ∷ []) ≡ record { answer = Err (BlockTooLarge 4097 4096); out = 9 ∷ [] }
unfolding encode_message sent held_said held_fetch
example_fetch = refl

-- 16(5): three bytes into two
example_small : encode_message 67108864 64 (Msg.Complete 3 128) [] [] [] (9 ∷ 9 ∷ []) ≡ record { answer = Err (TooSmall Out 3); out = 9 ∷ 9 ∷ [] }
unfolding encode_message sent held_said print_said send wrote filled put_u64 put_by
example_small = refl
