-- Encoding a descriptor from lent memory: 19(3) for the whole table, then 19(1) and 4 text by text, then 12 and 16(5).
use Rattle.std.specs.Prelude.{◌≡◌, refl, List, [], ◌∷◌, ℕ, Ok, Err}
use Rattle.varint.specs.Got.{Got}
use Rattle.varint.specs.Gathering.{Held, lacks, text_held, name_held}
use Rattle.varint.specs.Leb128.{put_by, put_u64}
use Rattle.varint.specs.Outs.{Sent, wrote, send, sent}
use Rattle.varint.specs.Stores.{part, filled}
use Rattle.varint.specs.Utf8.{utf8, scan, lead}
use Rattle.varint.specs.declared.error.Fault.TheVariants.{Layout}
use Rattle.varint.specs.declared.error.Refusal.TheVariants.{BadMessage, BlockTooLarge}
use Rattle.desc.specs.Layout.{NameSpan}
use Rattle.desc.specs.Printing.{print}
use Rattle.desc.specs.Table.{root_name, discriminant_fits, predicate_fits, is_branch, leaf_fits, node_fits, kids_at, table, gather}
use Rattle.desc.specs.Trees.{Tree, kid_count}

-- the tree that the memory holds
unfoldable pub held_in : Got (Tree NameSpan) → List ℕ → Held (Tree (List ℕ))
held_in (Ok (tr, end)) tx = gather tx tr
held_in (Err e) tx = lacks e

-- the maximum and the depth are parameters
unfoldable pub encode_desc : (max limit : ℕ) → List ℕ → List ℕ → List ℕ → Sent
encode_desc max limit tx nd d = sent max print (held_in (table limit nd 0 0) tx) d

-- the name stands at place 3 of the text; out is longer by two
example_encoded : encode_desc 67108864 64 (0 ∷ 0 ∷ 0 ∷ 0x78 ∷ []) (4 ∷ 0 ∷ 0 ∷ 0 ∷ 0 ∷ 1 ∷ 2 ∷ 5 ∷ 3 ∷ 1 ∷ 9 ∷ 0 ∷ 0 ∷ 2 ∷ []) (9 ∷ 9 ∷ 9 ∷ 9 ∷ 9 ∷ 9 ∷ 9 ∷ 9 ∷ [])
    ≡ record { answer = Ok 6; out = 0x04 ∷ 0x01 ∷ 0x01 ∷ 0x78 ∷ 0x09 ∷ 0x05 ∷ 0 ∷ 0 ∷ [] }
unfolding encode_desc sent held_in send wrote filled gather name_held text_held utf8 scan lead part print kid_count put_u64 put_by table kids_at node_fits root_name discriminant_fits predicate_fits is_branch leaf_fits
example_encoded = refl

-- the layout is wrong as well as the text: 19(3) comes first
example_order : encode_desc 67108864 64 [] (4 ∷ 0 ∷ 0 ∷ 0 ∷ 0 ∷ 1 ∷ 3 ∷ 5 ∷ 3 ∷ 1 ∷ 9 ∷ 0 ∷ 0 ∷ 2 ∷ []) (9 ∷ []) ≡ record { answer = Err (BadMessage Layout); out = 9 ∷ [] }
unfolding encode_desc sent held_in table kids_at node_fits root_name discriminant_fits predicate_fits is_branch leaf_fits
example_order = refl

-- with a maximum of one byte
example_large : encode_desc 1 64 [] (2 ∷ 0 ∷ 0 ∷ 0 ∷ 7 ∷ 0 ∷ 1 ∷ []) (9 ∷ 9 ∷ []) ≡ record { answer = Err (BlockTooLarge 2 1); out = 9 ∷ 9 ∷ [] }
unfolding encode_desc sent held_in send gather print put_u64 put_by table node_fits root_name discriminant_fits predicate_fits is_branch leaf_fits
example_large = refl
