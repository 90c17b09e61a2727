-- Demand 2's two round trips, of a descriptor read and written alone. The limits are parameters: 67,108,864 bytes and 64 levels on the wire.
use Rattle.std.specs.Prelude.{◌≡◌, List, ℕ, ◌*◌, ◌^◌, ◌≤◌, ◌<◌, length, Ok}
use Rattle.varint.specs.Gathering.{held}
use Rattle.varint.specs.Outs.{send}
use Rattle.varint.specs.RoundTrips.{Bytes}
use Rattle.varint.specs.Stores.{part, filled}
use Rattle.desc.specs.Decoding.{settled_desc, decode_desc}
use Rattle.desc.specs.Encoding.{held_in, encode_desc}
use Rattle.desc.specs.Layout.{width, texts, placed, nodes_of}
use Rattle.desc.specs.Printing.{print}
use Rattle.desc.specs.Table.{table}
use Rattle.desc.specs.Trees.{Tree, size}

-- x are the bytes of the tree that the memory holds, and are decoded to it: into whatever buffers, as `settled_desc` says it fits them; and what is then left in
-- buffers that suffice holds that tree again
pub record Decodes (max limit : ℕ) (tx nd x : List ℕ) : Type 0 where
  pub tree : Tree (List ℕ)
  pub holds : held_in (table limit nd 0 0) tx ≡ held tree
  pub bytes : x ≡ print tree
  pub decodes : (tx' rs nd' : List ℕ) → decode_desc max limit x tx' rs nd' ≡ settled_desc (Ok (tree, length x)) tx' rs nd'
  pub again : (tx' nd' : List ℕ) → length (texts tree) ≤ length tx' → size tree * width ≤ length nd'
      → held_in (table limit (filled nd' (nodes_of (placed tree 0) 0 (0, 0) 0)) 0 0) (filled tx' (texts tree)) ≡ held tree

-- Memory that was encoded, its lengths numbers of 64 bits: the bytes that were written are those of the tree that it holds, and are decoded to that tree.
abbrev pub DecodeWritten : Type 0
DecodeWritten = (max limit : ℕ) (tx nd out : List ℕ) (n : ℕ) → length tx < 2 ^ 64 → length nd < 2 ^ 64
    → (encode_desc max limit tx nd out).answer ≡ Ok n
    → Decodes max limit tx nd (part (encode_desc max limit tx nd out).out 0 n)

-- Bytes that were accepted: the buffers as they were left are encoded to the bytes that were used, and to no others.
abbrev pub EncodeDecoded : Type 0
EncodeDecoded = (max limit : ℕ) (s tx rs nd out : List ℕ) (used : ℕ) → Bytes s → (decode_desc max limit s tx rs nd).answer ≡ Ok used
    → encode_desc max limit (decode_desc max limit s tx rs nd).text (decode_desc max limit s tx rs nd).nodes out ≡ send max (part s 0 used) out
