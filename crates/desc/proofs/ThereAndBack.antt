-- Decoding what was encoded, and encoding what was decoded: each undoes the other.
use mathlib.Core.Path.{◌≡◌, refl, sym, ◌∙◌, ap}
use mathlib.Core.List.{List, [], ◌++◌, append-nil}
use Prim.Native.Nat.{ℕ, ◌-◌, ◌*◌, ◌≤◌}
use native.Mathlib.Nat.{zero-add}
use native.Mathlib.Omega.{arith}
use lib.ListN.{length, replicate}
use borrow.Author.Tests.{le-ltb}
use Rattle.varint.specs.Got.{got}
use Rattle.varint.specs.Gathering.{held}
use Rattle.varint.specs.Lent.{fitted, settled}
use Rattle.varint.specs.Outs.{send, sent}
use Rattle.varint.specs.RoundTrips.{TextOk}
use Rattle.varint.specs.Stores.{filled}
use Rattle.varint.proofs.StoreLaws.{filled_fits}
use Rattle.desc.specs.Decoding.{settled_desc, decode_desc}
use Rattle.desc.specs.Encoding.{held_in, encode_desc}
use Rattle.desc.specs.Layout.{width, texts, placed, nodes_of}
use Rattle.desc.specs.Printing.{print}
use Rattle.desc.specs.Reading.{desc}
use Rattle.desc.specs.Table.{table}
use Rattle.desc.specs.Trees.{Tree, size}
use Rattle.desc.specs.WellFormed.{Fine}
use Rattle.desc.proofs.GatherPlaced.{gather_placed, placed_fine}
use Rattle.desc.proofs.LayoutLaws.{size_placed, length_nodes}
use Rattle.desc.proofs.ReadPrint.{read_print}
use Rattle.desc.proofs.TableRows.{table_rows}
use Rattle.desc.proofs.Tags.{root}
use Rattle.std.specs.Prelude.{Ok}

-- the nodes of a tree whose texts are joined from place 0 on
abbrev pub layout : Tree (List ℕ) → List ℕ
layout tr = nodes_of (placed tr 0) 0 (0, 0) 0

pub length_layout : (tr : Tree (List ℕ)) → length (layout tr) ≡ size tr * width
length_layout tr = length_nodes (placed tr 0) 0 (0, 0) 0 ∙ ap (λ (k : ℕ). k * width) (size_placed tr 0)

module _ (limit : ℕ) (tr : Tree (List ℕ)) (f : Fine TextOk limit tr) where
  -- the bytes of a tree, whatever follows them, are decoded as that tree
  pub decode_print : (max : ℕ) (rest tx rs nd : List ℕ) → length (print tr ++ rest) ≤ max
      → decode_desc max limit (print tr ++ rest) tx rs nd ≡ settled_desc (Ok (tr, (length (print tr)))) tx rs nd
  unfolding decode_desc
  decode_print max rest tx rs nd h =
      let e : desc limit limit (print tr ++ rest) 0 ≡ Ok (tr, (length (print tr))) =
      read_print limit limit tr f [] rest ∙ ap (got tr) (zero-add (length (print tr))) in
      rw (le-ltb max (length (print tr ++ rest)) h, e)

  -- so are they alone
  pub decode_whole : (max : ℕ) (tx rs nd : List ℕ) → length (print tr) ≤ max
      → decode_desc max limit (print tr) tx rs nd ≡ settled_desc (Ok (tr, (length (print tr)))) tx rs nd
  decode_whole max tx rs nd h =
      let k : length (print tr ++ []) ≤ max = rw append-nil h in
      ap (λ (s : List ℕ). decode_desc max limit s tx rs nd) (sym (append-nil (print tr))) ∙ decode_print max [] tx rs nd k

  -- A descriptor that was encoded is decoded to its layout, where the buffers suffice.
  pub decode_encoded : (max : ℕ) (tx rs nd : List ℕ) → length (print tr) ≤ max → length (texts tr) ≤ length tx → size tr * width ≤ length nd
      → decode_desc max limit (print tr) tx rs nd
      ≡ record { answer = Ok (length (print tr)); text = filled tx (texts tr); rows = filled rs []; nodes = filled nd (layout tr) }
  unfolding settled fitted
  decode_encoded max tx rs nd h t n =
      let k : length (layout tr) ≤ length nd = rw (length_layout tr) n in
      decode_whole max tx rs nd h
      ∙ rw (le-ltb (length tx) (length (texts tr)) t, le-ltb (length rs) 0 (omega arith), le-ltb (length nd) (length (layout tr)) k) refl

  -- what the buffers hold after it was decoded
  pub held_decoded : (tx nd : List ℕ) → length (texts tr) ≤ length tx → size tr * width ≤ length nd
      → held_in (table limit (filled nd (layout tr)) 0 0) (filled tx (texts tr)) ≡ held tr
  unfolding held_in
  held_decoded tx nd t n =
      let n' : length (layout tr) ≤ length nd = rw (length_layout tr) n in
      let Z : List ℕ = replicate (length nd - length (layout tr)) 0 in
      let Y : List ℕ = replicate (length tx - length (texts tr)) 0 in
      let a = table_rows (λ _. Unit) limit 0 (placed tr 0) (layout tr ++ Z) [] Z 0 (0, 0) 0 (placed_fine TextOk limit tr 0 f) root refl refl in
      rw (filled_fits nd (layout tr) n', filled_fits tx (texts tr) t, a) (gather_placed limit tr f [] Y)

  -- and it is encoded to its bytes again
  pub encode_laid : (max : ℕ) (tx nd out : List ℕ) → length (texts tr) ≤ length tx → size tr * width ≤ length nd
      → encode_desc max limit (filled tx (texts tr)) (filled nd (layout tr)) out ≡ send max (print tr) out
  unfolding encode_desc sent
  encode_laid max tx nd out t n = rw (held_decoded tx nd t n)
