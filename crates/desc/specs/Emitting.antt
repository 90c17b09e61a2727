-- Numbers and names written from a place of a buffer on, the size of a node table as bytes, and its names: what a writer of messages calls.
use Rattle.std.specs.Prelude.{◌≡◌, refl, List, [], ◌∷◌, ℕ, zero, suc, ◌+◌, eqb, length, Ok, Err, Result, Some, None, Option}
use Rattle.std.proofs.lemmas.List.Edits.{sets}
use Rattle.varint.specs.Choice.{pick}
use Rattle.varint.specs.Got.{Got}
use Rattle.varint.specs.Gathering.{Held, held, lacks, name_held}
use Rattle.varint.specs.Leb128.{put_by, put_u64}
use Rattle.varint.specs.Outs.{declared}
use Rattle.varint.specs.Stores.{part}
use Rattle.desc.specs.declared.write.Emitted.{Emitted}
use Rattle.desc.specs.Layout.{NameSpan, start_at, len_at}
use Rattle.desc.specs.Table.{cell, root_name, discriminant_fits, predicate_fits, is_branch, leaf_fits, node_fits, kids_at, table}
use Rattle.desc.specs.Trees.{Tree, leaf, branch, Kids, none, more, kid_count}
use Rattle.varint.specs.declared.error.Refusal.{Refusal}

-- A buffer, and the place where the next byte goes. What is stored past the buffer's end is lost, and a place over 2^64−1 is kept as 2^64−1,
-- which no buffer reaches.
pub record Pen : Type 0 where
  pub out : List ℕ
  pub place : ℕ

unfoldable pub put_bytes : List ℕ → Pen → Pen
put_bytes x s = record { out = sets s.out s.place x; place = declared (s.place + length x) }

unfoldable pub put_number : ℕ → Pen → Pen
put_number v s = put_bytes (put_u64 v) s

-- The bytes of a name as far as the text has them; the place moves on by the length that the table says.
unfoldable pub put_name : List ℕ → NameSpan → Pen → Pen
put_name tx name s = record { out = sets s.out s.place (part tx name.0 name.1); place = declared (s.place + name.1) }

-- the node after the last one written, and the place after the last byte
abbrev pub emitted_to : ℕ → ℕ → Emitted
emitted_to next place = record { next = next; place = place }

-- How many bytes a tree takes by the lengths that the table says

unfoldable mutual
  pub span_size : Tree NameSpan → ℕ
  span_size (leaf tag p) = length (put_u64 tag) + pick (eqb tag 2) (length (put_u64 p)) 0
  span_size (branch tag ks) = length (put_u64 tag) + (length (put_u64 (kid_count ks)) + kids_span tag ks)

  pub kids_span : ℕ → Kids NameSpan → ℕ
  kids_span tag none = 0
  kids_span tag (more name d t ks) =
      length (put_u64 name.1) + (name.1 + (pick (eqb tag 4) (length (put_u64 d)) 0 + (span_size t + kids_span tag ks)))

-- the node after a tree, and its size
unfoldable pub sized : Got (Tree NameSpan) → Option Emitted
sized (Ok (tr, next)) = Some (emitted_to next (declared (span_size tr)))
sized (Err e) = None

-- a record with one field "a", an int, takes five bytes
example_sized : sized (table 2 (3 ∷ 0 ∷ 0 ∷ 0 ∷ 0 ∷ 1 ∷ 2 ∷ 0 ∷ 0 ∷ 1 ∷ 0 ∷ 0 ∷ 0 ∷ 2 ∷ []) 0 0) ≡ Some (emitted_to 2 5)
unfolding sized span_size table node_fits root_name discriminant_fits predicate_fits is_branch leaf_fits kids_at kid_count put_u64 put_by
example_sized = refl

-- Names in the order of their nodes

unfoldable pub verdict : {A : Type 0} → Held A → Result (Unit {0}) Refusal
verdict (held a) = Ok tt
verdict (lacks e) = Err e

unfoldable pub then_names : Result (Unit {0}) Refusal → Result (Unit {0}) Refusal → Result (Unit {0}) Refusal
then_names (Ok _) next = next
then_names (Err e) next = Err e

-- the names of k nodes from node m on
unfoldable pub names_from : List ℕ → List ℕ → ℕ → ℕ → Result (Unit {0}) Refusal
names_from tx nd m zero = Ok tt
names_from tx nd m (suc k) = then_names (verdict (name_held tx (cell nd m start_at) (cell nd m len_at))) (names_from tx nd (m + 1) k)
