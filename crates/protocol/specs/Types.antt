-- 6 types: "count, then id, name, virtual, key, has value, value; nonzero means yes; id over 32 bits is 11; bytes after ignored".
use Rattle.desc.specs.Reading.{head_at, label_at, children, desc}
use Rattle.varint.specs.Stores.{part}
use Rattle.varint.specs.Utf8.{utf8, scan, lead}
use Rattle.varint.specs.Texts.{skim_text, get_text, get_name}
use Rattle.varint.specs.Leb128.{read_from, get_u64}
use Rattle.std.specs.Prelude.{◌≡◌, refl, Bool, true, false, ◌&&◌, List, [], ◌∷◌, ℕ, zero, suc, ◌+◌, leb, eqb, length, get_or, Ok, Err}
use Rattle.varint.specs.Choice.{pick}
use Rattle.varint.specs.Got.{Got}
use Rattle.varint.specs.Formats.{Format, varint, name, ◌⊗◌, named, counted, read_times}
use Rattle.varint.specs.Gathering.{Held, held, lacks, then_held, name_held, text_held}
use Rattle.varint.specs.declared.error.Fault.TheVariants.{Layout}
use Rattle.varint.specs.declared.error.Refusal.TheVariants.{UnknownPredicate, BadMessage}
use Rattle.desc.specs.Encoding.{held_in}
use Rattle.desc.specs.Layout.{end_at, texts, placed, nodes_of}
use Rattle.desc.specs.Table.{cell, table, root_name, discriminant_fits, predicate_fits, is_branch, leaf_fits, node_fits, gather}
use Rattle.desc.specs.Trees.{Tree, leaf, size}
use Rattle.desc.specs.WellFormed.{descriptor}
use Rattle.protocol.specs.Fields.{provided, narrow, wide_flag, bit, yes, Optional, absent, present, optional}
use Rattle.protocol.specs.Laying.{Laid}
use Rattle.protocol.specs.Pieces.{Piece, none, words, cells, tree, ◌⊕◌, many}
use Rattle.protocol.specs.RowsHeld.{enough, held_times, all_good, numbers_good}
use Rattle.protocol.specs.declared.message.Message.TheVariants as Msg

pub record Predicate : Type 0 where
  pub id : ℕ
  pub name : List ℕ
  pub virtual : Bool
  pub key : Tree (List ℕ)
  pub value : Optional (Tree (List ℕ))

abbrev pub to_predicate : ℕ × (List ℕ × (Bool × (Tree (List ℕ) × Optional (Tree (List ℕ))))) → Predicate
to_predicate c = record { id = c.0; name = c.1.0; virtual = c.1.1.0; key = c.1.1.1.0; value = c.1.1.1.1 }

abbrev pub from_predicate : Predicate → ℕ × (List ℕ × (Bool × (Tree (List ℕ) × Optional (Tree (List ℕ)))))
from_predicate p = (p.id, (p.name, (p.virtual, (p.key, p.value))))

-- the bytes; descriptors nest at most `limit` deep
abbrev pub predicate : ℕ → Format Predicate
predicate limit =
    named to_predicate from_predicate
    (provided narrow (λ _. UnknownPredicate) varint
    ⊗ name
    ⊗ wide_flag
    ⊗ descriptor limit
    ⊗ optional (descriptor limit))

unfoldable pub read_types : ℕ → List ℕ → Got (List Predicate)
read_types limit s = (counted (predicate limit)).read s 0

-- the memory: "type (id, name start, name length, virtual 0 or 1, has value 0 or 1, key's node)", "a type's value after its key"
abbrev pub type_width : ℕ
type_width = 6

abbrev pub has_value : {A : Type 0} → Optional A → Bool
has_value absent = false
has_value (present a) = true

abbrev pub lay_value : Optional (Tree (List ℕ)) → Piece
lay_value absent = none
lay_value (present v) = tree v

abbrev pub lay_predicate : Predicate → Piece
lay_predicate p =
    cells (λ t n. p.id ∷ t ∷ length p.name ∷ bit p.virtual ∷ bit (has_value p.value) ∷ n ∷ [])
    ⊕ words p.name
    ⊕ tree p.key
    ⊕ lay_value p.value

unfoldable pub lay_types : List Predicate → Laid
lay_types l = record { message = Msg.Types (length l); piece = many lay_predicate l }

-- and back. "19(4) a flag over 1 or a type id over 32 bits"
unfoldable pub type_numbers : List ℕ → ℕ → Bool
type_numbers rs r = narrow (get_or rs r 0) && leb (get_or rs (r + 3) 0) 1 && leb (get_or rs (r + 4) 0) 1

-- the node after the tree at node n; "19(3) nodes .. not laid out as above"
abbrev pub node_after : Got (Tree (ℕ × ℕ)) → Held ℕ
node_after (Ok (tr, next)) = held next
node_after (Err e) = lacks e

-- the node after the nodes of the type whose row starts at number r, the first of which must be node n
unfoldable pub type_laid : ℕ → List ℕ → List ℕ → ℕ → ℕ → Held ℕ
type_laid limit rs nd r n =
    pick (eqb (get_or rs (r + 5) 0) n)
    (then_held (node_after (table limit nd n 0)) (λ m. pick (yes (get_or rs (r + 4) 0)) (node_after (table limit nd m 0)) (held m)))
    (lacks (BadMessage Layout))

-- so for `count` types, one behind the other without a gap
unfoldable pub types_laid : ℕ → List ℕ → List ℕ → ℕ → ℕ → ℕ → Held ℕ
types_laid limit rs nd zero r n = held n
types_laid limit rs nd (suc count) r n = then_held (type_laid limit rs nd r n) (λ m. types_laid limit rs nd count (r + type_width) m)

-- the type whose row starts at number r: its value's root is the node after its key
unfoldable pub held_predicate : ℕ → List ℕ → List ℕ → List ℕ → ℕ → Held Predicate
held_predicate limit tx rs nd r =
    then_held (name_held tx (get_or rs (r + 1) 0) (get_or rs (r + 2) 0))
    (λ x. then_held (held_in (table limit nd (get_or rs (r + 5) 0) 0) tx)
    (λ k. then_held (pick (yes (get_or rs (r + 4) 0)) (then_held (held_in (table limit nd (cell nd (get_or rs (r + 5) 0) end_at) 0) tx) (λ v. held (present v))) (held absent))
    (λ v. held (record { id = get_or rs r 0; name = x; virtual = yes (get_or rs (r + 3) 0); key = k; value = v }))))

unfoldable pub held_types : ℕ → ℕ → List ℕ → List ℕ → List ℕ → Held (List Predicate)
held_types limit count tx rs nd =
    enough type_width count rs
    (numbers_good (all_good (type_numbers rs) type_width count 0)
    (then_held (types_laid limit rs nd count 0 0)
    (λ _. held_times (held_predicate limit tx rs nd) type_width count 0)))

-- type 3 "p", not virtual: from an int to a string
abbrev sample : Predicate
sample = record { id = 3; name = 0x70 ∷ []; virtual = false; key = leaf 0 0; value = present (leaf 1 0) }

example_read : read_types 64 (1 ∷ 3 ∷ 1 ∷ 0x70 ∷ 0 ∷ 0 ∷ 1 ∷ 1 ∷ 0xFF ∷ []) ≡ Ok (sample ∷ [], 8)
unfolding read_types read_times desc children head_at label_at get_u64 read_from get_name get_text skim_text utf8 scan lead part
example_read = refl

example_rows : (lay_types (sample ∷ [])).piece.rows 0 0 ≡ 3 ∷ 0 ∷ 1 ∷ 0 ∷ 1 ∷ 0 ∷ []
unfolding lay_types many
example_rows = refl

-- the value's node stands behind the key's
example_nodes : (lay_types (sample ∷ [])).piece.nodes 0 0 ≡ 0 ∷ 0 ∷ 0 ∷ 0 ∷ 0 ∷ 0 ∷ 1 ∷ 1 ∷ 0 ∷ 0 ∷ 0 ∷ 0 ∷ 0 ∷ 2 ∷ []
unfolding lay_types many texts placed nodes_of size
example_nodes = refl

-- the same taken out of the memory again
example_held : held_types 64 1 (0x70 ∷ []) (3 ∷ 0 ∷ 1 ∷ 0 ∷ 1 ∷ 0 ∷ []) (0 ∷ 0 ∷ 0 ∷ 0 ∷ 0 ∷ 0 ∷ 1 ∷ 1 ∷ 0 ∷ 0 ∷ 0 ∷ 0 ∷ 0 ∷ 2 ∷ []) ≡ held (sample ∷ [])
unfolding held_types all_good type_numbers types_laid type_laid held_times held_predicate held_in gather table node_fits root_name discriminant_fits predicate_fits is_branch leaf_fits name_held text_held utf8 scan lead part
example_held = refl

-- the row says that the key is node 1, and leaves node 0 to no type
example_gap : held_types 64 1 (0x70 ∷ []) (3 ∷ 0 ∷ 1 ∷ 0 ∷ 0 ∷ 1 ∷ []) (0 ∷ 0 ∷ 0 ∷ 0 ∷ 0 ∷ 0 ∷ 1 ∷ 1 ∷ 0 ∷ 0 ∷ 0 ∷ 0 ∷ 0 ∷ 2 ∷ []) ≡ lacks (BadMessage Layout)
unfolding held_types all_good type_numbers types_laid type_laid
example_gap = refl
