-- Writing a node table as bytes from a place of a buffer on: the statement of the recursive writer.
use Rattle.std.specs.Prelude.{Bool, ◌≡◌, refl, List, [], ◌∷◌, ℕ, eqb, get_or, Ok, Err, Some, None, Option}
use Rattle.varint.specs.Choice.{pick}
use Rattle.varint.specs.Got.{Got}
use Rattle.varint.specs.Leb128.{put_by, put_u64}
use Rattle.varint.specs.Stores.{part}
use Rattle.desc.specs.Emitting.{Pen, put_bytes, put_number, put_name}
use Rattle.desc.specs.Layout.{NameSpan, start_at, len_at, discriminant_at}
use Rattle.desc.specs.Table.{root_name, discriminant_fits, predicate_fits, is_branch, leaf_fits, node_fits, kids_at, table}
use Rattle.desc.specs.Trees.{Tree, leaf, branch, Kids, none, more, kid_count}

-- a number that only some have
unfoldable pub put_where : Bool → ℕ → Pen → Pen
put_where wanted v s = pick wanted (put_number v s) s

-- what stands before a child of a type with this tag
unfoldable pub put_label : List ℕ → ℕ → NameSpan → ℕ → Pen → Pen
put_label tx tag name d s = put_where (eqb tag 4) d (put_name tx name (put_number name.1 s))

unfoldable mutual
  pub put_tree : List ℕ → Tree NameSpan → Pen → Pen
  put_tree tx (leaf tag p) s = put_where (eqb tag 2) p (put_number tag s)
  put_tree tx (branch tag ks) s = put_kids tx tag ks (put_number (kid_count ks) (put_number tag s))

  pub put_kids : List ℕ → ℕ → Kids NameSpan → Pen → Pen
  put_kids tx tag none s = s
  put_kids tx tag (more name d t ks) s = put_kids tx tag ks (put_tree tx t (put_label tx tag name d s))

-- what writing leaves: the node after the last one written, and the buffer
pub data Emission : Type 0 where
  wrong : Emission
  done : ℕ → Pen → Emission

-- of a table that is not laid out as one nothing is said but that
unfoldable pub emission : List ℕ → Got (Tree NameSpan) → Pen → Emission
emission tx (Ok (tr, next)) s = done next (put_tree tx tr s)
emission tx (Err e) s = wrong

-- so of children of a type with this tag
unfoldable pub kids_emission : List ℕ → ℕ → Got (Kids NameSpan) → Pen → Emission
kids_emission tx tag (Ok (ks, next)) s = done next (put_kids tx tag ks s)
kids_emission tx tag (Err e) s = wrong

-- what the writer answers, with the buffer after it
unfoldable pub told : Option ℕ → Pen → Emission
told (Some next) s = done next s
told None s = wrong

-- What stands before a node with these numbers below a parent with this tag; before a root nothing does.
unfoldable pub put_before : List ℕ → ℕ → List ℕ → Pen → Pen
put_before tx parent row s = pick (eqb parent 0) s (put_label tx parent (get_or row start_at 0, get_or row len_at 0) (get_or row discriminant_at 0) s)

-- a tree that was found to be laid out
unfoldable pub put_at : List ℕ → Got (Tree NameSpan) → Pen → Pen
put_at tx (Ok (tr, next)) s = put_tree tx tr s
put_at tx (Err e) s = s

-- a record with one field "a", an int, into a buffer that is two bytes short of it
example_put : put_at (0x61 ∷ []) (table 2 (3 ∷ 0 ∷ 0 ∷ 0 ∷ 0 ∷ 1 ∷ 2 ∷ 0 ∷ 0 ∷ 1 ∷ 0 ∷ 0 ∷ 0 ∷ 2 ∷ []) 0 0) (record { out = 9 ∷ 9 ∷ 9 ∷ 9 ∷ []; place = 1 })
    ≡ record { out = 9 ∷ 3 ∷ 1 ∷ 1 ∷ []; place = 6 }
unfolding put_at table node_fits root_name discriminant_fits predicate_fits is_branch leaf_fits kids_at put_tree kid_count put_label put_name put_where put_number put_bytes put_u64 put_by part
example_put = refl
