-- Reading a node table back: "19(3) nodes .. not laid out as above (names of fields and alternatives aside), a tag over 5, a discriminant or
-- predicate over 32 bits, depth over 64, or nodes ending before the message does".
use Rattle.std.specs.Prelude.{Bool, true, ◌&&◌, ◌||◌, ◌≡◌, refl, List, [], ◌∷◌, ℕ, zero, suc, ◌+◌, ◌*◌, ◌/◌, ltb, leb, eqb, length, get_or, Ok, Err}
use Rattle.varint.specs.Choice.{pick}
use Rattle.varint.specs.Got.{Got, then}
use Rattle.varint.specs.Gathering.{Held, held, then_held, name_held}
use Rattle.varint.specs.declared.error.Fault.TheVariants.{Layout}
use Rattle.varint.specs.declared.error.Refusal.TheVariants.{BadMessage}
use Rattle.desc.specs.Layout.{NameSpan, width, tag_at, start_at, len_at, discriminant_at, predicate_at, count_at, end_at}
use Rattle.desc.specs.Trees.{Tree, leaf, branch, Kids, none, more}

-- the number in column c of node n
abbrev pub cell : List ℕ → ℕ → ℕ → ℕ
cell nd n c = get_or nd (n * width + c) 0

-- Node n below a parent with this tag, 0 for none. "a root's name is 0, 0"; a part's may be any
unfoldable pub root_name : List ℕ → ℕ → ℕ → Bool
root_name nd n parent = pick (eqb parent 0) (eqb (cell nd n start_at) 0 && eqb (cell nd n len_at) 0) true

-- an alternative has a discriminant of 32 bits; elsewhere the number is unused: "Unused numbers are 0"
unfoldable pub discriminant_fits : List ℕ → ℕ → ℕ → Bool
discriminant_fits nd n parent = pick (eqb parent 4) (leb (cell nd n discriminant_at) 0xFFFFFFFF) (eqb (cell nd n discriminant_at) 0)

-- so a fact's predicate
unfoldable pub predicate_fits : List ℕ → ℕ → Bool
predicate_fits nd n = pick (eqb (cell nd n tag_at) 2) (leb (cell nd n predicate_at) 0xFFFFFFFF) (eqb (cell nd n predicate_at) 0)

-- a record or a union: its children tell where it ends, so that `table` tests its end
unfoldable pub is_branch : List ℕ → ℕ → Bool
is_branch nd n = eqb (cell nd n tag_at) 3 || eqb (cell nd n tag_at) 4

-- any other type has no children, and ends behind itself
unfoldable pub leaf_fits : List ℕ → ℕ → Bool
leaf_fits nd n = eqb (cell nd n count_at) 0 && eqb (cell nd n end_at) (n + 1)

-- Is node n there whole, and laid out as a node may be below such a parent? Where a record or a union ends is not tested here.
unfoldable pub node_fits : List ℕ → ℕ → ℕ → Bool
node_fits nd n parent =
    ltb n (length nd / width) && leb (cell nd n tag_at) 5 && root_name nd n parent && discriminant_fits nd n parent && predicate_fits nd n
    && (is_branch nd n || leaf_fits nd n)

-- k children of a type with this tag, the first of which is node m, where `r` reads a tree at a node below a parent
unfoldable pub kids_at : (ℕ → ℕ → Got (Tree NameSpan)) → List ℕ → ℕ → ℕ → ℕ → Got (Kids NameSpan)
kids_at r nd tag zero m = Ok (none, m)
kids_at r nd tag (suc k) m =
    then (r m tag) (λ t e. then (kids_at r nd tag k e) (λ ks f. Ok (more (cell nd m start_at, cell nd m len_at) (cell nd m discriminant_at) t ks, f)))

abbrev pub closed_at : ℕ → ℕ → Got (Kids NameSpan) → Got (Tree NameSpan)
closed_at tag end (Ok (ks, m)) = pick (eqb end m) (Ok (branch tag ks, m)) (Err (BadMessage Layout))
closed_at tag end (Err e) = Err e

-- The tree at node n below a parent with this tag, where `depth` more levels may nest; and the node after it.
unfoldable pub table : ℕ → List ℕ → ℕ → ℕ → Got (Tree NameSpan)
table zero nd n parent = Err (BadMessage Layout)
table (suc depth) nd n parent =
    pick (node_fits nd n parent)
    (pick (is_branch nd n)
    (closed_at (cell nd n tag_at) (cell nd n end_at) (kids_at (table depth nd) nd (cell nd n tag_at) (cell nd n count_at) (n + 1)))
    (Ok (leaf (cell nd n tag_at) (cell nd n predicate_at), n + 1)))
    (Err (BadMessage Layout))

unfoldable mutual
  -- the tree with its names taken out of the text, in reading order
  pub gather : List ℕ → Tree NameSpan → Held (Tree (List ℕ))
  gather tx (leaf tag p) = held (leaf tag p)
  gather tx (branch tag ks) = then_held (gather_kids tx ks) (λ l. held (branch tag l))

  pub gather_kids : List ℕ → Kids NameSpan → Held (Kids (List ℕ))
  gather_kids tx none = held none
  gather_kids tx (more name d t ks) =
      then_held (name_held tx name.0 name.1) (λ x. then_held (gather tx t) (λ u. then_held (gather_kids tx ks) (λ l. held (more x d u l))))

-- the table of the sample union, with a gap in its text
example_table : table 64 (4 ∷ 0 ∷ 0 ∷ 0 ∷ 0 ∷ 1 ∷ 2 ∷ 5 ∷ 3 ∷ 1 ∷ 9 ∷ 0 ∷ 0 ∷ 2 ∷ []) 0 0 ≡ Ok (branch 4 (more (3, 1) 9 (leaf 5 0) none), 2)
unfolding table kids_at node_fits root_name discriminant_fits predicate_fits is_branch leaf_fits
example_table = refl

-- its end is not that of its last child
example_end : table 64 (4 ∷ 0 ∷ 0 ∷ 0 ∷ 0 ∷ 1 ∷ 3 ∷ 5 ∷ 3 ∷ 1 ∷ 9 ∷ 0 ∷ 0 ∷ 2 ∷ []) 0 0 ≡ Err (BadMessage Layout)
unfolding table kids_at node_fits root_name discriminant_fits predicate_fits is_branch leaf_fits
example_end = refl

-- a field of a record has no discriminant
example_field : table 64 (3 ∷ 0 ∷ 0 ∷ 0 ∷ 0 ∷ 1 ∷ 2 ∷ 5 ∷ 3 ∷ 1 ∷ 9 ∷ 0 ∷ 0 ∷ 2 ∷ []) 0 0 ≡ Err (BadMessage Layout)
unfolding table kids_at node_fits root_name discriminant_fits predicate_fits is_branch leaf_fits
example_field = refl
