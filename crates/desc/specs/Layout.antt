-- "Node, seven numbers: tag, name start, name length, discriminant, fact's predicate, child count, end (index past its last descendant;
-- indexes count whole nodes from 0). Nodes stand in reading order, parent first".
use Rattle.std.specs.Prelude.{◌≡◌, refl, List, [], ◌∷◌, ◌++◌, ℕ, ◌+◌, length}
use Rattle.desc.specs.Trees.{Tree, leaf, branch, Kids, none, more, kid_count, size, kid_size, sample, sample_union}

-- a place of the text: where it starts, and how long it is
abbrev pub NameSpan : Type 0
NameSpan = ℕ × ℕ

-- how many numbers a node has
abbrev pub width : ℕ
width = 7

-- and which of them is which
abbrev pub tag_at : ℕ
tag_at = 0

abbrev pub start_at : ℕ
start_at = 1

abbrev pub len_at : ℕ
len_at = 2

abbrev pub discriminant_at : ℕ
discriminant_at = 3

abbrev pub predicate_at : ℕ
predicate_at = 4

abbrev pub count_at : ℕ
count_at = 5

abbrev pub end_at : ℕ
end_at = 6

-- a node's numbers, in the order of its columns
abbrev pub node_of : (tag start len discriminant predicate count end : ℕ) → List ℕ
node_of tag start len discriminant predicate count end = tag ∷ start ∷ len ∷ discriminant ∷ predicate ∷ count ∷ end ∷ []

unfoldable mutual
  -- "text holds the message's texts joined in reading order"
  pub texts : Tree (List ℕ) → List ℕ
  texts (leaf tag p) = []
  texts (branch tag ks) = kid_texts ks

  pub kid_texts : Kids (List ℕ) → List ℕ
  kid_texts none = []
  kid_texts (more name d t ks) = name ++ (texts t ++ kid_texts ks)

unfoldable mutual
  -- the tree with its names as places, where its texts are joined from place t on
  pub placed : Tree (List ℕ) → ℕ → Tree NameSpan
  placed (leaf tag p) t = leaf tag p
  placed (branch tag ks) t = branch tag (placed_kids ks t)

  pub placed_kids : Kids (List ℕ) → ℕ → Kids NameSpan
  placed_kids none t = none
  placed_kids (more name d tr ks) t =
      more (t, length name) d (placed tr (t + length name)) (placed_kids ks (t + length name + length (texts tr)))

unfoldable mutual
  -- the nodes of a tree whose root is node n and has this name and discriminant: "a root's name is 0, 0"
  pub nodes_of : Tree NameSpan → ℕ → NameSpan → ℕ → List ℕ
  nodes_of (leaf tag p) n name d = node_of tag name.0 name.1 d p 0 (n + 1)
  nodes_of (branch tag ks) n name d = node_of tag name.0 name.1 d 0 (kid_count ks) (n + 1 + kid_size ks) ++ kid_nodes ks (n + 1)

  -- of children, the first of which is node m
  pub kid_nodes : Kids NameSpan → ℕ → List ℕ
  kid_nodes none m = []
  kid_nodes (more name d tr ks) m = nodes_of tr m name d ++ kid_nodes ks (m + size tr)

example_texts : texts sample ≡ 0x61 ∷ 0x62 ∷ 0x63 ∷ []
unfolding texts
example_texts = refl

-- the record, its int named by the text's first byte, its fact by the two behind it
example_nodes : nodes_of (placed sample 0) 0 (0, 0) 0 ≡ node_of 3 0 0 0 0 2 3 ++ (node_of 0 0 1 0 0 0 2 ++ node_of 2 1 2 0 7 0 3)
unfolding nodes_of placed texts size kid_count
example_nodes = refl

-- the same behind two nodes and four bytes of text
example_behind : nodes_of (placed sample_union 4) 2 (0, 0) 0 ≡ node_of 4 0 0 0 0 1 4 ++ node_of 5 4 1 9 0 0 4
unfolding nodes_of placed texts size kid_count
example_behind = refl
