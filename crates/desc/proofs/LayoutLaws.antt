-- Laws of the layout: a tree has as many nodes with places for names as with texts, and seven numbers a node.
use mathlib.Core.Path.{◌≡◌, refl, ◌∙◌, ap}
use mathlib.Core.List.{List}
use Prim.Native.Nat.{ℕ, suc, ◌+◌, ◌*◌}
use native.Mathlib.Omega.{arith}
use lib.ListN.{length, length-append}
use Rattle.desc.specs.Layout.{NameSpan, width, texts, placed, placed_kids, nodes_of, kid_nodes}
use Rattle.desc.specs.Trees.{Tree, leaf, branch, Kids, none, more, kid_count, size, kid_size}

mutual
  unfolding placed size

  pub size_placed : (tr : Tree (List ℕ)) (t : ℕ) → size (placed tr t) ≡ size tr
  size_placed (leaf tag p) t = refl
  size_placed (branch tag ks) t = ap suc (kids_placed ks t)

  pub kids_placed : (ks : Kids (List ℕ)) (t : ℕ) → kid_size (placed_kids ks t) ≡ kid_size ks
  kids_placed none t = refl
  kids_placed (more name d tr ks) t =
      rw (size_placed tr (t + length name), kids_placed ks (t + length name + length (texts tr))) refl

pub count_placed : (ks : Kids (List ℕ)) (t : ℕ) → kid_count (placed_kids ks t) ≡ kid_count ks
unfolding placed kid_count
count_placed none t = refl
count_placed (more name d tr ks) t = ap suc (count_placed ks (t + length name + length (texts tr)))

mutual
  unfolding nodes_of size

  pub length_nodes : (tr : Tree NameSpan) (n : ℕ) (name : NameSpan) (d : ℕ) → length (nodes_of tr n name d) ≡ size tr * width
  length_nodes (leaf tag p) n name d = refl
  length_nodes (branch tag ks) n name d = let h = length_kid_nodes ks (n + 1) in simp length-append (omega arith)

  pub length_kid_nodes : (ks : Kids NameSpan) (m : ℕ) → length (kid_nodes ks m) ≡ kid_size ks * width
  length_kid_nodes none m = refl
  length_kid_nodes (more name d tr ks) m =
      let h = length_nodes tr m name d in
      let k = length_kid_nodes ks (m + size tr) in
      simp length-append (omega arith)

-- the numbers of a tree whose names are texts
pub length_placed : (tr : Tree (List ℕ)) (t n : ℕ) (name : NameSpan) (d : ℕ) → length (nodes_of (placed tr t) n name d) ≡ size tr * width
length_placed tr t n name d = length_nodes (placed tr t) n name d ∙ ap (λ (k : ℕ). k * width) (size_placed tr t)
