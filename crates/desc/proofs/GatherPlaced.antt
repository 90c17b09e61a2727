-- Texts that were laid out are taken back: of the joined texts of a tree, the places that they have there make the tree again.
use mathlib.Core.Bool.{true}
use mathlib.Core.Path.{◌≡◌, refl, sym, ◌∙◌, ap}
use mathlib.Core.List.{List, ◌++◌, append_assoc}
use Prim.Native.Nat.{ℕ, zero, suc, ◌+◌, ◌≤◌}
use native.Mathlib.Omega.{arith}
use lib.ListN.{length, length-append}
use borrow.Author.Tests.{le-ltb}
use Rattle.varint.specs.Gathering.{held, text_held, name_held}
use Rattle.varint.specs.RoundTrips.{TextOk}
use Rattle.varint.specs.Utf8.{utf8}
use Rattle.varint.proofs.StoreLaws.{part_seam}
use Rattle.desc.specs.Layout.{texts, kid_texts, placed, placed_kids}
use Rattle.desc.specs.Table.{gather, gather_kids}
use Rattle.desc.specs.Trees.{Tree, leaf, branch, Kids, none, more}
use Rattle.desc.specs.WellFormed.{Fine, FineKids}
use Rattle.desc.proofs.LayoutLaws.{count_placed}

name_held_lem : (x pre post : List ℕ) → utf8 x ≡ true → name_held (pre ++ (x ++ post)) (length pre) (length x) ≡ held x
unfolding name_held text_held
name_held_lem x pre post u =
    let room : length pre + length x ≤ length (pre ++ (x ++ post)) = simp length-append (omega arith) in
    rw (le-ltb (length (pre ++ (x ++ post))) (length pre + length x) room, ap utf8 (part_seam pre x post) ∙ u, part_seam pre x post)

mutual
  unfolding texts placed gather Fine

  tree_gathered : (tr : Tree (List ℕ)) (depth : ℕ) (tx pre post : List ℕ) (t : ℕ) → Fine TextOk depth tr
      → tx ≡ pre ++ (texts tr ++ post) → length pre ≡ t → gather tx (placed tr t) ≡ held tr
  tree_gathered (leaf tag p) depth tx pre post t f is l = refl
  tree_gathered (branch tag ks) zero tx pre post t f is l = absurd f
  tree_gathered (branch tag ks) (suc depth) tx pre post t f is l = rw (kids_gathered ks depth tag tx pre post t f.2 is l)

  kids_gathered : (ks : Kids (List ℕ)) (depth tag : ℕ) (tx pre post : List ℕ) (t : ℕ) → FineKids TextOk tag depth ks
      → tx ≡ pre ++ (kid_texts ks ++ post) → length pre ≡ t → gather_kids tx (placed_kids ks t) ≡ held ks
  kids_gathered none depth tag tx pre post t f is l = refl
  kids_gathered (more x d tr ks) depth tag tx pre post t f is l =
      let X : List ℕ = texts tr in
      let K : List ℕ = kid_texts ks in
      let is₁ : tx ≡ pre ++ (x ++ (X ++ (K ++ post))) = is ∙ simp append_assoc in
      let n : name_held tx t (length x) ≡ held x = rw (is₁, ← l) (name_held_lem x pre (X ++ (K ++ post)) f.0.1) in
      let is₂ : tx ≡ (pre ++ x) ++ (X ++ (K ++ post)) = is₁ ∙ sym (append_assoc pre x (X ++ (K ++ post))) in
      let l₂ : length (pre ++ x) ≡ t + length x = length-append pre x ∙ rw l refl in
      let a = tree_gathered tr depth tx (pre ++ x) (K ++ post) (t + length x) f.2 is₂ l₂ in
      let l₃ : length ((pre ++ x) ++ X) ≡ t + length x + length X = length-append (pre ++ x) X ∙ rw l₂ refl in
      let is₃ : tx ≡ ((pre ++ x) ++ X) ++ (K ++ post) = is₂ ∙ sym (append_assoc (pre ++ x) X (K ++ post)) in
      let b = kids_gathered ks depth tag tx ((pre ++ x) ++ X) post (t + length x + length X) f.3 is₃ l₃ in
      rw (n, a, b)

-- the joined texts give the tree back
pub gather_placed : (depth : ℕ) (tr : Tree (List ℕ)) → Fine TextOk depth tr → (pre post : List ℕ)
    → gather (pre ++ (texts tr ++ post)) (placed tr (length pre)) ≡ held tr
gather_placed depth tr f pre post = tree_gathered tr depth (pre ++ (texts tr ++ post)) pre post (length pre) f refl refl

mutual
  unfolding placed Fine

  tree_placed : (tr : Tree (List ℕ)) (Good : List ℕ → Type 0) (depth t : ℕ) → Fine Good depth tr → Fine (λ _. Unit) depth (placed tr t)
  tree_placed (leaf tag p) Good zero t f = absurd f
  tree_placed (leaf tag p) Good (suc depth) t f = f
  tree_placed (branch tag ks) Good zero t f = absurd f
  tree_placed (branch tag ks) Good (suc depth) t f = (f.0, rw (count_placed ks t) f.1, kids_placed ks Good tag depth t f.2)

  kids_placed : (ks : Kids (List ℕ)) (Good : List ℕ → Type 0) (tag depth t : ℕ) → FineKids Good tag depth ks
      → FineKids (λ _. Unit) tag depth (placed_kids ks t)
  kids_placed none Good tag depth t f = tt
  kids_placed (more x d tr ks) Good tag depth t f =
      (tt, f.1, tree_placed tr Good depth (t + length x) f.2, kids_placed ks Good tag depth (t + length x + length (texts tr)) f.3)

pub placed_fine : (Good : List ℕ → Type 0) (depth : ℕ) (tr : Tree (List ℕ)) (t : ℕ) → Fine Good depth tr → Fine (λ _. Unit) depth (placed tr t)
placed_fine Good depth tr t f = tree_placed tr Good depth t f
