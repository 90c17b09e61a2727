-- A layout is read back: the node table that a tree is laid out as is read as that tree, wherever in the table it stands.
use mathlib.Core.Bool.{Bool, true, false, ◌&&◌, ◌||◌}
use mathlib.Core.Path.{◌≡◌, refl, sym, ◌∙◌, ap}
use mathlib.Core.List.{List, ◌++◌, append_assoc}
use Prim.Native.Nat.{ℕ, zero, suc, ◌+◌, ◌*◌, ◌/◌, ◌≤◌, ◌<◌}
use native.Mathlib.Nat.{add-zero}
use native.Mathlib.Omega.{arith}
use lib.Dec.{leb, eqb}
use lib.ListN.{length, get_or, length-append}
use lib.Seq.{get_or-append-add}
use borrow.Author.Tests.{lt-ltb, le-leb, eq-eqb}
use Rattle.varint.specs.Choice.{pick}
use Rattle.varint.specs.Got.{got}
use Rattle.desc.specs.Layout.{NameSpan, width, node_of, nodes_of, kid_nodes}
use Rattle.desc.specs.Table.{cell, root_name, discriminant_fits, predicate_fits, is_branch, leaf_fits, node_fits, kids_at, table}
use Rattle.desc.specs.Trees.{Tree, leaf, branch, Kids, none, more, kid_count, size, kid_size}
use Rattle.desc.specs.WellFormed.{LeafOk, int, string, fact, bytes, BranchOk, record_type, union_type, field, alternative, Fine, FineKids}
use Rattle.desc.proofs.LayoutLaws.{length_nodes}
use Rattle.desc.proofs.Tags.{Under, root, below}
use Rattle.std.specs.Prelude.{Ok}

-- the columns of node n
pub record Row (nd : List ℕ) (n tag : ℕ) (name : NameSpan) (d p count end : ℕ) : Type 0 where
  pub inside : n < length nd / width
  pub tag_is : cell nd n 0 ≡ tag
  pub start_is : cell nd n 1 ≡ name.0
  pub len_is : cell nd n 2 ≡ name.1
  pub discriminant_is : cell nd n 3 ≡ d
  pub predicate_is : cell nd n 4 ≡ p
  pub count_is : cell nd n 5 ≡ count
  pub end_is : cell nd n 6 ≡ end

-- n nodes stand before it, and others may after it
row_at : (nd pre post : List ℕ) (n tag : ℕ) (name : NameSpan) (d p count end : ℕ)
    → nd ≡ pre ++ (node_of tag name.0 name.1 d p count end ++ post) → length pre ≡ n * width → Row nd n tag name d p count end
row_at nd pre post n tag name d p count end is l =
    let R : List ℕ = node_of tag name.0 name.1 d p count end ++ post in
    let at : (c : ℕ) → cell nd n c ≡ get_or R c 0 = λ c. rw (is, ← l) (get_or-append-add pre R c 0) in
    let e = ap length is ∙ length-append pre R in
    record {
      inside = omega arith;
      tag_is = at 0;
      start_is = at 1;
      len_is = at 2;
      discriminant_is = at 3;
      predicate_is = at 4;
      count_is = at 5;
      end_is = at 6;
    }

-- the name and the discriminant that a tree is laid out with
first_row : (st : Tree NameSpan) (nd pre post : List ℕ) (n : ℕ) (name : NameSpan) (d : ℕ)
    → nd ≡ pre ++ (nodes_of st n name d ++ post) → length pre ≡ n * width → (cell nd n 1 ≡ name.0) × (cell nd n 2 ≡ name.1) × (cell nd n 3 ≡ d)
unfolding nodes_of
first_row (leaf tag p) nd pre post n name d is l =
    let r = row_at nd pre post n tag name d p 0 (n + 1) is l in
    (r.start_is, r.len_is, r.discriminant_is)
first_row (branch tag ks) nd pre post n name d is l =
    let r = row_at nd pre (kid_nodes ks (n + 1) ++ post) n tag name d 0 (kid_count ks) (n + 1 + kid_size ks) is l in
    (r.start_is, r.len_is, r.discriminant_is)

-- Such a node fits

-- what the tests say of a type, with parts or without
record Kind (tag p : ℕ) (parts : Bool) : Type 0 where
  known : leb tag 5 ≡ true
  predicate : pick (eqb tag 2) (leb p 0xFFFFFFFF) (eqb p 0) ≡ true
  branches : (eqb tag 3 || eqb tag 4) ≡ parts

leaf_kind : {tag p : ℕ} → LeafOk tag p → Kind tag p false
leaf_kind int = record { known = refl; predicate = refl; branches = refl }
leaf_kind string = record { known = refl; predicate = refl; branches = refl }
leaf_kind {p = p} (fact h) = let k : p ≤ 0xFFFFFFFF = omega arith in record { known = refl; predicate = le-leb p 0xFFFFFFFF k; branches = refl }
leaf_kind bytes = record { known = refl; predicate = refl; branches = refl }

branch_kind : {tag : ℕ} → BranchOk tag → Kind tag 0 true
branch_kind record_type = record { known = refl; predicate = refl; branches = refl }
branch_kind union_type = record { known = refl; predicate = refl; branches = refl }

-- and of a name and a discriminant
under_tests : {parent d : ℕ} {name : NameSpan} → Under parent name d
    → (pick (eqb parent 0) (eqb name.0 0 && eqb name.1 0) true ≡ true) × (pick (eqb parent 4) (leb d 0xFFFFFFFF) (eqb d 0) ≡ true)
under_tests root = (refl, refl)
under_tests (below field) = (refl, refl)
under_tests {d = d} (below (alternative h)) = let k : d ≤ 0xFFFFFFFF = omega arith in (refl, le-leb d 0xFFFFFFFF k)

module _ {nd : List ℕ} {n tag : ℕ} {name : NameSpan} {d p count end : ℕ} (r : Row nd n tag name d p count end) where
  branch_is : {b : Bool} → Kind tag p b → is_branch nd n ≡ b
  unfolding is_branch
  branch_is k = rw r.tag_is k.branches

  node_fits_lem : {parent : ℕ} {b : Bool} → Under parent name d → Kind tag p b → (b || leaf_fits nd n) ≡ true → node_fits nd n parent ≡ true
  unfolding node_fits root_name discriminant_fits predicate_fits
  node_fits_lem u k e =
      let t = under_tests u in
      rw (
        lt-ltb n (length nd / width) r.inside,
        r.tag_is,
        k.known,
        r.start_is,
        r.len_is,
        t.0,
        r.discriminant_is,
        t.1,
        r.predicate_is,
        k.predicate,
        branch_is k,
      ) e

leaf_ends : {nd : List ℕ} {n tag : ℕ} {name : NameSpan} {d p : ℕ} → Row nd n tag name d p 0 (n + 1) → leaf_fits nd n ≡ true
unfolding leaf_fits
leaf_ends {n = n} r = rw (r.count_is, r.end_is) (eq-eqb (n + 1) (n + 1) refl)

mutual
  unfolding nodes_of size kid_count Fine table kids_at

  tree_rows : (st : Tree NameSpan) (Good : NameSpan → Type 0) (depth parent : ℕ) (nd pre post : List ℕ) (n : ℕ) (name : NameSpan) (d : ℕ)
      → Fine Good depth st → Under parent name d → nd ≡ pre ++ (nodes_of st n name d ++ post) → length pre ≡ n * width
      → table depth nd n parent ≡ Ok (st, n + size st)
  tree_rows (leaf tag p) Good zero parent nd pre post n name d f u is l = absurd f
  tree_rows (leaf tag p) Good (suc depth) parent nd pre post n name d f u is l =
      let r = row_at nd pre post n tag name d p 0 (n + 1) is l in
      rw (node_fits_lem r u (leaf_kind f) (leaf_ends r), branch_is r (leaf_kind f), r.tag_is, r.predicate_is)
  tree_rows (branch tag ks) Good zero parent nd pre post n name d f u is l = absurd f
  tree_rows (branch tag ks) Good (suc depth) parent nd pre post n name d f u is l =
      let R : List ℕ = node_of tag name.0 name.1 d 0 (kid_count ks) (n + 1 + kid_size ks) in
      let K : List ℕ = kid_nodes ks (n + 1) in
      let r = row_at nd pre (K ++ post) n tag name d 0 (kid_count ks) (n + 1 + kid_size ks) is l in
      let l' : length (pre ++ R) ≡ (n + 1) * width = length-append pre R ∙ omega arith in
      let k = kids_rows ks Good depth tag nd (pre ++ R) post (n + 1) f.2 (is ∙ sym (append_assoc pre R (K ++ post))) l' in
      let e : n + 1 + kid_size ks ≡ n + suc (kid_size ks) = omega arith in
      rw (
        node_fits_lem r u (branch_kind f.0) refl,
        branch_is r (branch_kind f.0),
        r.tag_is,
        r.count_is,
        r.end_is,
        k,
        eq-eqb (n + 1 + kid_size ks) (n + 1 + kid_size ks) refl,
        e,
      )

  kids_rows : (ks : Kids NameSpan) (Good : NameSpan → Type 0) (depth tag : ℕ) (nd pre post : List ℕ) (m : ℕ) → FineKids Good tag depth ks
      → nd ≡ pre ++ (kid_nodes ks m ++ post) → length pre ≡ m * width → kids_at (table depth nd) nd tag (kid_count ks) m ≡ Ok (ks, m + kid_size ks)
  kids_rows none Good depth tag nd pre post m f is l = ap (got none) (sym (add-zero m))
  kids_rows (more name d st ks) Good depth tag nd pre post m f is l =
      let R : List ℕ = nodes_of st m name d in
      let K : List ℕ = kid_nodes ks (m + size st) in
      let is₁ : nd ≡ pre ++ (R ++ (K ++ post)) = is ∙ ap (λ (x : List ℕ). pre ++ x) (append_assoc R K post) in
      let t = tree_rows st Good depth tag nd pre (K ++ post) m name d f.2 (below f.1) is₁ l in
      let c = first_row st nd pre (K ++ post) m name d is₁ l in
      let l' : length (pre ++ R) ≡ (m + size st) * width = length-append pre R ∙ omega (arith, length_nodes st m name d) in
      let k = kids_rows ks Good depth tag nd (pre ++ R) post (m + size st) f.3 (is₁ ∙ sym (append_assoc pre R (K ++ post))) l' in
      let e : m + size st + kid_size ks ≡ m + (size st + kid_size ks) = omega arith in
      rw (t, k, c.0, c.1, c.2, e)

-- a table that a tree is laid out in is read as that tree
pub table_rows : (Good : NameSpan → Type 0) (depth parent : ℕ) (st : Tree NameSpan) (nd pre post : List ℕ) (n : ℕ) (name : NameSpan) (d : ℕ)
    → Fine Good depth st → Under parent name d → nd ≡ pre ++ (nodes_of st n name d ++ post) → length pre ≡ n * width
    → table depth nd n parent ≡ Ok (st, n + size st)
table_rows Good depth parent st = tree_rows st Good depth parent
