-- Only a layout is read: where a table is read as a tree, that tree is laid out there. To store its nodes there changes nothing.
use mathlib.Core.Bool.{true, false}
use mathlib.Core.Path.{◌≡◌, refl, sym, ◌∙◌, ap}
use mathlib.Core.Logic.{◌⊎◌, inr}
use mathlib.Core.List.{List}
use Prim.Native.Nat.{ℕ, zero, suc, ◌+◌, ◌*◌, ◌^◌, ◌≤◌, ◌<◌}
use native.Mathlib.Nat.{add-zero}
use native.Mathlib.Omega.{arith}
use lib.Dec.{eqb}
use lib.ListN.{length}
use lib.Seq.{sets}
use borrow.Author.Tests.{eqb-true}
use Rattle.varint.specs.Got.{Got}
use Rattle.varint.proofs.Basics.{pick_cases}
use Rattle.varint.proofs.StoreLaws.{sets_append}
use Rattle.desc.specs.Layout.{NameSpan, width, node_of, nodes_of, kid_nodes}
use Rattle.desc.specs.Table.{cell, is_branch, node_fits, kids_at, closed_at, table}
use Rattle.desc.specs.Trees.{Tree, leaf, branch, Kids, none, more, kid_count, size, kid_size}
use Rattle.desc.specs.WellFormed.{BranchOk, Fine, FineKids}
use Rattle.desc.proofs.GotAs.{GotAs, then_got, got_as}
use Rattle.desc.proofs.NodeFits.{Fits, fits, name_at, row_same, label_under, leaf_row, leaf_is, branch_is, branch_row}
use Rattle.desc.proofs.LayoutLaws.{length_nodes}
use Rattle.desc.proofs.Tags.{Under}
use Rattle.std.specs.Prelude.{Ok, Err}

-- the tree st is laid out from node n on, and ends before node m
pub record Laid (depth parent : ℕ) (nd : List ℕ) (n : ℕ) (st : Tree NameSpan) (m : ℕ) : Type 0 where
  pub next : m ≡ n + size st
  pub inside : m * width ≤ length nd
  pub there : sets nd (n * width) (nodes_of st n (name_at nd n) (cell nd n 3)) ≡ nd
  pub under : (parent ≡ 0) ⊎ BranchOk parent → Under parent (name_at nd n) (cell nd n 3)
  pub fine : length nd < 2 ^ 64 → Fine (λ _. Unit) depth st

-- so are k parts of a type with this tag, from node m on
record LaidKids (depth tag : ℕ) (nd : List ℕ) (k m : ℕ) (ks : Kids NameSpan) (e : ℕ) : Type 0 where
  count : kid_count ks ≡ k
  next : e ≡ m + kid_size ks
  inside : m * width ≤ length nd → e * width ≤ length nd
  there : sets nd (m * width) (kid_nodes ks m) ≡ nd
  fine : BranchOk tag → length nd < 2 ^ 64 → FineKids (λ _. Unit) tag depth ks

-- a part more in front
more_laid : (depth tag : ℕ) (nd : List ℕ) (k m e f : ℕ) (st : Tree NameSpan) (ks : Kids NameSpan) → Laid depth tag nd m st e → LaidKids depth tag nd k e ks f
    → LaidKids depth tag nd (suc k) m (more (name_at nd m) (cell nd m 3) st ks) f
unfolding kid_count size nodes_of Fine
more_laid depth tag nd k m e f st ks t o =
    let R : List ℕ = nodes_of st m (name_at nd m) (cell nd m 3) in
    let a = t.next in
    let b = o.next in
    let l : m * width + length R ≡ e * width = omega (arith, length_nodes st m (name_at nd m) (cell nd m 3)) in
    record {
      count = ap suc o.count;
      next = omega arith;
      inside = λ _. o.inside t.inside;
      there = sets_append R (kid_nodes ks (m + size st)) nd (m * width) ∙ rw (t.there, l, ← a) o.there;
      fine = λ x y. (tt, label_under x (t.under (inr x)), t.fine y, o.fine x y);
    }

kids_laid : (depth : ℕ) (nd : List ℕ) (r : ℕ → ℕ → Got (Tree NameSpan)) (tag : ℕ) → ((m : ℕ) → GotAs (Laid depth tag nd m) (r m tag))
    → (k m : ℕ) → GotAs (LaidKids depth tag nd k m) (kids_at r nd tag k m)
unfolding kids_at kid_count size nodes_of Fine
kids_laid depth nd r tag h zero m =
    record { count = refl; next = sym (add-zero m); inside = λ x. x; there = refl; fine = λ x y. tt }
kids_laid depth nd r tag h (suc k) m =
    then_got (Laid depth tag nd m) (LaidKids depth tag nd (suc k) m) (r m tag) _ (h m)
    (λ st e t.
    then_got (LaidKids depth tag nd k e) (LaidKids depth tag nd (suc k) m) (kids_at r nd tag k e) _ (kids_laid depth nd r tag h k e)
    (λ ks f o. more_laid depth tag nd k m e f st ks t o))

-- there are no more parts than nodes
pub some_size : {N : Type 0} (st : Tree N) → 1 ≤ size st
unfolding size
some_size (leaf tag p) = omega arith
some_size (branch tag ks) = omega arith

count_size : {N : Type 0} (ks : Kids N) → kid_count ks ≤ kid_size ks
unfolding kid_count size
count_size none = omega arith
count_size (more name d st ks) = omega (arith, some_size st, count_size ks)

leaf_laid : (depth parent : ℕ) (nd : List ℕ) (n : ℕ) → Fits nd n parent → is_branch nd n ≡ false
    → Laid (suc depth) parent nd n (leaf (cell nd n 0) (cell nd n 4)) (n + 1)
unfolding size nodes_of Fine
leaf_laid depth parent nd n f b =
    let i = f.inside in
    record { next = refl; inside = omega arith; there = row_same (leaf_row nd n parent f b); under = f.under; fine = λ _. leaf_is nd n parent f b }

branch_laid : (depth parent : ℕ) (nd : List ℕ) (n m : ℕ) (ks : Kids NameSpan) → Fits nd n parent → is_branch nd n ≡ true → cell nd n 6 ≡ m
    → LaidKids depth (cell nd n 0) nd (cell nd n 5) (n + 1) ks m → Laid (suc depth) parent nd n (branch (cell nd n 0) ks) m
unfolding size nodes_of Fine
branch_laid depth parent nd n m ks f b end o =
    let i = f.inside in
    let a = o.next in
    let in₀ : (n + 1) * width ≤ length nd = omega arith in
    let in₁ : m * width ≤ length nd = o.inside in₀ in
    let c = o.count in
    let e : n + 1 + kid_size ks ≡ cell nd n 6 = omega arith in
    let w : n * width + 7 ≡ (n + 1) * width = omega arith in
    let R : List ℕ = node_of (cell nd n 0) (cell nd n 1) (cell nd n 2) (cell nd n 3) 0 (kid_count ks) (n + 1 + kid_size ks) in
    let r : sets nd (n * width) R ≡ nd = rw (e, c) (row_same (branch_row nd n parent f b)) in
    record {
      next = omega arith;
      inside = in₁;
      there = sets_append R (kid_nodes ks (n + 1)) nd (n * width) ∙ rw (r, w) o.there;
      under = f.under;
      fine = λ y. (branch_is nd n b, omega (arith, count_size ks), o.fine (branch_is nd n b) y);
    }

closed_laid : (depth parent : ℕ) (nd : List ℕ) (n : ℕ) → Fits nd n parent → is_branch nd n ≡ true
    → (x : Got (Kids NameSpan)) → GotAs (LaidKids depth (cell nd n 0) nd (cell nd n 5) (n + 1)) x
    → GotAs (Laid (suc depth) parent nd n) (closed_at (cell nd n 0) (cell nd n 6) x)
closed_laid depth parent nd n f b (Err e) o = tt
closed_laid depth parent nd n f b (Ok (ks, m)) o =
    pick_cases (GotAs (Laid (suc depth) parent nd n)) (eqb (cell nd n 6) m)
    (λ e. branch_laid depth parent nd n m ks f b (eqb-true (cell nd n 6) m e) o) (λ _. tt)

pub table_laid : (depth : ℕ) (nd : List ℕ) (n parent : ℕ) → GotAs (Laid depth parent nd n) (table depth nd n parent)
unfolding table
table_laid zero nd n parent = tt
table_laid (suc depth) nd n parent =
    pick_cases (GotAs (Laid (suc depth) parent nd n)) (node_fits nd n parent)
    (λ t.
    pick_cases (GotAs (Laid (suc depth) parent nd n)) (is_branch nd n)
    (λ b.
    closed_laid depth parent nd n (fits nd n parent t) b (kids_at (table depth nd) nd (cell nd n 0) (cell nd n 5) (n + 1))
    (kids_laid depth nd (table depth nd) (cell nd n 0) (λ m. table_laid depth nd m (cell nd n 0)) (cell nd n 5) (n + 1)))
    (λ b. leaf_laid depth parent nd n (fits nd n parent t) b))
    (λ _. tt)

-- where a table is read as a tree, that tree is laid out there
pub table_sound : (depth parent : ℕ) (nd : List ℕ) (n : ℕ) (st : Tree NameSpan) (m : ℕ) → table depth nd n parent ≡ Ok (st, m)
    → Laid depth parent nd n st m
table_sound depth parent nd n st m e = got_as (Laid depth parent nd n) (table depth nd n parent) st m (table_laid depth nd n parent) e
