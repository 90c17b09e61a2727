-- A node that passes the tests of a table: what they say of its columns.
use mathlib.Core.Bool.{Bool, true, false, ◌&&◌, ◌||◌}
use mathlib.Core.Path.{◌≡◌, refl, sym, ◌∙◌, ap}
use mathlib.Core.Logic.{◌⊎◌, inl, inr}
use mathlib.Core.List.{List, [], ◌∷◌}
use Prim.Native.Nat.{ℕ, zero, suc, ◌+◌, ◌*◌, ◌/◌, ◌≤◌, ◌<◌}
use native.Mathlib.Nat.{add-zero}
use native.Mathlib.Omega.{arith}
use lib.Dec.{ltb, leb, eqb}
use lib.ListN.{length, get_or}
use lib.Seq.{sets, set-get_or}
use borrow.Author.Tests.{ltb-true, leb-true, eqb-true}
use Rattle.varint.proofs.Basics.{both, clash}
use Rattle.desc.specs.Layout.{NameSpan, width, node_of}
use Rattle.desc.specs.Table.{cell, root_name, discriminant_fits, predicate_fits, is_branch, leaf_fits, node_fits}
use Rattle.desc.specs.WellFormed.{LeafOk, BranchOk, LabelOk}
use Rattle.desc.proofs.TableRows.{Row}
use Rattle.desc.proofs.Tags.{Under, root, below, branch_ok, leaf_of, branch_plain, label_of}

-- Rows that stand there already

-- the list x stands in l from column c after `base` on
abbrev There : List ℕ → ℕ → ℕ → List ℕ → Type 0
There l base c [] = Unit
There l base c (a ∷ x) = (get_or l (base + c) 0 ≡ a) × There l base (suc c) x

same_run : (x l : List ℕ) (base c : ℕ) → There l base c x → sets l (base + c) x ≡ l
same_run [] l base c h = refl
same_run (a ∷ x) l base c h =
    let e : suc (base + c) ≡ base + suc c = omega arith in
    rw (← h.0, set-get_or l (base + c) 0, e) (same_run x l base (suc c) h.1)

pub row_same : {nd : List ℕ} {n tag : ℕ} {name : NameSpan} {d p count end : ℕ} → Row nd n tag name d p count end
    → sets nd (n * width) (node_of tag name.0 name.1 d p count end) ≡ nd
row_same {nd} {n} {tag} {name} {d} {p} {count} {end} r =
    let R : List ℕ = node_of tag name.0 name.1 d p count end in
    let t : There nd (n * width) 0 R =
    (r.tag_is, (r.start_is, (r.len_is, (r.discriminant_is, (r.predicate_is, (r.count_is, (r.end_is, tt))))))) in
    ap (λ (k : ℕ). sets nd k R) (sym (add-zero (n * width))) ∙ same_run R nd (n * width) 0 t

-- A node that fits

all_six : (a b c d e f : Bool) → (a && b && c && d && e && f) ≡ true
    → (a ≡ true) × (b ≡ true) × (c ≡ true) × (d ≡ true) × (e ≡ true) × (f ≡ true)
all_six true true true true true true h = (refl, refl, refl, refl, refl, refl)
all_six false b c d e f h = clash h refl
all_six true false c d e f h = clash h refl
all_six true true false d e f h = clash h refl
all_six true true true false e f h = clash h refl
all_six true true true true false f h = clash h refl
all_six true true true true true false h = clash h refl

-- the discriminant of a part
pub label_under : {tag d : ℕ} {name : NameSpan} → BranchOk tag → Under tag name d → LabelOk tag d
label_under b (below l) = l
label_under b root = elim b [ ]

-- the name of node n
abbrev pub name_at : List ℕ → ℕ → NameSpan
name_at nd n = (cell nd n 1, cell nd n 2)

-- what is tested of a node
pub record Fits (nd : List ℕ) (n parent : ℕ) : Type 0 where
  pub inside : n < length nd / width
  pub known : cell nd n 0 ≤ 5
  pub under : (parent ≡ 0) ⊎ BranchOk parent → Under parent (name_at nd n) (cell nd n 3)
  pub predicate : predicate_fits nd n ≡ true
  pub ends : (is_branch nd n || leaf_fits nd n) ≡ true

under_of : (nd : List ℕ) (n parent : ℕ) → root_name nd n parent ≡ true → discriminant_fits nd n parent ≡ true → (parent ≡ 0) ⊎ BranchOk parent
    → Under parent (name_at nd n) (cell nd n 3)
unfolding root_name discriminant_fits
under_of nd n zero a b (inl e) =
    let z = both (eqb (cell nd n 1) 0) (eqb (cell nd n 2) 0) a in
    rw (eqb-true (cell nd n 1) 0 z.0, eqb-true (cell nd n 2) 0 z.1, eqb-true (cell nd n 3) 0 b) root
under_of nd n (suc parent) a b (inl e) = absurd (omega arith)
under_of nd n parent a b (inr k) = below (label_of (cell nd n 3) k b)

pub fits : (nd : List ℕ) (n parent : ℕ) → node_fits nd n parent ≡ true → Fits nd n parent
unfolding node_fits
fits nd n parent h =
    let t = all_six (ltb n (length nd / width)) (leb (cell nd n 0) 5) (root_name nd n parent) (discriminant_fits nd n parent) (predicate_fits nd n)
    (is_branch nd n || leaf_fits nd n) h in
    record {
      inside = ltb-true n (length nd / width) t.0;
      known = leb-true (cell nd n 0) 5 t.1;
      under = under_of nd n parent t.2 t.3;
      predicate = t.4;
      ends = t.5;
    }

-- a node without children
pub leaf_row : (nd : List ℕ) (n parent : ℕ) → Fits nd n parent → is_branch nd n ≡ false
    → Row nd n (cell nd n 0) (name_at nd n) (cell nd n 3) (cell nd n 4) 0 (n + 1)
unfolding leaf_fits
leaf_row nd n parent f b =
    let e = rw b at f.ends in
    let z = both (eqb (cell nd n 5) 0) (eqb (cell nd n 6) (n + 1)) e in
    record {
      inside = f.inside;
      tag_is = refl;
      start_is = refl;
      len_is = refl;
      discriminant_is = refl;
      predicate_is = refl;
      count_is = eqb-true (cell nd n 5) 0 z.0;
      end_is = eqb-true (cell nd n 6) (n + 1) z.1;
    }

pub leaf_is : (nd : List ℕ) (n parent : ℕ) → Fits nd n parent → is_branch nd n ≡ false → LeafOk (cell nd n 0) (cell nd n 4)
unfolding is_branch predicate_fits
leaf_is nd n parent f b = leaf_of (cell nd n 0) (cell nd n 4) f.known b f.predicate

-- a node with children
pub branch_is : (nd : List ℕ) (n : ℕ) → is_branch nd n ≡ true → BranchOk (cell nd n 0)
unfolding is_branch
branch_is nd n b = branch_ok (cell nd n 0) b

pub branch_row : (nd : List ℕ) (n parent : ℕ) → Fits nd n parent → is_branch nd n ≡ true
    → Row nd n (cell nd n 0) (name_at nd n) (cell nd n 3) 0 (cell nd n 5) (cell nd n 6)
unfolding predicate_fits
branch_row nd n parent f b =
    record {
      inside = f.inside;
      tag_is = refl;
      start_is = refl;
      len_is = refl;
      discriminant_is = refl;
      predicate_is = branch_plain (cell nd n 4) (branch_is nd n b) f.predicate;
      count_is = refl;
      end_is = refl;
    }
