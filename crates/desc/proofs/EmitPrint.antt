-- Of a table whose names are all there, the recursive writer stores the bytes of the tree.
use mathlib.Core.Bool.{Bool, true, false}
use mathlib.Core.Path.{◌≡◌, refl, sym, ap, ◌∙◌}
use mathlib.Core.List.{List, [], ◌++◌}
use mathlib.Core.Logic.{⊎_elim}
use Prim.Native.Nat.{ℕ, suc, ◌+◌, ◌≤◌, ◌<◌}
use native.Mathlib.Omega.{arith}
use lib.Dec.{eqb, ltb}
use lib.ListN.{length, length-append}
use lib.Seq.{sets, length-sets}
use borrow.Author.Tests.{ltb-false}
use Rattle.varint.specs.Choice.{pick}
use Rattle.varint.specs.Formats.{print_text}
use Rattle.varint.specs.Gathering.{Held, held, lacks, then_held, name_held, text_held}
use Rattle.varint.specs.Leb128.{put_u64}
use Rattle.varint.specs.Outs.{declared}
use Rattle.varint.specs.Stores.{part}
use Rattle.varint.specs.Utf8.{utf8}
use Rattle.varint.proofs.Basics.{pick_cases, below}
use Rattle.varint.proofs.StoreLaws.{sets_append, sets_out, length_part}
use Rattle.desc.specs.Emitting.{Pen, put_bytes, put_number, put_name}
use Rattle.desc.specs.Inner.Emission.{put_where, put_label, put_tree, put_kids}
use Rattle.desc.specs.Layout.{NameSpan}
use Rattle.desc.specs.Printing.{print, print_kids}
use Rattle.desc.specs.Table.{gather, gather_kids}
use Rattle.desc.specs.Trees.{Tree, leaf, branch, Kids, none, more, kid_count}

abbrev pub last : ℕ
last = 18446744073709551615

-- the buffer ends before the last place
pub record Roomy (s : Pen) : Type 0 where
  pub short : length s.out ≤ last
  pub inside : s.place ≤ last

pub roomy_put : (x : List ℕ) (s : Pen) → Roomy s → Roomy (put_bytes x s)
unfolding put_bytes
roomy_put x s h = record { short = rw length-sets h.short; inside = omega arith }

-- a place that is cut stores nothing, no more than the true one
sets_cut : (x y d : List ℕ) (at : ℕ) → length d ≤ last → sets (sets d at x) (declared (at + length x)) y ≡ sets d at (x ++ y)
sets_cut x y d at h =
    ⊎_elim
    (λ (l : last < at + length x).
    let e : declared (at + length x) ≡ last = omega arith in
    let n : length (sets d at x) ≡ length d = length-sets d at x in
    let a : length (sets d at x) ≤ last = omega arith in
    let b : length (sets d at x) ≤ at + length x = omega arith in
    rw (e, sets_out y (sets d at x) last a, sets_append x y d at, sets_out y (sets d at x) (at + length x) b))
    (λ (l : at + length x ≤ last).
    let e : declared (at + length x) ≡ at + length x = omega arith in
    rw e (sym (sets_append x y d at)))
    (below last (at + length x))

pub two : (x y : List ℕ) (s : Pen) → Roomy s → put_bytes y (put_bytes x s) ≡ put_bytes (x ++ y) s
unfolding put_bytes
two x y s h =
    let l : length (x ++ y) ≡ length x + length y = length-append x y in
    let e : declared (declared (s.place + length x) + length y) ≡ declared (s.place + length (x ++ y)) = omega arith in
    λ i. record { out = sets_cut x y s.out s.place h.short i; place = e i }

pub nothing : (s : Pen) → Roomy s → s ≡ put_bytes [] s
unfolding put_bytes
nothing s h =
    let p = h.inside in
    let e : s.place ≡ declared (s.place + 0) = omega arith in
    λ i. record { out = s.out; place = e i }

where_put : (b : Bool) (v : ℕ) (s : Pen) → Roomy s → put_where b v s ≡ put_bytes (pick b (put_u64 v) []) s
unfolding put_where put_number
where_put true v s h = refl
where_put false v s h = nothing s h

-- a name that is there, by its length and by what is written of it
abbrev pub NameIs : List ℕ → ℕ → ℕ → Held (List ℕ) → Type 0
NameIs tx start len (held x) = (len ≡ length x) × ((s : Pen) → put_name tx (start, len) s ≡ put_bytes x s)
NameIs tx start len (lacks e) = Unit

pub name_is : (tx : List ℕ) (start len : ℕ) → NameIs tx start len (name_held tx start len)
unfolding name_held text_held put_name put_bytes
name_is tx start len =
    pick_cases (NameIs tx start len) (ltb (length tx) (start + len))
    (λ h. tt)
    (λ h.
    let fits : start + len ≤ length tx = omega (arith, ltb-false) in
    let e : len ≡ length (part tx start len) = sym (length_part tx start len fits) in
    pick_cases (NameIs tx start len) (utf8 (part tx start len))
    (λ u. (e, λ s i. record { out = sets s.out s.place (part tx start len); place = declared (s.place + e i) }))
    (λ u. tt))

-- what is written of a tree, and of children of any type; how many children there are
abbrev TreeIs : List ℕ → Tree NameSpan → Held (Tree (List ℕ)) → Type 0
TreeIs tx t (held u) = (s : Pen) → Roomy s → put_tree tx t s ≡ put_bytes (print u) s
TreeIs tx t (lacks e) = Unit

abbrev pub KidsAre : List ℕ → Kids NameSpan → Held (Kids (List ℕ)) → Type 0
KidsAre tx ks (held l) = (kid_count ks ≡ kid_count l) × ((tag : ℕ) (s : Pen) → Roomy s → put_kids tx tag ks s ≡ put_bytes (print_kids tag l) s)
KidsAre tx ks (lacks e) = Unit

label_is : (tx : List ℕ) (tag start len d : ℕ) (x : List ℕ) → NameIs tx start len (held x) → (s : Pen) → Roomy s
    → put_label tx tag (start, len) d s ≡ put_bytes (pick (eqb tag 4) (put_u64 d) []) (put_bytes (print_text x) s)
unfolding put_label put_number
label_is tx tag start len d x n s h =
    ap (λ (y : ℕ). put_where (eqb tag 4) d (put_name tx (start, len) (put_bytes (put_u64 y) s))) n.0
    ∙ ap (put_where (eqb tag 4) d) (n.1 (put_bytes (put_u64 (length x)) s) ∙ two (put_u64 (length x)) x s h)
    ∙ where_put (eqb tag 4) d (put_bytes (print_text x) s) (roomy_put (print_text x) s h)

four : (a b c d : List ℕ) (s : Pen) → Roomy s → put_bytes d (put_bytes c (put_bytes b (put_bytes a s))) ≡ put_bytes (a ++ (b ++ (c ++ d))) s
four a b c d s h =
    let r = roomy_put a s h in
    two c d (put_bytes b (put_bytes a s)) (roomy_put b (put_bytes a s) r) ∙ two b (c ++ d) (put_bytes a s) r ∙ two a (b ++ (c ++ d)) s h

more_is : (tx : List ℕ) (start len d : ℕ) (t : Tree NameSpan) (ks : Kids NameSpan) (N : Held (List ℕ)) (T : Held (Tree (List ℕ))) (K : Held (Kids (List ℕ)))
    → NameIs tx start len N → TreeIs tx t T → KidsAre tx ks K
    → KidsAre tx (more (start, len) d t ks) (then_held N (λ x. then_held T (λ u. then_held K (λ l. held (more x d u l)))))
unfolding kid_count put_kids print_kids
more_is tx start len d t ks (held x) (held u) (held l) n p q = (
  ap suc q.0,
  λ tag s h.
      let D = pick (eqb tag 4) (put_u64 d) [] in
      let r₁ = roomy_put (print_text x) s h in
      let r₂ = roomy_put D (put_bytes (print_text x) s) r₁ in
      let r₃ = roomy_put (print u) (put_bytes D (put_bytes (print_text x) s)) r₂ in
      rw (label_is tx tag start len d x n s h, p (put_bytes D (put_bytes (print_text x) s)) r₂, q.1 tag (put_bytes (print u) (put_bytes D (put_bytes (print_text x) s))) r₃)
      (four (print_text x) D (print u) (print_kids tag l) s h),
)
more_is tx start len d t ks (held x) (held u) (lacks e) n p q = tt
more_is tx start len d t ks (held x) (lacks e) K n p q = tt
more_is tx start len d t ks (lacks e) T K n p q = tt

branch_is : (tx : List ℕ) (tag : ℕ) (ks : Kids NameSpan) (K : Held (Kids (List ℕ))) → KidsAre tx ks K → TreeIs tx (branch tag ks) (then_held K (λ l. held (branch tag l)))
unfolding put_tree print put_number
branch_is tx tag ks (lacks e) q = tt
branch_is tx tag ks (held l) q =
    λ s h.
    let T = put_u64 tag in
    let C = put_u64 (kid_count l) in
    let r = roomy_put T s h in
    rw (q.0, q.1 tag (put_bytes C (put_bytes T s)) (roomy_put C (put_bytes T s) r), two C (print_kids tag l) (put_bytes T s) r, two T (C ++ print_kids tag l) s h)

leaf_is : (tx : List ℕ) (tag p : ℕ) → TreeIs tx (leaf tag p) (held (leaf tag p))
unfolding put_tree print put_number
leaf_is tx tag p s h =
    let T = put_u64 tag in
    rw (where_put (eqb tag 2) p (put_bytes T s) (roomy_put T s h), two T (pick (eqb tag 2) (put_u64 p) []) s h)

no_kids_are : (tx : List ℕ) → KidsAre tx none (held none)
unfolding put_kids print_kids kid_count
no_kids_are tx = (refl, λ tag s h. nothing s h)

mutual
  unfolding gather

  tree_is : (tx : List ℕ) (t : Tree NameSpan) → TreeIs tx t (gather tx t)
  tree_is tx (leaf tag p) = leaf_is tx tag p
  tree_is tx (branch tag ks) = branch_is tx tag ks (gather_kids tx ks) (kids_are tx ks)

  pub kids_are : (tx : List ℕ) (ks : Kids NameSpan) → KidsAre tx ks (gather_kids tx ks)
  kids_are tx none = no_kids_are tx
  kids_are tx (more name d t ks) =
      more_is tx name.0 name.1 d t ks (name_held tx name.0 name.1) (gather tx t) (gather_kids tx ks) (name_is tx name.0 name.1) (tree_is tx t) (kids_are tx ks)

-- what is written of a tree whose names are all there
pub put_print : (tx : List ℕ) (t : Tree NameSpan) (u : Tree (List ℕ)) (s : Pen) → gather tx t ≡ held u → Roomy s → put_tree tx t s ≡ put_bytes (print u) s
put_print tx t u s e h = (rw e at (tree_is tx t)) s h
