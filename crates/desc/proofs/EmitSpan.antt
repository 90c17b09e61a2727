-- Of a table whose names are all there, the size that it says is the length of the tree's bytes.
use mathlib.Core.Bool.{Bool, true, false}
use mathlib.Core.Path.{◌≡◌, refl}
use mathlib.Core.List.{List, [], ◌++◌}
use Prim.Native.Nat.{ℕ, ◌+◌}
use native.Mathlib.Omega.{arith}
use lib.Dec.{eqb}
use lib.ListN.{length, length-append}
use Rattle.varint.specs.Choice.{pick}
use Rattle.varint.specs.Gathering.{Held, held, lacks, then_held, name_held}
use Rattle.varint.specs.Leb128.{put_u64}
use Rattle.desc.specs.Emitting.{span_size, kids_span}
use Rattle.desc.specs.Layout.{NameSpan}
use Rattle.desc.specs.Printing.{print, print_kids}
use Rattle.desc.specs.Table.{gather, gather_kids}
use Rattle.desc.specs.Trees.{Tree, leaf, branch, Kids, none, more, kid_count}
use Rattle.desc.proofs.EmitPrint.{NameIs, name_is, KidsAre, kids_are}

abbrev TreeSpan : Tree NameSpan → Held (Tree (List ℕ)) → Type 0
TreeSpan t (held u) = span_size t ≡ length (print u)
TreeSpan t (lacks e) = Unit

abbrev KidsSpans : Kids NameSpan → Held (Kids (List ℕ)) → Type 0
KidsSpans ks (held l) = (tag : ℕ) → kids_span tag ks ≡ length (print_kids tag l)
KidsSpans ks (lacks e) = Unit

pick_length : (t : Bool) (x : List ℕ) → length (pick t x []) ≡ pick t (length x) 0
pick_length true x = refl
pick_length false x = refl

three_length : (a b c : List ℕ) → length (a ++ (b ++ c)) ≡ length a + (length b + length c)
three_length a b c = simp length-append

leaf_span : (tag p : ℕ) → TreeSpan (leaf tag p) (held (leaf tag p))
unfolding span_size print
leaf_span tag p = rw (length-append, pick_length)

branch_span : (tx : List ℕ) (tag : ℕ) (ks : Kids NameSpan) (K : Held (Kids (List ℕ))) → KidsAre tx ks K → KidsSpans ks K → TreeSpan (branch tag ks) (then_held K (λ l. held (branch tag l)))
unfolding span_size print
branch_span tx tag ks (held l) c h = rw (three_length (put_u64 tag) (put_u64 (kid_count l)) (print_kids tag l), h tag, c.0)
branch_span tx tag ks (lacks e) c h = tt

five_length : (a b c d e : List ℕ) → length (a ++ b ++ (c ++ (d ++ e))) ≡ length a + (length b + (length c + (length d + length e)))
five_length a b c d e = simp length-append (omega arith)

more_span : (tx : List ℕ) (start len d : ℕ) (t : Tree NameSpan) (ks : Kids NameSpan) (N : Held (List ℕ)) (T : Held (Tree (List ℕ))) (K : Held (Kids (List ℕ)))
    → NameIs tx start len N → TreeSpan t T → KidsSpans ks K
    → KidsSpans (more (start, len) d t ks) (then_held N (λ x. then_held T (λ u. then_held K (λ l. held (more x d u l)))))
unfolding kids_span print_kids
more_span tx start len d t ks (held x) (held u) (held l) n p q =
    λ tag. rw (five_length (put_u64 (length x)) x (pick (eqb tag 4) (put_u64 d) []) (print u) (print_kids tag l), pick_length, n.0, p, q tag)
more_span tx start len d t ks (held x) (held u) (lacks e) n p q = tt
more_span tx start len d t ks (held x) (lacks e) K n p q = tt
more_span tx start len d t ks (lacks e) T K n p q = tt

no_kids_span : KidsSpans none (held none)
unfolding kids_span print_kids
no_kids_span tag = refl

mutual
  unfolding gather

  tree_span : (tx : List ℕ) (t : Tree NameSpan) → TreeSpan t (gather tx t)
  tree_span tx (leaf tag p) = leaf_span tag p
  tree_span tx (branch tag ks) = branch_span tx tag ks (gather_kids tx ks) (kids_are tx ks) (kids_span_lem tx ks)

  kids_span_lem : (tx : List ℕ) (ks : Kids NameSpan) → KidsSpans ks (gather_kids tx ks)
  kids_span_lem tx none = no_kids_span
  kids_span_lem tx (more name d t ks) =
      more_span tx name.0 name.1 d t ks (name_held tx name.0 name.1) (gather tx t) (gather_kids tx ks)
      (name_is tx name.0 name.1)
      (tree_span tx t)
      (kids_span_lem tx ks)

pub span_print : (tx : List ℕ) (t : Tree NameSpan) (u : Tree (List ℕ)) → gather tx t ≡ held u → span_size t ≡ length (print u)
span_print tx t u e = rw e at (tree_span tx t)
