-- Tests of a type's nodes: the only refusal is that of the layout.
use mathlib.Core.Path.{◌≡◌, refl, ◌∙◌, ap}
use mathlib.Core.List.{List, [], ◌++◌}
use Prim.Native.Nat.{ℕ, zero, suc, ◌+◌, ◌-◌, ◌*◌, ◌<◌}
use native.Mathlib.Omega.{arith}
use lib.Dec.{eqb}
use lib.ListN.{length, get_or}
use borrow.Author.Tests.{eqb-true}
use Rattle.varint.specs.Choice.{pick}
use Rattle.varint.specs.Got.{Got}
use Rattle.varint.specs.Inner.Again.{Accepted}
use Rattle.varint.specs.Gathering.{Held, held, lacks, then_held}
use Rattle.varint.specs.declared.error.Fault.TheVariants.{Layout}
use Rattle.varint.specs.declared.error.Refusal.TheVariants.{BadMessage}
use Rattle.varint.proofs.Basics.{pick_both, pick_cases, never}
use Rattle.desc.specs.Emitting.{verdict, names_from}
use Rattle.desc.specs.Encoding.{held_in}
use Rattle.desc.specs.Layout.{NameSpan, tag_at, count_at, end_at}
use Rattle.desc.specs.Table.{cell, node_fits, is_branch, kids_at, closed_at, table}
use Rattle.desc.specs.Trees.{Tree, Kids}
use Rattle.desc.specs.declared.write.Emitted.{Emitted}
use Rattle.desc.proofs.Emitteds.{emitted_of}
use Rattle.desc.proofs.GotAs.{GotAs}
use Rattle.desc.proofs.NodeFits.{fits, leaf_row}
use Rattle.desc.proofs.TableNames.{table_bad, table_verdict}
use Rattle.desc.proofs.TableSound.{table_sound, some_size}
use Rattle.protocol.specs.Fields.{yes}
use Rattle.protocol.specs.Types.{node_after, type_laid, types_laid}
use Rattle.protocol.specs.declared.message.RowKind.TheVariants.{Predicate}
use Rattle.protocol_write.specs.Inner.Checking.{row_count, sized_as}
use Rattle.protocol_write.proofs.RowLoops.{head, others, count_next, none_left}
use Rattle.protocol_write.proofs.RowsSame.{type_same, types_same}
use Rattle.std.specs.Prelude.{Ok, Err, Result, Some, None}
use Rattle.varint.specs.declared.error.Refusal.{Refusal}

-- a tree that is read at node n ends where the node says
abbrev pub Ends : List ℕ → ℕ → Got (Tree NameSpan) → Type 0
Ends nd n = GotAs (λ t e. cell nd n end_at ≡ e)

closed_end : (nd : List ℕ) (n tag : ℕ) (K : Got (Kids NameSpan)) → Ends nd n (closed_at tag (cell nd n end_at) K)
closed_end nd n tag (Ok (ks, m)) = pick_cases (Ends nd n) (eqb (cell nd n end_at) m) (eqb-true (cell nd n end_at) m) (λ _. tt)
closed_end nd n tag (Err x) = tt

pub table_end : (d : ℕ) (nd : List ℕ) (n parent : ℕ) → Ends nd n (table d nd n parent)
unfolding table
table_end zero nd n parent = tt
table_end (suc d) nd n parent =
    pick_cases (Ends nd n) (node_fits nd n parent)
    (λ f.
    pick_cases (Ends nd n) (is_branch nd n)
    (λ _. closed_end nd n (cell nd n tag_at) (kids_at (table d nd) nd (cell nd n tag_at) (cell nd n count_at) (n + 1)))
    (λ b. (leaf_row nd n parent (fits nd n parent f) b).end_is))
    (λ _. tt)

-- a descriptor that is laid out and ends at node `end`
record Read (limit : ℕ) (nd : List ℕ) (n end : ℕ) : Type 0 where
  tree : Tree NameSpan
  is : table limit nd n 0 ≡ Ok (tree, end)

module _ (nd : List ℕ) (limit n end : ℕ) (laid : Accepted (table limit nd n 0)) (last : end ≡ cell nd n end_at) where
  read : Read limit nd n end
  read = go (table limit nd n 0) refl laid (table_end limit nd n 0)
    where
      go : (D : Got (Tree NameSpan)) → table limit nd n 0 ≡ D → Accepted D → Ends nd n D → Read limit nd n end
      go (Ok (t, e)) i a w = record { tree = t; is = let q : end ≡ e = last ∙ w in rw (q, i) refl }
      go (Err x) i a w = absurd a

  -- a descriptor has a node
  pub desc_inside : n < end
  desc_inside = let q = (table_sound limit 0 nd n read.tree end read.is).next in let o = some_size read.tree in omega arith

  -- its names
  pub desc_names : (tx : List ℕ) (v : Result (Unit {0}) Refusal) → v ≡ names_from tx nd (n + 1) (end - (n + 1)) → v ≡ verdict (held_in (table limit nd n 0) tx)
  unfolding held_in
  desc_names tx v names = rw read.is (names ∙ table_verdict tx nd limit n 0 end read.tree read.is)

-- The layout of types

abbrev LayoutOnly : Held ℕ → Type 0
LayoutOnly (held n) = Unit
LayoutOnly (lacks e) = e ≡ BadMessage Layout

then_layout : (H : Held ℕ) (k : ℕ → Held ℕ) → LayoutOnly H → ((m : ℕ) → LayoutOnly (k m)) → LayoutOnly (then_held H k)
then_layout (held n) k h g = g n
then_layout (lacks e) k h g = h

after_layout : (limit : ℕ) (nd : List ℕ) (n : ℕ) → LayoutOnly (node_after (table limit nd n 0))
after_layout limit nd n = go (table limit nd n 0) refl
  where
    go : (D : Got (Tree NameSpan)) → table limit nd n 0 ≡ D → LayoutOnly (node_after D)
    go (Ok (t, e)) h = tt
    go (Err x) h = table_bad [] nd limit n 0 x h

type_layout : (limit : ℕ) (rs nd : List ℕ) (r n : ℕ) → LayoutOnly (type_laid limit rs nd r n)
unfolding type_laid
type_layout limit rs nd r n =
    pick_both LayoutOnly (eqb (get_or rs (r + 5) 0) n)
    (then_layout (node_after (table limit nd n 0)) (λ m. pick (yes (get_or rs (r + 4) 0)) (node_after (table limit nd m 0)) (held m)) (after_layout limit nd n)
    (λ m. pick_both LayoutOnly (yes (get_or rs (r + 4) 0)) {a = node_after (table limit nd m 0)} {b = held m} (after_layout limit nd m) tt))
    refl

-- one turn over the types
module _ (limit : ℕ) (nd : List ℕ) where
  module _ (rs x rest : List ℕ) (size : ℕ) (is : rs ≡ x ++ rest) (long : length x ≡ size) (whole : size ≡ 6) where
    laid_turn : (n : ℕ) → types_laid limit rs nd (row_count Predicate rs) 0 n
        ≡ then_held (type_laid limit x nd 0 n) (λ m. types_laid limit rest nd (row_count Predicate rest) 0 m)
    unfolding types_laid
    laid_turn n =
        let k = row_count Predicate rest in
        rw (count_next Predicate rs x rest size is long whole, type_same limit nd n (head Predicate rs x rest size is long whole))
        (λ i. then_held (type_laid limit x nd 0 n) (λ m. types_same limit nd k (0 + 6) 0 m (others Predicate rs x rest size is long whole (k * 6)) i))

    pub type_next : (n size : ℕ) {e : Emitted} → sized_as (type_laid limit x nd 0 n) size ≡ Some e
        → types_laid limit rs nd (row_count Predicate rs) 0 n ≡ types_laid limit rest nd (row_count Predicate rest) 0 e.next
    unfolding sized_as
    type_next n size {e} h = laid_turn n ∙ go (type_laid limit x nd 0 n) h
      where
        go : (H : Held ℕ) → sized_as H size ≡ Some e
            → then_held H (λ k. types_laid limit rest nd (row_count Predicate rest) 0 k) ≡ types_laid limit rest nd (row_count Predicate rest) 0 e.next
        go (held k) h = let q = emitted_of h in rw q.0
        go (lacks e) h = never cc

    pub type_wrong : (n size : ℕ) → sized_as (type_laid limit x nd 0 n) size ≡ None → verdict (types_laid limit rs nd (row_count Predicate rs) 0 n) ≡ Err (BadMessage Layout)
    unfolding sized_as verdict
    type_wrong n size h = ap verdict (laid_turn n) ∙ go (type_laid limit x nd 0 n) (type_layout limit x nd 0 n) h
      where
        go : (H : Held ℕ) → LayoutOnly H → sized_as H size ≡ None → verdict (then_held H (λ k. types_laid limit rest nd (row_count Predicate rest) 0 k)) ≡ Err (BadMessage Layout)
        go (held k) l e = never cc
        go (lacks e) l h = rw l

  pub laid_end : (rest : List ℕ) (n : ℕ) → length rest < 6 → Ok tt ≡ verdict (types_laid limit rest nd (row_count Predicate rest) 0 n)
  unfolding types_laid verdict
  laid_end rest n short = rw (none_left Predicate rest short)
