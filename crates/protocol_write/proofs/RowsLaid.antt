-- Rows whose nodes are laid out: what the test of all nodes tells of the nodes of each row.
use mathlib.Core.Path.{◌≡◌, refl, ◌∙◌, ap}
use mathlib.Core.List.{List, ◌++◌}
use Prim.Native.Nat.{ℕ, zero, suc, ◌+◌}
use native.Mathlib.Omega.{arith}
use lib.Dec.{eqb}
use lib.ListN.{get_or}
use borrow.Author.Tests.{eqb-true}
use Rattle.varint.specs.Choice.{pick}
use Rattle.varint.specs.Got.{Got}
use Rattle.varint.specs.Inner.Again.{Accepted}
use Rattle.varint.proofs.Agains.{accepted}
use Rattle.varint.specs.Gathering.{Held, held, lacks}
use Rattle.varint.proofs.Basics.{test, never}
use Rattle.desc.specs.Emitting.{verdict}
use Rattle.desc.specs.Layout.{NameSpan, end_at}
use Rattle.desc.specs.Table.{cell, table}
use Rattle.desc.specs.Trees.{Tree}
use Rattle.protocol.specs.Fields.{yes}
use Rattle.protocol.specs.Rows.{width_of}
use Rattle.protocol.specs.Types.{node_after, type_laid, types_laid}
use Rattle.protocol.specs.declared.message.RowKind.{RowKind}
use Rattle.protocol.specs.declared.message.RowKind.TheVariants.{Claim, Id, Predicate, Step, Pair}
use Rattle.protocol_write.specs.Inner.Checking.{row_count, Cut, nodes_fine, value_root, ValueLaid, RowLaid}
use Rattle.protocol_write.proofs.RowLoops.{head, others, count_next, cut_count, cut_same}
use Rattle.protocol_write.proofs.RowsSame.{Same, row_same, rows_same, types_same}
use Rattle.protocol_write.proofs.NodeChecks.{Ends, table_end}
use Rattle.protocol_write.proofs.Printing.{took}
use Rattle.std.specs.Prelude.{length, Ok, Err, Some, None, Bool, true, false, ◌*◌}

module _ (limit : ℕ) (rs nd : List ℕ) where
  -- the nodes of so many rows from number r on are laid out
  abbrev pub RowsLaid : RowKind → ℕ → ℕ → Type 0
  RowsLaid kind zero r = Unit
  RowsLaid kind (suc left) r = RowLaid kind limit rs nd r × RowsLaid kind left (r + width_of kind)

  -- a tree that has a node after it
  after_held : (n m : ℕ) → node_after (table limit nd n 0) ≡ held m → Accepted (table limit nd n 0) × (cell nd n end_at ≡ m)
  after_held n m h = go (table limit nd n 0) refl h (table_end limit nd n 0)
    where
      go : (D : Got (Tree NameSpan)) → table limit nd n 0 ≡ D → node_after D ≡ held m → Ends nd n D → Accepted (table limit nd n 0) × (cell nd n end_at ≡ m)
      go (Ok (t, e)) i k l = let p : e ≡ m = cc in (accepted i, l ∙ p)
      go (Err x) i k l = never cc

  -- a value whose root is node k, where the key at node n ends
  valued : (has n k m : ℕ) → cell nd n end_at ≡ k → pick (yes has) (node_after (table limit nd k 0)) (held k) ≡ held m → ValueLaid limit nd (value_root nd has n)
  unfolding value_root
  valued has n k m e h = rw e (go (yes has) h)
    where
      go : (b : Bool) → pick b (node_after (table limit nd k 0)) (held k) ≡ held m → ValueLaid limit nd (pick b (Some k) None)
      go true g = (after_held k m g).0
      go false g = tt

  -- a type whose key stands at node n
  type_held : (r n m : ℕ) → type_laid limit rs nd r n ≡ held m → RowLaid Predicate limit rs nd r
  unfolding type_laid
  type_held r n m h =
      test (eqb (get_or rs (r + 5) 0) n)
      (λ e.
      let t = took (node_after (table limit nd n 0)) _ m (rw e at h) in
      let k = after_held n t.value t.is in
      rw (eqb-true (get_or rs (r + 5) 0) n e) (k.0, valued (get_or rs (r + 4) 0) n t.value m k.1 t.rest))
      (λ e. never cc)

  types_held : (left r n m : ℕ) → types_laid limit rs nd left r n ≡ held m → RowsLaid Predicate left r
  unfolding types_laid
  types_held zero r n m h = tt
  types_held (suc left) r n m h =
      let t = took (type_laid limit rs nd r n) _ m h in
      (type_held r n t.value t.is, types_held left (r + 6) t.value m t.rest)

  -- rows of a kind that has no nodes
  no_nodes : (kind : RowKind) → ((r : ℕ) → RowLaid kind limit rs nd r) → (left r : ℕ) → RowsLaid kind left r
  no_nodes kind h zero r = tt
  no_nodes kind h (suc left) r = (h r, no_nodes kind h left (r + width_of kind))

  -- the test of all nodes
  pub rows_laid : (kind : RowKind) (count : ℕ) → nodes_fine kind limit rs nd count ≡ Ok tt → RowsLaid kind count 0
  unfolding nodes_fine verdict
  rows_laid Claim count h = no_nodes Claim (λ r. tt) count 0
  rows_laid Id count h = no_nodes Id (λ r. tt) count 0
  rows_laid Predicate count h = go (types_laid limit rs nd count 0 0) refl h
    where
      go : (H : Held ℕ) → types_laid limit rs nd count 0 0 ≡ H → verdict H ≡ Ok tt → RowsLaid Predicate count 0
      go (held m) i g = types_held count 0 0 m i
      go (lacks x) i g = never cc
  rows_laid Step count h = no_nodes Step (λ r. tt) count 0
  rows_laid Pair count h = no_nodes Pair (λ r. tt) count 0

module _ (limit : ℕ) (nd : List ℕ) where
  -- rows that have the same numbers
  laid_same : {xs rs : List ℕ} {p q : ℕ} (kind : RowKind) → Same (width_of kind) xs p rs q → RowLaid kind limit xs nd p → RowLaid kind limit rs nd q
  laid_same Claim s h = tt
  laid_same Id s h = tt
  laid_same Predicate s h = rw (s.each 4 (omega arith), s.each 5 (omega arith)) at h
  laid_same Step s h = tt
  laid_same Pair s h = tt

  all_laid_same : {xs rs : List ℕ} (kind : RowKind) (n p q : ℕ) → Same (n * width_of kind) xs p rs q → RowsLaid limit xs nd kind n p → RowsLaid limit rs nd kind n q
  all_laid_same kind zero p q s h = tt
  all_laid_same kind (suc n) p q s h =
      let w = width_of kind in
      (laid_same kind (row_same w n s) h.0, all_laid_same kind n (p + w) (q + w) (rows_same w n s) h.1)

  -- a row and those after it
  pub next_laid : (kind : RowKind) (rs x rest : List ℕ) (size : ℕ) → rs ≡ x ++ rest → length x ≡ size → size ≡ width_of kind
      → RowsLaid limit rs nd kind (row_count kind rs) 0 → RowLaid kind limit x nd 0 × RowsLaid limit rest nd kind (row_count kind rest) 0
  next_laid kind rs x rest size is long whole h =
      let n = row_count kind rest in
      let g : RowsLaid limit rs nd kind (suc n) 0 = rw (count_next kind rs x rest size is long whole) at h in (
        laid_same kind (head kind rs x rest size is long whole) g.0,
        all_laid_same kind n (0 + width_of kind) 0 (others kind rs x rest size is long whole (n * width_of kind)) g.1,
      )

  module _ (kind : RowKind) (rs x rest : List ℕ) (size : ℕ) (is : rs ≡ x ++ rest) (long : length x ≡ size) (whole : size ≡ width_of kind)
      (laid : RowsLaid limit rs nd kind (row_count kind rs) 0) where
    pub first_laid : RowLaid kind limit x nd 0
    first_laid = (next_laid kind rs x rest size is long whole laid).0

    pub others_laid : RowsLaid limit rest nd kind (row_count kind rest) 0
    others_laid = (next_laid kind rs x rest size is long whole laid).1

-- the nodes of the first of all rows
pub cut_nodes : {kind : RowKind} {rs : List ℕ} {count : ℕ} {part : List ℕ} → Cut kind rs count part → (limit : ℕ) (nd : List ℕ)
    → nodes_fine kind limit part nd (row_count kind part) ≡ nodes_fine kind limit rs nd count
unfolding nodes_fine
cut_nodes {kind = Claim} cut limit nd = refl
cut_nodes {kind = Id} cut limit nd = refl
cut_nodes {kind = Predicate} {count = count} cut limit nd = rw (cut_count cut) (ap verdict (types_same limit nd count 0 0 0 (cut_same cut)))
cut_nodes {kind = Step} cut limit nd = refl
cut_nodes {kind = Pair} cut limit nd = refl
