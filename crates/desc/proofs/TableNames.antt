-- The names of a table's nodes in the order of the nodes are the tree's names in reading order.
use mathlib.Core.Path.{◌≡◌, refl, ◌∙◌}
use mathlib.Core.List.{List}
use Prim.Native.Nat.{ℕ, zero, suc, ◌+◌, ◌-◌, ◌≤◌, ◌<◌}
use native.Mathlib.Nat.{zero-add}
use native.Mathlib.Omega.{arith}
use lib.Dec.{eqb}
use Rattle.varint.specs.Got.{Got, then}
use Rattle.varint.specs.Gathering.{Held, held, lacks, then_held, name_held}
use Rattle.varint.specs.declared.error.Fault.TheVariants.{Layout}
use Rattle.varint.specs.declared.error.Refusal.{Refusal}
use Rattle.varint.specs.declared.error.Refusal.TheVariants.{BadMessage}
use Rattle.varint.proofs.Basics.{pick_both}
use Rattle.desc.specs.Emitting.{verdict, then_names, names_from}
use Rattle.desc.specs.Layout.{NameSpan}
use Rattle.desc.specs.Table.{cell, node_fits, is_branch, kids_at, closed_at, table, gather, gather_kids}
use Rattle.desc.specs.Trees.{Tree, leaf, branch, Kids, none, more, size, kid_size}
use Rattle.std.specs.Prelude.{Ok, Err, Result}

-- The loop over the nodes

module _ (tx nd : List ℕ) (m end start len : ℕ) (r : Result (Unit {0}) Refusal) (first : start ≡ cell nd m 1) (long : len ≡ cell nd m 2)
    (is : r ≡ verdict (name_held tx start len)) (less : m < end) where
  at_node : names_from tx nd m (end - m) ≡ then_names r (names_from tx nd (m + 1) (end - (m + 1)))
  unfolding names_from
  at_node = let e : end - m ≡ suc (end - (m + 1)) = omega arith in rw (e, is, first, long)

  pub names_good : r ≡ Ok tt → names_from tx nd m (end - m) ≡ names_from tx nd (m + 1) (end - (m + 1))
  unfolding then_names
  names_good g = at_node ∙ rw g

  pub names_refused : (e : Refusal) → r ≡ Err e → names_from tx nd m (end - m) ≡ Err e
  unfolding then_names
  names_refused e g = at_node ∙ rw g

pub names_end : (tx nd : List ℕ) (m end : ℕ) → end ≤ m → names_from tx nd m (end - m) ≡ Ok tt
unfolding names_from
names_end tx nd m end h = let e : end - m ≡ 0 = omega arith in rw e

-- The tree

-- how many nodes stand below a node
abbrev under : Tree NameSpan → ℕ
under (leaf tag p) = 0
under (branch tag ks) = kid_size ks

size_under : (t : Tree NameSpan) → size t ≡ suc (under t)
unfolding size
size_under (leaf tag p) = refl
size_under (branch tag ks) = refl

then_good : (v : Result (Unit {0}) Refusal) → then_names v (Ok tt) ≡ v
unfolding then_names
then_good (Ok tt) = refl
then_good (Err e) = refl

verdict_kids : (tag : ℕ) (c : Held (Kids (List ℕ))) → verdict (then_held c (λ l. held (branch tag l))) ≡ verdict c
unfolding verdict
verdict_kids tag (held l) = refl
verdict_kids tag (lacks e) = refl

verdict_more : (a : Held (List ℕ)) (b : Held (Tree (List ℕ))) (c : Held (Kids (List ℕ))) (d : ℕ) (z : Result (Unit {0}) Refusal)
    → then_names (verdict a) (then_names (verdict b) (then_names (verdict c) z))
    ≡ then_names (verdict (then_held a (λ x. then_held b (λ u. then_held c (λ l. held (more x d u l)))))) z
unfolding verdict then_names
verdict_more (held x) (held u) (held l) d z = refl
verdict_more (held x) (held u) (lacks e) d z = refl
verdict_more (held x) (lacks e) c d z = refl
verdict_more (lacks e) b c d z = refl

module _ (tx nd : List ℕ) where
  -- A tree whose root is node n: where it ends; and its names and those of the k nodes after it are names in a row.
  abbrev TreeNames : ℕ → Got (Tree NameSpan) → Type 0
  TreeNames n (Ok (t, e)) =
      (e ≡ n + size t) × ((k : ℕ) → names_from tx nd (n + 1) (under t + k) ≡ then_names (verdict (gather tx t)) (names_from tx nd e k))
  TreeNames n (Err x) = x ≡ BadMessage Layout

  abbrev KidNames : ℕ → Got (Kids NameSpan) → Type 0
  KidNames m (Ok (ks, e)) =
      (e ≡ m + kid_size ks) × ((k : ℕ) → names_from tx nd m (kid_size ks + k) ≡ then_names (verdict (gather_kids tx ks)) (names_from tx nd e k))
  KidNames m (Err x) = x ≡ BadMessage Layout

  no_kids : (m : ℕ) → KidNames m (Ok (none, m))
  unfolding kid_size gather_kids verdict then_names
  no_kids m = (omega arith, λ k. rw zero-add)

  one_kid : (m e f : ℕ) (t : Tree NameSpan) (ks : Kids NameSpan) → TreeNames m (Ok (t, e)) → KidNames e (Ok (ks, f))
      → KidNames m (Ok ((more (cell nd m 1, cell nd m 2) (cell nd m 3) t ks), f))
  unfolding kid_size gather_kids names_from
  one_kid m e f t ks p q =
      let u = size_under t in
      let p₀ = p.0 in
      let q₀ = q.0 in (
        omega arith,
        λ k.
            let g : size t + kid_size ks + k ≡ suc (under t + (kid_size ks + k)) = omega arith in
            rw (g, p.1 (kid_size ks + k), q.1 k)
            (verdict_more (name_held tx (cell nd m 1) (cell nd m 2)) (gather tx t) (gather_kids tx ks) (cell nd m 3) (names_from tx nd f k)),
      )

  module _ (r : ℕ → ℕ → Got (Tree NameSpan)) (h : (n parent : ℕ) → TreeNames n (r n parent)) where
    kids_then : (tag m k : ℕ) → ((e : ℕ) → KidNames e (kids_at r nd tag k e)) → (D : Got (Tree NameSpan)) → TreeNames m D
        → KidNames m (then D (λ t e. then (kids_at r nd tag k e) (λ ks f. Ok ((more (cell nd m 1, cell nd m 2) (cell nd m 3) t ks), f))))
    kids_then tag m k rest (Err x) p = p
    kids_then tag m k rest (Ok (t, e)) p = go (kids_at r nd tag k e) (rest e)
      where
        go : (K : Got (Kids NameSpan)) → KidNames e K → KidNames m (then K (λ ks f. Ok ((more (cell nd m 1, cell nd m 2) (cell nd m 3) t ks), f)))
        go (Err x) q = q
        go (Ok (ks, f)) q = one_kid m e f t ks p q

    kid_names : (tag k m : ℕ) → KidNames m (kids_at r nd tag k m)
    unfolding kids_at
    kid_names tag zero m = no_kids m
    kid_names tag (suc k) m = kids_then tag m k (kid_names tag k) (r m tag) (h m tag)

  closed_names : (n tag end : ℕ) (K : Got (Kids NameSpan)) → KidNames (n + 1) K → TreeNames n (closed_at tag end K)
  unfolding size gather
  closed_names n tag end (Err x) q = q
  closed_names n tag end (Ok (ks, m)) q =
      let q₀ = q.0 in
      pick_both (TreeNames n) (eqb end m) (omega arith, λ k. rw (verdict_kids tag (gather_kids tx ks)) (q.1 k)) refl

  leaf_names : (n tag p : ℕ) → TreeNames n (Ok (leaf tag p, n + 1))
  unfolding size gather verdict then_names
  leaf_names n tag p = (refl, λ k. rw zero-add)

  table_names : (d n parent : ℕ) → TreeNames n (table d nd n parent)
  unfolding table
  table_names zero n parent = refl
  table_names (suc d) n parent =
      pick_both (TreeNames n) (node_fits nd n parent)
      (pick_both (TreeNames n) (is_branch nd n)
      (closed_names n (cell nd n 0) (cell nd n 6) (kids_at (table d nd) nd (cell nd n 0) (cell nd n 5) (n + 1))
      (kid_names (table d nd) (table_names d) (cell nd n 0) (cell nd n 5) (n + 1)))
      (leaf_names n (cell nd n 0) (cell nd n 4)))
      refl

  -- the only refusal of a table
  pub table_bad : (d n parent : ℕ) (x : Refusal) → table d nd n parent ≡ Err x → x ≡ BadMessage Layout
  table_bad d n parent x h = rw h at (table_names d n parent)

  pub table_verdict : (d n parent e : ℕ) (t : Tree NameSpan) → table d nd n parent ≡ Ok (t, e) → names_from tx nd (n + 1) (e - (n + 1)) ≡ verdict (gather tx t)
  unfolding names_from
  table_verdict d n parent e t h =
      let p : TreeNames n (Ok (t, e)) = rw h at (table_names d n parent) in
      let u = size_under t in
      let p₀ = p.0 in
      let g : e - (n + 1) ≡ under t + 0 = omega arith in
      rw g (p.1 0 ∙ then_good (verdict (gather tx t)))
