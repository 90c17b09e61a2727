-- What lent memory holds can be written: a tree that was gathered from a fine one of places is fine.
use mathlib.Core.Path.{◌≡◌, refl, ap}
use mathlib.Core.List.{List}
use Prim.Native.Nat.{ℕ, zero, suc, ◌+◌, ◌^◌, ◌<◌}
use native.Mathlib.Omega.{arith}
use lib.Dec.{ltb}
use lib.ListN.{length}
use borrow.Author.Tests.{ltb-false}
use Rattle.varint.specs.Got.{Got}
use Rattle.varint.specs.Gathering.{Held, held, lacks, then_held, text_held, name_held}
use Rattle.varint.specs.RoundTrips.{TextOk}
use Rattle.varint.specs.Stores.{part}
use Rattle.varint.specs.Utf8.{utf8}
use Rattle.varint.proofs.Basics.{pick_cases}
use Rattle.varint.proofs.StoreLaws.{length_part}
use Rattle.desc.specs.Encoding.{held_in}
use Rattle.desc.specs.Layout.{NameSpan}
use Rattle.desc.specs.Table.{table, gather, gather_kids}
use Rattle.desc.specs.Trees.{Tree, leaf, branch, Kids, none, more, kid_count}
use Rattle.desc.specs.WellFormed.{Fine, FineKids}
use Rattle.desc.proofs.GotAs.{GotAs}
use Rattle.desc.proofs.TableSound.{Laid, table_laid}
use Rattle.std.specs.Prelude.{Ok, Err}

-- P holds of what is held
abbrev pub HeldAs : {A : Type 0} → (A → Type 0) → Held A → Type 0
HeldAs P (held a) = P a
HeldAs P (lacks e) = Unit

-- with what is held, go on
pub then_held_lem : {A B : Type 0} (P : A → Type 0) (Q : B → Type 0) (x : Held A) (k : A → Held B) → HeldAs P x → ((a : A) → P a → HeldAs Q (k a))
    → HeldAs Q (then_held x k)
then_held_lem P Q (held a) k h g = g a h
then_held_lem P Q (lacks e) k h g = tt

pub name_held_lem : (tx : List ℕ) (start len : ℕ) → length tx < 2 ^ 64 → HeldAs TextOk (name_held tx start len)
unfolding name_held text_held
name_held_lem tx start len h =
    pick_cases (HeldAs TextOk) (ltb (length tx) (start + len)) (λ _. tt)
    (λ e.
    let room = ltb-false (length tx) (start + len) e in
    pick_cases (HeldAs TextOk) (utf8 (part tx start len)) (λ u. (rw (length_part tx start len room) (omega arith), u)) (λ _. tt))

abbrev Parts : ℕ → ℕ → ℕ → Kids (List ℕ) → Type 0
Parts tag depth n ks = (kid_count ks ≡ n) × FineKids TextOk tag depth ks

mutual
  unfolding gather Fine kid_count

  gather_fine : (st : Tree NameSpan) (Good : NameSpan → Type 0) (depth : ℕ) (tx : List ℕ) → length tx < 2 ^ 64 → Fine Good depth st
      → HeldAs (Fine TextOk depth) (gather tx st)
  gather_fine (leaf tag p) Good zero tx h f = absurd f
  gather_fine (leaf tag p) Good (suc depth) tx h f = f
  gather_fine (branch tag ks) Good zero tx h f = absurd f
  gather_fine (branch tag ks) Good (suc depth) tx h f =
      then_held_lem (Parts tag depth (kid_count ks)) (Fine TextOk (suc depth)) (gather_kids tx ks) (λ l. held (branch tag l))
      (gather_kids_lem ks Good tag depth tx h f.2) (λ l g. (f.0, rw g.0 f.1, g.1))

  gather_kids_lem : (ks : Kids NameSpan) (Good : NameSpan → Type 0) (tag depth : ℕ) (tx : List ℕ) → length tx < 2 ^ 64 → FineKids Good tag depth ks
      → HeldAs (Parts tag depth (kid_count ks)) (gather_kids tx ks)
  gather_kids_lem none Good tag depth tx h f = (refl, tt)
  gather_kids_lem (more name d st ks) Good tag depth tx h f =
      let Q : Kids (List ℕ) → Type 0 = Parts tag depth (suc (kid_count ks)) in
      let t = gather_fine st Good depth tx h f.2 in
      let o = gather_kids_lem ks Good tag depth tx h f.3 in
      then_held_lem TextOk Q (name_held tx name.0 name.1) _ (name_held_lem tx name.0 name.1 h)
      (λ x a.
      then_held_lem (Fine TextOk depth) Q (gather tx st) _ t
      (λ u b. then_held_lem (Parts tag depth (kid_count ks)) Q (gather_kids tx ks) _ o (λ l c. (ap suc c.0, (a, f.1, b, c.1)))))

-- the tree that the memory holds from node n on is fine
pub tree_held : (limit : ℕ) (tx nd : List ℕ) (n : ℕ) → length tx < 2 ^ 64 → length nd < 2 ^ 64
    → HeldAs (Fine TextOk limit) (held_in (table limit nd n 0) tx)
unfolding held_in
tree_held limit tx nd n h k = go (table limit nd n 0) (table_laid limit nd n 0)
  where
    go : (x : Got (Tree NameSpan)) → GotAs (Laid limit 0 nd n) x → HeldAs (Fine TextOk limit) (held_in x tx)
    go (Ok (st, m)) l = gather_fine st (λ _. Unit) limit tx h (l.fine k)
    go (Err i) l = tt

pub held_fine : (limit : ℕ) (tx nd : List ℕ) (tr : Tree (List ℕ)) → length tx < 2 ^ 64 → length nd < 2 ^ 64
    → held_in (table limit nd 0 0) tx ≡ held tr → Fine TextOk limit tr
held_fine limit tx nd tr h k e = rw e at (tree_held limit tx nd 0 h k)
