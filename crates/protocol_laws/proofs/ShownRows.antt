-- What lent memory shows is what is said by what it holds: texts, rows, and the nodes of descriptors.
use mathlib.Core.Path.{◌≡◌, refl, sym, ◌∙◌, ap}
use mathlib.Core.List.{List, [], ◌∷◌, ◌++◌, append_assoc}
use mathlib.Core.Logic.{inl}
use mathlib.Core.Bool.{true, false}
use Prim.Native.Nat.{ℕ, zero, suc, ◌+◌, ◌*◌, ◌≤◌}
use native.Mathlib.Nat.{add_assoc, suc-mul}
use native.Mathlib.Omega.{arith}
use lib.Dec.{ltb, leb}
use lib.ListN.{length, get_or}
use borrow.Author.Tests.{ltb-false, leb-true}
use Rattle.varint.specs.Got.{Got}
use Rattle.varint.specs.Gathering.{Held, held, lacks, text_held, name_held}
use Rattle.varint.specs.Stores.{part}
use Rattle.varint.specs.Utf8.{utf8}
use Rattle.varint.proofs.Basics.{pick_both, pick_cases}
use Rattle.varint.proofs.StoreLaws.{length_part}
use Rattle.desc.specs.Encoding.{held_in}
use Rattle.desc.specs.Layout.{NameSpan, width, end_at, node_of, nodes_of, kid_nodes}
use Rattle.desc.specs.Table.{cell, table, gather, gather_kids}
use Rattle.desc.specs.Trees.{Tree, leaf, branch, Kids, none, more, kid_count, size, kid_size}
use Rattle.desc.proofs.Tags.{Under, root, below}
use Rattle.desc.proofs.GatherFine.{HeldAs, then_held_lem}
use Rattle.desc.proofs.GotAs.{GotAs}
use Rattle.desc.proofs.LayoutLaws.{length_nodes}
use Rattle.desc.proofs.NodeFits.{name_at}
use Rattle.desc.proofs.TableSound.{Laid, table_laid}
use Rattle.protocol.specs.Fields.{bit, yes}
use Rattle.protocol.specs.Ids.{held_id}
use Rattle.protocol.specs.Page.{raw_held}
use Rattle.protocol.specs.Profile.{step_numbers, held_step}
use Rattle.protocol.specs.Startup.{held_claim}
use Rattle.protocol.specs.Types.{node_after}
use Rattle.protocol_laws.specs.Shown.{Entry, number, text, numbers, plain, words, text_in, Column, claim_columns, step_columns, id_columns, node_columns, across, row_shown, rows_shown}
use Rattle.protocol_laws.proofs.HeldRows.{root_end}
use Rattle.protocol_laws.proofs.ShownSaid.{numbers_append, text_said, tree_said, kids_said, id_said, claim_said, step_said, each, plainly}
use Rattle.protocol_laws.proofs.Standing.{At, at_first, at_rest, at_cell, at_head, at_stored}
use Rattle.std.specs.Prelude.{Ok, Err}

pub held_weaker : {A : Type 0} (P Q : A → Type 0) (x : Held A) → HeldAs P x → ((a : A) → P a → Q a) → HeldAs Q x
held_weaker P Q (held a) h k = k a h
held_weaker P Q (lacks e) h k = tt

-- Texts

part_shown : (tx : List ℕ) (start len : ℕ) → ltb (length tx) (start + len) ≡ false → text_in tx start len ≡ text_said (part tx start len)
part_shown tx start len e = ap (λ (k : ℕ). text k (part tx start len)) (sym (length_part tx start len (ltb-false (length tx) (start + len) e)))

module _ (tx : List ℕ) (start len : ℕ) where
  abbrev pub Showing : List ℕ → Type 0
  Showing x = text_in tx start len ≡ text_said x

  pub raw_shown : HeldAs Showing (raw_held tx start len)
  unfolding raw_held
  raw_shown = pick_cases (HeldAs Showing) (ltb (length tx) (start + len)) (λ _. tt) (part_shown tx start len)

  pub text_shown : HeldAs Showing (text_held tx start len)
  unfolding text_held
  text_shown =
      pick_cases (HeldAs Showing) (ltb (length tx) (start + len)) (λ _. tt)
      (λ e. pick_both (HeldAs Showing) (utf8 (part tx start len)) (part_shown tx start len e) tt)

  pub name_shown : HeldAs Showing (name_held tx start len)
  unfolding name_held
  name_shown = text_shown

-- a flag
pub flag_shown : (n : ℕ) → leb n 1 ≡ true → n ≡ bit (yes n)
flag_shown zero h = refl
flag_shown (suc zero) h = refl
flag_shown (suc (suc n)) h = let k = leb-true (suc (suc n)) 1 h in absurd (omega arith)

-- Rows

-- n rows from number r on show what is said by l
module _ {A : Type 0} (c : List Column) (show : A → ℕ → List Entry) (tx rs : List ℕ) where
  abbrev pub Showed : ℕ → ℕ → List A → Type 0
  Showed n r l = (length l ≡ n) × (rows_shown c n tx rs r ≡ plainly show l)

  pub showed_none : (r : ℕ) → Showed 0 r []
  unfolding rows_shown each
  showed_none r = (refl, refl)

  pub showed_more : (n r : ℕ) (a : A) (l : List A) → row_shown c tx rs r ≡ show a 0 → Showed n (r + across c) l → Showed (suc n) r (a ∷ l)
  unfolding rows_shown each
  showed_more n r a l x y = (ap suc y.0, rw (x, y.1))

module _ (tx rs : List ℕ) (r : ℕ) where
  pub id_shown : HeldAs (λ i. row_shown id_columns tx rs r ≡ id_said i 0) (held_id rs r)
  unfolding row_shown
  id_shown = refl

  pub claim_shown : HeldAs (λ c. row_shown claim_columns tx rs r ≡ claim_said c 0) (held_claim tx rs r)
  unfolding row_shown held_claim
  claim_shown =
      then_held_lem (Showing tx (get_or rs r 0) (get_or rs (r + 1) 0)) (λ c. row_shown claim_columns tx rs r ≡ claim_said c 0) (name_held tx (get_or rs r 0) (get_or rs (r + 1) 0)) _
      (name_shown tx (get_or rs r 0) (get_or rs (r + 1) 0)) (λ x e. rw e)

  pub step_shown : step_numbers rs r ≡ true → HeldAs (λ m. row_shown step_columns tx rs r ≡ step_said m 0) (held_step tx rs r)
  unfolding row_shown held_step
  step_shown g =
      let s : r + 2 + 1 ≡ r + 3 = omega arith in
      then_held_lem (Showing tx (get_or rs r 0) (get_or rs (r + 1) 0)) (λ m. row_shown step_columns tx rs r ≡ step_said m 0) (name_held tx (get_or rs r 0) (get_or rs (r + 1) 0)) _
      (name_shown tx (get_or rs r 0) (get_or rs (r + 1) 0)) (λ x e. rw (e, s, ← flag_shown (get_or rs (r + 3) 0) g))

-- more rows one after the other
pub rows_split : (c : List Column) (a b : ℕ) (tx l : List ℕ) (r : ℕ)
    → rows_shown c (a + b) tx l r ≡ rows_shown c a tx l r ++ rows_shown c b tx l (r + a * across c)
unfolding rows_shown
rows_split c zero b tx l r = let e : zero + b ≡ b = omega arith in let f : r + zero * across c ≡ r = omega arith in rw (e, f)
rows_split c (suc a) b tx l r =
    let e : suc a + b ≡ suc (a + b) = omega arith in
    let f : r + across c + a * across c ≡ r + suc a * across c = rw suc-mul (omega arith) in
    ap (λ (k : ℕ). rows_shown c k tx l r) e ∙ rw (rows_split c a b tx l (r + across c), f) (sym (append_assoc (row_shown c tx l r) _ _))

-- so many rows need so many times their width
row_numbers : (c : List Column) (tx l : List ℕ) (r : ℕ) → numbers (row_shown c tx l r) ≡ across c
unfolding row_shown numbers
row_numbers [] tx l r = refl
row_numbers (plain ∷ c) tx l r = ap suc (row_numbers c tx l (r + 1))
row_numbers (words ∷ c) tx l r = ap (λ (k : ℕ). suc (suc k)) (row_numbers c tx l (r + 2))

pub rows_numbers : (c : List Column) (count : ℕ) (tx l : List ℕ) (r : ℕ) → numbers (rows_shown c count tx l r) ≡ count * across c
unfolding rows_shown numbers
rows_numbers c zero tx l r = omega arith
rows_numbers c (suc count) tx l r =
    let i = row_numbers c tx l r in
    let j = rows_numbers c count tx l (r + across c) in
    rw (numbers_append, suc-mul) (omega arith)

-- Nodes

node_shown : (tx : List ℕ) {nd : List ℕ} {at : ℕ} (tag start len d p count end : ℕ) → At (node_of tag start len d p count end) nd at
    → row_shown node_columns tx nd at ≡ number tag ∷ text_in tx start len ∷ number d ∷ number p ∷ number count ∷ number end ∷ []
unfolding row_shown
node_shown tx {nd} {at} tag start len d p count end h =
    simp add_assoc (rw (at_head h, at_cell h 1, at_cell h 2, at_cell h 3, at_cell h 4, at_cell h 5, at_cell h 6) refl)

-- a tree of so many nodes that shows this
abbrev TreeShowing : List ℕ → List ℕ → ℕ → Tree NameSpan → List ℕ → ℕ → Tree (List ℕ) → Type 0
TreeShowing tx nd n st x d tr = (size tr ≡ size st) × (rows_shown node_columns (size st) tx nd (n * width) ≡ tree_said tr n x d)

abbrev KidsShowing : List ℕ → List ℕ → ℕ → Kids NameSpan → Kids (List ℕ) → Type 0
KidsShowing tx nd m ks l =
    (kid_count l ≡ kid_count ks) × (kid_size l ≡ kid_size ks) × (rows_shown node_columns (kid_size ks) tx nd (m * width) ≡ kids_said l m)

mutual
  unfolding nodes_of size kid_count gather rows_shown tree_said

  tree_rows_shown : (st : Tree NameSpan) (tx nd : List ℕ) (n : ℕ) (name : NameSpan) (d : ℕ) (x : List ℕ) → text_in tx name.0 name.1 ≡ text_said x
      → At (nodes_of st n name d) nd (n * width) → HeldAs (TreeShowing tx nd n st x d) (gather tx st)
  tree_rows_shown (leaf tag p) tx nd n name d x e h =
      (refl, rw (node_shown tx tag name.0 name.1 d p 0 (n + 1) h, e))
  tree_rows_shown (branch tag ks) tx nd n name d x e h =
      let R : List ℕ = node_of tag name.0 name.1 d 0 (kid_count ks) (n + 1 + kid_size ks) in
      let K : List ℕ = kid_nodes ks (n + 1) in
      let w : n * width + 7 ≡ (n + 1) * width = omega arith in
      let h₁ : At K nd ((n + 1) * width) = rw w at (at_rest R K h) in
      let r = node_shown tx tag name.0 name.1 d 0 (kid_count ks) (n + 1 + kid_size ks) (at_first R K h) in
      then_held_lem (KidsShowing tx nd (n + 1) ks) (TreeShowing tx nd n (branch tag ks) x d) (gather_kids tx ks) _ (kids_rows_shown ks tx nd (n + 1) h₁)
      (λ l s. (ap suc s.1, rw (r, e, w, s.2, s.0, s.1)))

  kids_rows_shown : (ks : Kids NameSpan) (tx nd : List ℕ) (m : ℕ) → At (kid_nodes ks m) nd (m * width) → HeldAs (KidsShowing tx nd m ks) (gather_kids tx ks)
  kids_rows_shown none tx nd m h = (refl, refl, refl)
  kids_rows_shown (more name d st ks) tx nd m h =
      let R : List ℕ = nodes_of st m name d in
      let K : List ℕ = kid_nodes ks (m + size st) in
      let Q : Kids (List ℕ) → Type 0 = KidsShowing tx nd m (more name d st ks) in
      let w : m * width + length R ≡ (m + size st) * width = omega (arith, length_nodes st m name d) in
      let w₁ : m * width + size st * width ≡ (m + size st) * width = omega arith in
      let h₁ : At K nd ((m + size st) * width) = rw w at (at_rest R K h) in
      then_held_lem (Showing tx name.0 name.1) Q (name_held tx name.0 name.1) _ (name_shown tx name.0 name.1)
      (λ x e.
      then_held_lem (TreeShowing tx nd m st x d) Q (gather tx st) _ (tree_rows_shown st tx nd m name d x e (at_first R K h))
      (λ tr a.
      then_held_lem (KidsShowing tx nd (m + size st) ks) Q (gather_kids tx ks) _ (kids_rows_shown ks tx nd (m + size st) h₁)
      (λ l b. (ap suc b.0, rw (a.0, b.1), rows_split node_columns (size st) (kid_size ks) tx nd (m * width) ∙ rw (w₁, a.1, b.2, a.0)))))

-- a root has no name
root_name_lem : {name : NameSpan} {d : ℕ} → Under 0 name d → (name ≡ (0, 0)) × (d ≡ 0)
root_name_lem root = (refl, refl)
root_name_lem (below b) = elim b [ ]

-- The descriptor at node n, taken out of the memory: where its root says that it ends, what is tested of it, and what its nodes show.
pub record TreeShown (limit : ℕ) (tx nd : List ℕ) (n : ℕ) (tr : Tree (List ℕ)) : Type 0 where
  pub ends : cell nd n end_at ≡ n + size tr
  pub next : node_after (table limit nd n 0) ≡ held (n + size tr)
  pub nodes : rows_shown node_columns (size tr) tx nd (n * width) ≡ tree_said tr n [] 0

pub tree_shown : (limit : ℕ) (tx nd : List ℕ) (n : ℕ) → HeldAs (TreeShown limit tx nd n) (held_in (table limit nd n 0) tx)
unfolding held_in part
tree_shown limit tx nd n = go (table limit nd n 0) refl (table_laid limit nd n 0)
  where
    go : (g : Got (Tree NameSpan)) → table limit nd n 0 ≡ g → GotAs (Laid limit 0 nd n) g → HeldAs (TreeShown limit tx nd n) (held_in g tx)
    go (Err e) i o = tt
    go (Ok (st, m)) i o =
        let u = root_name_lem (o.under (inl refl)) in
        let name : NameSpan = name_at nd n in
        let R : List ℕ = nodes_of st n name (cell nd n 3) in
        let k = o.next in
        let l = o.inside in
        let room : n * width + length R ≤ length nd = omega (arith, length_nodes st n name (cell nd n 3)) in
        let h : At R nd (n * width) = at_stored R nd (n * width) room o.there in
        let e : text_in tx name.0 name.1 ≡ text_said [] = rw (ap (λ (s : NameSpan). s.0) u.0, ap (λ (s : NameSpan). s.1) u.0) refl in
        let d = root_end st n name (cell nd n 3) h in
        held_weaker (TreeShowing tx nd n st [] (cell nd n 3)) (TreeShown limit tx nd n) (gather tx st) (tree_rows_shown st tx nd n name (cell nd n 3) [] e h)
        (λ tr s. record { ends = d ∙ rw s.0 refl; next = rw (i, k, s.0) refl; nodes = rw s.0 (s.1 ∙ rw u.1 refl) })
