-- Texts, rows and descriptors that were laid out in lent memory are taken out of it again, wherever they stand there.
use mathlib.Core.Bool.{Bool, true, false}
use mathlib.Core.Path.{◌≡◌, refl, sym, ◌∙◌, ap}
use mathlib.Core.List.{List, [], ◌∷◌, ◌++◌}
use Prim.Native.Nat.{ℕ, ◌+◌, ◌*◌, ◌≤◌}
use native.Mathlib.Nat.{add-zero}
use native.Mathlib.Omega.{arith}
use lib.Dec.{leb}
use lib.ListN.{length, length-append}
use borrow.Author.Tests.{le-ltb, eq-eqb}
use Rattle.protocol.proofs.PieceLaws.{rows_length}
use Rattle.varint.specs.Choice.{pick}
use Rattle.varint.specs.Gathering.{Held, held, name_held, text_held}
use Rattle.varint.specs.RoundTrips.{All, TextOk}
use Rattle.varint.specs.Stores.{part}
use Rattle.varint.specs.Utf8.{utf8}
use Rattle.varint.proofs.StoreLaws.{part_seam}
use Rattle.desc.specs.Encoding.{held_in}
use Rattle.desc.specs.Layout.{NameSpan, width, end_at, texts, placed, nodes_of}
use Rattle.desc.specs.Table.{cell, table, gather}
use Rattle.desc.specs.Trees.{Tree, leaf, branch, size}
use Rattle.desc.specs.WellFormed.{Fine}
use Rattle.desc.proofs.Tags.{root}
use Rattle.desc.proofs.GatherPlaced.{gather_placed, placed_fine}
use Rattle.desc.proofs.LayoutLaws.{size_placed, length_placed}
use Rattle.desc.proofs.TableRows.{table_rows}
use Rattle.protocol.specs.Fields.{narrow, bit, yes, Optional, absent, present}
use Rattle.protocol.specs.Ids.{id_width, lay_id, held_id}
use Rattle.protocol.specs.Page.{raw_held}
use Rattle.protocol.specs.Pieces.{Piece, words, cells, tree, ◌⊕◌, many}
use Rattle.protocol.specs.Profile.{step_width, lay_step, held_step}
use Rattle.protocol.specs.RowsHeld.{enough, held_times, all_good}
use Rattle.protocol.specs.Startup.{claim_width, lay_claim, held_claim}
use Rattle.protocol.specs.Types.{Predicate, type_width, has_value, lay_value, lay_predicate, type_numbers, node_after, type_laid, types_laid, held_predicate}
use Rattle.protocol.proofs.RowEnds.{predicate_nodes, predicate_rows}
use Rattle.protocol_laws.specs.Fine.{IfPresent}
use Rattle.protocol_laws.proofs.FineHeld.{value_in}
use Rattle.protocol_laws.proofs.Standing.{At, at_first, at_room, at_cell, at_head, In, in_first, in_rest}
use Rattle.std.specs.Prelude.{Ok}

-- Flags

yes_bit : (b : Bool) → yes (bit b) ≡ b
yes_bit true = refl
yes_bit false = refl

pub bit_small : (b : Bool) → leb (bit b) 1 ≡ true
bit_small true = refl
bit_small false = refl

-- Texts

module _ {x tx : List ℕ} {t : ℕ} (h : At x tx t) where
  there : part tx t (length x) ≡ x
  there = ap (λ (y : List ℕ). part y t (length x)) h.is ∙ rw (← h.place) (part_seam h.before x h.after)

  pub raw_held_lem : raw_held tx t (length x) ≡ held x
  unfolding raw_held
  raw_held_lem = rw (le-ltb (length tx) (t + length x) (at_room h), there)

  pub text_held_lem : utf8 x ≡ true → text_held tx t (length x) ≡ held x
  unfolding text_held
  text_held_lem u = rw (le-ltb (length tx) (t + length x) (at_room h), ap utf8 there ∙ u, there)

  pub name_held_lem : utf8 x ≡ true → name_held tx t (length x) ≡ held x
  unfolding name_held
  name_held_lem = text_held_lem

-- Rows

-- `row` takes out what `piece` laid out in so many numbers, if it is Ok
pub record Rowed {A : Type 0} (piece : A → Piece) (row : List ℕ → List ℕ → List ℕ → ℕ → Held A) (wide : ℕ) (Ok : A → Type 0) : Type 0 where
  pub cells : (a : A) (t n : ℕ) → length ((piece a).rows t n) ≡ wide
  pub nodes : (a : A) (t n : ℕ) → length ((piece a).nodes t n) ≡ (piece a).size * width
  pub again : (a : A) → Ok a → (tx rs nd : List ℕ) (t r n : ℕ) → In (piece a) tx rs nd t r n → row tx rs nd r ≡ held a

module _ {A : Type 0} {piece : A → Piece} {row : List ℕ → List ℕ → List ℕ → ℕ → Held A} {wide : ℕ} {Ok : A → Type 0} (R : Rowed piece row wide Ok) where
  module _ (tx rs nd : List ℕ) where
    -- the rows after the first
    later : (a : A) (l : List A) (t r n : ℕ) → In (many piece (a ∷ l)) tx rs nd t r n
        → In (many piece l) tx rs nd (t + length (piece a).text) (r + wide) (n + (piece a).size)
    unfolding many
    later a l t r n i = in_rest (piece a) (many piece l) i wide (R.cells a t n) (R.nodes a t n)

    -- so for rows one after the other
    pub rows_held : (l : List A) → All Ok l → (t r n : ℕ) → In (many piece l) tx rs nd t r n → held_times (row tx rs nd) wide (length l) r ≡ held l
    unfolding many held_times
    rows_held [] ok t r n i = refl
    rows_held (a ∷ l) ok t r n i =
        let first = R.again a ok.0 tx rs nd t r n (in_first (piece a) (many piece l) i) in
        let others = rows_held l ok.1 _ _ _ (later a l t r n i) in
        rw (first, others)

    -- what is tested of each row
    pub rows_good : (good : ℕ → Bool) → ((a : A) → Ok a → (t r n : ℕ) → In (piece a) tx rs nd t r n → good r ≡ true)
        → (l : List A) → All Ok l → (t r n : ℕ) → In (many piece l) tx rs nd t r n → all_good good wide (length l) r ≡ true
    unfolding many all_good
    rows_good good g [] ok t r n i = refl
    rows_good good g (a ∷ l) ok t r n i =
        let first = g a ok.0 t r n (in_first (piece a) (many piece l) i) in
        let others = rows_good good g l ok.1 _ _ _ (later a l t r n i) in
        rw (first, others)

  -- there are rows enough
  pub rows_enough : {B : Type 0} (l : List A) (t n : ℕ) (below : List ℕ) (h : Held B)
      → enough wide (length l) ((many piece l).rows t n ++ below) h ≡ h
  rows_enough l t n below h =
      let i = rows_length piece wide R.cells l t n in
      let j = length-append ((many piece l).rows t n) below in
      let room : length l * wide ≤ length ((many piece l).rows t n ++ below) = omega arith in
      rw (le-ltb (length ((many piece l).rows t n ++ below)) (length l * wide) room)

pub id_rowed : Rowed lay_id (λ tx rs nd r. held_id rs r) id_width (λ i. Unit)
id_rowed =
    record {
      cells = λ i t n. refl;
      nodes = λ i t n. refl;
      again = λ i ok tx rs nd t r n h. ap held (at_head h.rows);
    }

pub claim_rowed : Rowed lay_claim (λ tx rs nd. held_claim tx rs) claim_width (λ c. utf8 c.name ≡ true)
unfolding held_claim
claim_rowed =
    record {
      cells = λ c t n. refl;
      nodes = λ c t n. refl;
      again = λ c ok tx rs nd t r n h.
          rw (at_head h.rows, at_cell h.rows 1, at_cell h.rows 2, name_held_lem {x = c.name} h.text ok);
    }

pub step_rowed : Rowed lay_step (λ tx rs nd. held_step tx rs) step_width (λ m. utf8 m.label ≡ true)
unfolding held_step
step_rowed =
    record {
      cells = λ m t n. refl;
      nodes = λ m t n. refl;
      again = λ m ok tx rs nd t r n h.
          rw (at_head h.rows, at_cell h.rows 1, at_cell h.rows 2, at_cell h.rows 3, yes_bit m.full_scan, name_held_lem {x = m.label} h.text ok);
    }

-- Descriptors

-- a tree that is laid out from node n on ends where its root says
pub root_end : (st : Tree NameSpan) (n : ℕ) (name : NameSpan) (d : ℕ) {nd : List ℕ} → At (nodes_of st n name d) nd (n * width) → cell nd n end_at ≡ n + size st
unfolding nodes_of size
root_end (leaf tag p) n name d h = at_cell h 6
root_end (branch tag ks) n name d h = at_cell h 6 ∙ omega arith

module _ (limit : ℕ) (tr : Tree (List ℕ)) (f : Fine TextOk limit tr) {tx rs nd : List ℕ} {t r n : ℕ} (h : In (tree tr) tx rs nd t r n) where
  tree_read : table limit nd n 0 ≡ Ok (placed tr t, n + size tr)
  tree_read =
      let o = h.nodes in
      table_rows (λ _. Unit) limit 0 (placed tr t) nd o.before o.after n (0, 0) 0 (placed_fine TextOk limit tr t f) root o.is o.place
      ∙ ap (λ (k : ℕ). Ok (placed tr t, n + k)) (size_placed tr t)

  tree_held : held_in (table limit nd n 0) tx ≡ held tr
  unfolding held_in
  tree_held =
      let o = h.text in
      let g = gather_placed limit tr f o.before o.after in
      let e : gather tx (placed tr t) ≡ held tr =
      ap (λ (y : List ℕ). gather y (placed tr t)) o.is ∙ ap (λ (k : ℕ). gather (o.before ++ (texts tr ++ o.after)) (placed tr k)) (sym o.place) ∙ g in
      rw (tree_read, e)

  tree_end : cell nd n end_at ≡ n + size tr
  tree_end = root_end (placed tr t) n (0, 0) 0 h.nodes ∙ ap (λ (k : ℕ). n + k) (size_placed tr t)

-- Types

abbrev pub SoundPredicate : ℕ → Predicate → Type 0
SoundPredicate limit p =
    (narrow p.id ≡ true) × (utf8 p.name ≡ true) × Fine TextOk limit p.key × IfPresent (Fine TextOk limit) p.value

-- the value at node n, if there is one
value_held : (limit : ℕ) (v : Optional (Tree (List ℕ))) → IfPresent (Fine TextOk limit) v → (tx rs nd : List ℕ) (t r n : ℕ) → In (lay_value v) tx rs nd t r n
    → value_in limit tx nd (bit (has_value v)) n ≡ held v
value_held limit absent f tx rs nd t r n h = refl
value_held limit (present v) f tx rs nd t r n h = rw (tree_held limit v f h)

value_laid : (limit : ℕ) (v : Optional (Tree (List ℕ))) → IfPresent (Fine TextOk limit) v → (tx rs nd : List ℕ) (t r n : ℕ) → In (lay_value v) tx rs nd t r n
    → pick (yes (bit (has_value v))) (node_after (table limit nd n 0)) (held n) ≡ held (n + (lay_value v).size)
value_laid limit absent f tx rs nd t r n h = ap held (sym (add-zero n))
value_laid limit (present v) f tx rs nd t r n h = rw (tree_read limit v f h)

module _ (limit : ℕ) (p : Predicate) (ok : SoundPredicate limit p) (tx rs nd : List ℕ) (t r n : ℕ) (h : In (lay_predicate p) tx rs nd t r n) where
  abbrev parts : Piece
  parts = tree p.key ⊕ lay_value p.value

  abbrev row : List ℕ
  row = p.id ∷ t ∷ length p.name ∷ bit p.virtual ∷ bit (has_value p.value) ∷ n ∷ []

  row_there : At row rs r
  row_there = at_first row ((lay_value p.value).rows _ _) h.rows

  named : In (words p.name ⊕ parts) tx rs nd t (r + 6) n
  named =
      rw (add-zero t, add-zero n) at
      (in_rest (cells (λ t n. p.id ∷ t ∷ length p.name ∷ bit p.virtual ∷ bit (has_value p.value) ∷ n ∷ [])) (words p.name ⊕ parts) h 6 refl refl)

  name_there : At p.name tx t
  name_there = (in_first (words p.name) parts named).text

  shaped : In parts tx rs nd (t + length p.name) (r + 6) n
  shaped = rw (add-zero (r + 6), add-zero n) at (in_rest (words p.name) parts named 0 refl refl)

  key_there : In (tree p.key) tx rs nd (t + length p.name) (r + 6) n
  key_there = in_first (tree p.key) (lay_value p.value) shaped

  value_there : In (lay_value p.value) tx rs nd (t + length p.name + length (texts p.key)) (r + 6) (n + size p.key)
  value_there = rw (add-zero (r + 6)) at (in_rest (tree p.key) (lay_value p.value) shaped 0 refl (length_placed p.key (t + length p.name) n (0, 0) 0))

  predicate_held : held_predicate limit tx rs nd r ≡ held p
  unfolding held_predicate
  predicate_held =
      rw (
        at_head row_there,
        at_cell row_there 1,
        at_cell row_there 2,
        at_cell row_there 3,
        at_cell row_there 4,
        at_cell row_there 5,
        name_held_lem name_there ok.1,
        tree_held limit p.key ok.2 key_there,
        tree_end limit p.key ok.2 key_there,
        value_held limit p.value ok.3 tx rs nd _ _ _ value_there,
        yes_bit p.virtual,
      )

  predicate_laid : type_laid limit rs nd r n ≡ held (n + (lay_predicate p).size)
  unfolding type_laid
  predicate_laid =
      rw (
        at_cell row_there 4,
        at_cell row_there 5,
        eq-eqb n n refl,
        tree_read limit p.key ok.2 key_there,
        value_laid limit p.value ok.3 tx rs nd _ _ _ value_there,
      ) (ap held (omega arith))

  pub predicate_numbers : type_numbers rs r ≡ true
  unfolding type_numbers
  predicate_numbers = rw (at_head row_there, at_cell row_there 3, at_cell row_there 4, ok.0, bit_small p.virtual, bit_small (has_value p.value))

pub predicate_rowed : (limit : ℕ) → Rowed lay_predicate (held_predicate limit) type_width (SoundPredicate limit)
predicate_rowed limit =
    record {
      cells = predicate_rows;
      nodes = predicate_nodes;
      again = predicate_held limit;
    }

-- the nodes of types one behind the other
pub types_laid_lem : (limit : ℕ) (tx rs nd : List ℕ) (l : List Predicate) → All (SoundPredicate limit) l → (t r n : ℕ) → In (many lay_predicate l) tx rs nd t r n
    → types_laid limit rs nd (length l) r n ≡ held (n + (many lay_predicate l).size)
unfolding many types_laid
types_laid_lem limit tx rs nd [] ok t r n i = ap held (sym (add-zero n))
types_laid_lem limit tx rs nd (p ∷ l) ok t r n i =
    let first = predicate_laid limit p ok.0 tx rs nd t r n (in_first (lay_predicate p) (many lay_predicate l) i) in
    let others = types_laid_lem limit tx rs nd l ok.1 _ _ _ (later (predicate_rowed limit) tx rs nd p l t r n i) in
    rw (first, others) (ap held (omega arith))
