-- What the rows and nodes of types in lent memory show is what is said by the types that they hold.
use mathlib.Core.Bool.{true, ◌&&◌}
use mathlib.Core.Path.{◌≡◌, refl, sym, ◌∙◌, ap}
use mathlib.Core.List.{List, [], ◌∷◌}
use Prim.Native.Nat.{ℕ, zero, suc, ◌+◌, ◌*◌}
use native.Mathlib.Nat.{add-zero, zero-add}
use native.Mathlib.Omega.{arith}
use lib.Dec.{ltb, leb, eqb}
use lib.ListN.{length, get_or}
use borrow.Author.Tests.{eqb-true, leb-true}
use Rattle.varint.specs.Choice.{pick}
use Rattle.varint.specs.Gathering.{Held, held, lacks, then_held, name_held}
use Rattle.varint.proofs.Basics.{pick_both, pick_cases, test, both, never}
use Rattle.varint.proofs.FormatEnds.{total}
use Rattle.desc.specs.Encoding.{held_in}
use Rattle.desc.specs.Layout.{width, end_at}
use Rattle.desc.specs.Table.{cell, table}
use Rattle.desc.specs.Trees.{Tree, size}
use Rattle.desc.proofs.GatherFine.{HeldAs, then_held_lem}
use Rattle.protocol.specs.Fields.{narrow, bit, yes, Optional}
use Rattle.protocol.specs.RowsHeld.{held_times, all_good}
use Rattle.protocol.specs.Said.{said_types}
use Rattle.protocol.specs.Types.{Predicate, type_width, has_value, lay_value, type_numbers, node_after, type_laid, types_laid, held_predicate, held_types}
use Rattle.protocol.specs.declared.message.Message.TheVariants as Msg
use Rattle.protocol_laws.specs.Shown.{number, shown, type_columns, node_columns, row_shown, rows_shown, type_end, node_count}
use Rattle.protocol_laws.proofs.FineHeld.{times_held, value_in}
use Rattle.protocol_laws.proofs.ShownRows.{held_weaker, Showing, name_shown, flag_shown, rows_split, TreeShown, tree_shown}
use Rattle.protocol_laws.proofs.ShownSaid.{predicate_said, value_said, type_said, type_size, each, shown_said}

held_self : {A : Type 0} (x : Held A) → HeldAs (λ a. x ≡ held a) x
held_self (held a) = refl
held_self (lacks e) = tt

module _ (limit : ℕ) (tx rs nd : List ℕ) where
  -- The value at node n, if `has` says that there is one
  record ValueShown (has n : ℕ) (v : Optional (Tree (List ℕ))) : Type 0 where
    flag : has ≡ bit (has_value v)
    ends : pick (eqb has 0) n (cell nd n end_at) ≡ n + (lay_value v).size
    next : pick (yes has) (node_after (table limit nd n 0)) (held n) ≡ held (n + (lay_value v).size)
    nodes : rows_shown node_columns (lay_value v).size tx nd (n * width) ≡ value_said v n

  value_shown : (has n : ℕ) → leb has 1 ≡ true → HeldAs (ValueShown has n) (value_in limit tx nd has n)
  unfolding rows_shown
  value_shown zero n h = record { flag = refl; ends = sym (add-zero n); next = ap held (sym (add-zero n)); nodes = refl }
  value_shown (suc zero) n h =
      then_held_lem (TreeShown limit tx nd n) (ValueShown 1 n) (held_in (table limit nd n 0) tx) _ (tree_shown limit tx nd n)
      (λ v t. record { flag = refl; ends = t.ends; next = t.next; nodes = t.nodes })
  value_shown (suc (suc has)) n h = let k = leb-true (suc (suc has)) 1 h in absurd (omega arith)

  -- The type whose row starts at number r, its nodes from node k to node e
  record TypeShown (r : ℕ) (p : Predicate) (k e : ℕ) : Type 0 where
    row : row_shown type_columns tx rs r ≡ predicate_said p k
    next : e ≡ k + type_size p
    last : type_end rs nd r ≡ e
    nodes : rows_shown node_columns (type_size p) tx nd (k * width) ≡ type_said p k

  abbrev TypeLaid : ℕ → Predicate → Type 0
  TypeLaid r p = (k e : ℕ) → type_laid limit rs nd r k ≡ held e → TypeShown r p k e

  module _ (r : ℕ) (g : type_numbers rs r ≡ true) where
    abbrev at : ℕ → ℕ
    at c = get_or rs (r + c) 0

    flags : (leb (at 3) 1 ≡ true) × (leb (at 4) 1 ≡ true)
    unfolding type_numbers
    flags =
        let f = both (narrow (get_or rs r 0) && leb (at 3) 1) (leb (at 4) 1) g in
        ((both (narrow (get_or rs r 0)) (leb (at 3) 1) f.0).1, f.1)

    module _ (x : List ℕ) (key : Tree (List ℕ)) (v : Optional (Tree (List ℕ))) (a : Showing tx (at 1) (at 2) x) (b : TreeShown limit tx nd (at 5) key)
        (c : ValueShown (at 4) (cell nd (at 5) end_at) v)
      where
        abbrev said : Predicate
        said = record { id = get_or rs r 0; name = x; virtual = yes (at 3); key = key; value = v }

        type_row : row_shown type_columns tx rs r ≡ predicate_said said (at 5)
        unfolding row_shown
        type_row =
            let e₁ : r + 1 + 1 ≡ r + 2 = omega arith in
            let e₂ : r + 1 + 2 ≡ r + 3 = omega arith in
            let e₃ : r + 3 + 1 ≡ r + 4 = omega arith in
            let e₄ : r + 4 + 1 ≡ r + 5 = omega arith in
            rw (e₁, e₂, e₃, e₄, a, ← flag_shown (at 3) flags.0, c.flag)

        type_nodes : rows_shown node_columns (type_size said) tx nd (at 5 * width) ≡ type_said said (at 5)
        type_nodes =
            let w : at 5 * width + size key * width ≡ (at 5 + size key) * width = omega arith in
            rows_split node_columns (size key) (lay_value v).size tx nd (at 5 * width) ∙ rw (w, b.nodes, ← b.ends, c.nodes)

        type_shown : TypeLaid r said
        unfolding type_laid
        type_shown k e h =
            test (eqb (at 5) k)
            (λ i.
            let same = eqb-true (at 5) k i in
            let l : pick (yes (at 4)) (node_after (table limit nd (at 5 + size key) 0)) (held (at 5 + size key)) ≡ held e = rw (i, ← same, b.next) at h in
            let n : held (at 5 + size key + (lay_value v).size) ≡ held e = sym (rw b.ends at c.next) ∙ l in
            let n₁ : at 5 + size key + (lay_value v).size ≡ e = cc in
            let z : cell nd (at 5) end_at + (lay_value v).size ≡ e = rw b.ends n₁ in
            rw (← same)
            (record { row = type_row; next = omega arith; last = c.ends ∙ z; nodes = type_nodes }))
            (λ i. never (cc (rw i at h)))

    predicate_shown : HeldAs (TypeLaid r) (held_predicate limit tx rs nd r)
    unfolding held_predicate
    predicate_shown =
        then_held_lem (Showing tx (at 1) (at 2)) (TypeLaid r) (name_held tx (at 1) (at 2)) _ (name_shown tx (at 1) (at 2))
        (λ x a.
        then_held_lem (TreeShown limit tx nd (at 5)) (TypeLaid r) (held_in (table limit nd (at 5) 0) tx) _ (tree_shown limit tx nd (at 5))
        (λ key b.
        then_held_lem (ValueShown (at 4) (cell nd (at 5) end_at)) (TypeLaid r) (value_in limit tx nd (at 4) (cell nd (at 5) end_at)) _
        (value_shown (at 4) (cell nd (at 5) end_at) flags.1)
        (λ v c. type_shown x key v a b c)))

  -- So for n types from number r on, their nodes from node k to node e
  record TypesShown (n r : ℕ) (l : List Predicate) (k e : ℕ) : Type 0 where
    count : length l ≡ n
    rows : rows_shown type_columns n tx rs r ≡ each type_size predicate_said l k
    next : e ≡ k + total type_size l
    last : (i : ℕ) → n ≡ suc i → type_end rs nd (r + i * type_width) ≡ e
    nodes : rows_shown node_columns (total type_size l) tx nd (k * width) ≡ each type_size type_said l k

  abbrev TypesLaid : ℕ → ℕ → List Predicate → Type 0
  TypesLaid n r l = (k e : ℕ) → types_laid limit rs nd n r k ≡ held e → TypesShown n r l k e

  types_none : (r : ℕ) → TypesLaid 0 r []
  unfolding types_laid rows_shown each total
  types_none r k e h =
      let z : k ≡ e = cc in
      record { count = refl; rows = refl; next = sym z ∙ sym (add-zero k); last = λ i j. absurd (omega arith); nodes = refl }

  -- the last of them ends where all of them do
  last_end : (n r : ℕ) (p : Predicate) (l : List Predicate) (k m e : ℕ) → TypeShown r p k m → TypesShown n (r + type_width) l m e
      → types_laid limit rs nd n (r + type_width) m ≡ held e → (i : ℕ) → suc n ≡ suc i → type_end rs nd (r + i * type_width) ≡ e
  unfolding types_laid
  last_end zero r p l k m e a b h i j =
      let z : m ≡ e = cc in
      let s : r + i * type_width ≡ r = omega arith in
      rw (s, a.last, z)
  last_end (suc n) r p l k m e a b h i j =
      let s : r + i * type_width ≡ r + type_width + n * type_width = omega arith in
      rw s (b.last n refl)

  types_more : (n r : ℕ) (p : Predicate) (l : List Predicate) → TypeLaid r p → TypesLaid n (r + type_width) l → TypesLaid (suc n) r (p ∷ l)
  unfolding types_laid rows_shown each total
  types_more n r p l first rest k e h = on (type_laid limit rs nd r k) refl h
    where
      on : (x : Held ℕ) → type_laid limit rs nd r k ≡ x → then_held x (λ m. types_laid limit rs nd n (r + type_width) m) ≡ held e → TypesShown (suc n) r (p ∷ l) k e
      on (lacks y) i j = never cc
      on (held m) i j =
          let a = first k m i in
          let b = rest m e j in
          let a₁ = a.next in
          let b₁ = b.next in
          let w : k * width + type_size p * width ≡ m * width = omega arith in
          record {
            count = ap suc b.count;
            rows = rw (a.row, b.rows, a₁) refl;
            next = omega arith;
            last = last_end n r p l k m e a b j;
            nodes = rows_split node_columns (type_size p) (total type_size l) tx nd (k * width) ∙ rw (w, a.nodes, b.nodes, a₁) refl;
          }

  node_count_lem : (count : ℕ) (l : List Predicate) (e : ℕ) → types_laid limit rs nd count 0 0 ≡ held e → TypesShown count 0 l 0 e
      → node_count count rs nd ≡ total type_size l
  unfolding types_laid node_count
  node_count_lem zero l e h t = let z : 0 ≡ e = cc in let n = t.next in omega arith
  node_count_lem (suc count) l e h t =
      let n = t.next in
      let z : type_end rs nd (count * type_width) ≡ e = rw (zero-add (count * type_width)) at (t.last count refl) in
      z ∙ omega arith

  pub types_shown : (count : ℕ) → HeldAs (λ l. shown (Msg.Types count) tx rs nd ≡ shown_said (said_types l)) (held_types limit count tx rs nd)
  unfolding held_types shown shown_said
  types_shown count =
      let P : List Predicate → Type 0 = λ l. shown (Msg.Types count) tx rs nd ≡ shown_said (said_types l) in
      pick_both (HeldAs P) (ltb (length rs) (count * type_width)) tt
      (pick_cases (HeldAs P) (all_good (type_numbers rs) type_width count 0)
      (λ g.
      then_held_lem (λ e. types_laid limit rs nd count 0 0 ≡ held e) P (types_laid limit rs nd count 0 0) _ (held_self (types_laid limit rs nd count 0 0))
      (λ e h.
      held_weaker (TypesLaid count 0) P (held_times (held_predicate limit tx rs nd) type_width count 0)
      (times_held TypeLaid TypesLaid (held_predicate limit tx rs nd) type_width types_none types_more (type_numbers rs) predicate_shown count 0 g)
      (λ l t.
      let s = t 0 e h in
      let k = node_count_lem count l e h s in
      let d = ap (λ (c : ℕ). rows_shown node_columns c tx nd 0) k ∙ s.nodes in
      λ i. record { entry = 6; fields = number (sym s.count i) ∷ []; rows = s.rows i; nodes = d i })))
      (λ _. tt))
