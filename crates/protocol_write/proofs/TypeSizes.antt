-- How far the writers of types move on, and what the test of a type tells of it.
use mathlib.Core.Bool.{Bool, true, false}
use mathlib.Core.Path.{◌≡◌, refl, sym, ap, ◌∙◌}
use mathlib.Core.List.{List, ◌++◌}
use Prim.Native.Nat.{ℕ, zero, suc, ◌+◌, ◌*◌, ◌≤◌, ◌<◌}
use native.Mathlib.Omega.{arith}
use Rattle.varint.specs.Choice.{pick}
use lib.ListN.{length, get_or}
use borrow.Author.Tests.{eq-eqb, ne_eqb}
use Rattle.varint.specs.Gathering.{Held, held, lacks, then_held}
use Rattle.varint.specs.Got.{Got}
use Rattle.varint.specs.Leb128.{put_u64}
use Rattle.varint.specs.Outs.{declared}
use Rattle.varint.proofs.Basics.{never}
use Rattle.desc.specs.Emitting.{Pen, verdict, then_names, put_bytes, put_number, sized, emitted_to}
use Rattle.desc.specs.Inner.Emission.{put_at}
use Rattle.desc.specs.Layout.{NameSpan, end_at}
use Rattle.desc.specs.Table.{cell, table}
use Rattle.desc.specs.Trees.{Tree}
use Rattle.desc.specs.declared.write.Emitted.{Emitted}
use Rattle.desc.proofs.EmitPrint.{last}
use Rattle.desc.proofs.EmitSize.{Moved, on, add, number_moved, name_moved, tree_moved}
use Rattle.desc.proofs.Emitteds.{emitted_of}
use Rattle.protocol.specs.Fields.{yes}
use Rattle.protocol.specs.Types.{node_after, type_laid, types_laid}
use Rattle.protocol.specs.declared.message.RowKind.TheVariants.{Predicate}
use Rattle.protocol_write.specs.Inner.Checking.{row_count, value_root, tree_size, value_size, fields_size, type_size, types_size, sized_as, size_if, nodes_fine, Cut, there, numbers_told, rows_names, rows_fine}
use Rattle.protocol_write.specs.Inner.Writing.{put_byte, put_flag, put_text, put_value, put_type, put_row, put_rows}
use Rattle.protocol_write.proofs.NodeChecks.{table_end, Ends, laid_end}
use Rattle.protocol_write.proofs.RowLoops.{head, others, count_next, none_left, cut_numbers, cut_names, cut_put}
use Rattle.protocol_write.proofs.RowsLaid.{cut_nodes}
use Rattle.protocol_write.proofs.RowsSame.{size_same, sizes_same}
use Rattle.varint.specs.declared.error.Refusal.{Refusal}
use Rattle.std.specs.Prelude.{Result, Ok, Err, Some, None, Option}

-- The place after the types

module _ (limit : ℕ) (tx rs nd : List ℕ) (p : ℕ) where
  flag_moved : (b : Bool) (n : ℕ) (s : Pen) → Moved p n s → Moved p (n + 1) (put_flag b s)
  unfolding put_flag put_byte put_bytes
  flag_moved b n s h = on p n 1 s (put_flag b s) h refl

  text_moved : (start len n : ℕ) (s : Pen) → Moved p n s → Moved p (n + length (put_u64 len) + len) (put_text tx start len s)
  unfolding put_text
  text_moved start len n s h = name_moved p tx (start, len) (n + length (put_u64 len)) (put_number len s) (number_moved p len n s h)

  at_moved : (D : Got (Tree NameSpan)) (n : ℕ) (s : Pen) → Moved p n s → Moved p (n + tree_size D) (put_at tx D s)
  unfolding put_at tree_size
  at_moved (Ok (t, e)) n s h = tree_moved p tx t n s h
  at_moved (Err e) n s h = add p n (n + 0) s h (omega arith)

  value_moved : (root : Option ℕ) (n : ℕ) (s : Pen) → Moved p n s → Moved p (n + 1 + value_size limit nd root) (put_value limit tx nd root s)
  unfolding put_value value_size
  value_moved None n s h = add p (n + 1) (n + 1 + 0) (put_flag false s) (flag_moved false n s h) (omega arith)
  value_moved (Some k) n s h = at_moved (table limit nd k 0) (n + 1) (put_flag true s) (flag_moved true n s h)

  type_moved : (r n : ℕ) (s : Pen) → Moved p n s → Moved p (n + type_size limit rs nd r) (put_row Predicate limit tx rs nd r s)
  unfolding put_row put_type type_size fields_size
  type_moved r n s h =
      let id = get_or rs r 0 in
      let start = get_or rs (r + 1) 0 in
      let len = get_or rs (r + 2) 0 in
      let D = table limit nd (get_or rs (r + 5) 0) 0 in
      let root = value_root nd (get_or rs (r + 4) 0) (get_or rs (r + 5) 0) in
      let I = length (put_u64 id) in
      let L = length (put_u64 len) in
      let T = tree_size D in
      let V = value_size limit nd root in
      let s₁ = put_number id s in
      let s₂ = put_text tx start len s₁ in
      let s₃ = put_flag (yes (get_or rs (r + 3) 0)) s₂ in
      let s₄ = put_at tx D s₃ in
      let h₂ = text_moved start len (n + I) s₁ (number_moved p id n s h) in
      let h₃ = flag_moved (yes (get_or rs (r + 3) 0)) (n + I + L + len) s₂ h₂ in
      let h₄ = at_moved D (n + I + L + len + 1) s₃ h₃ in
      add p (n + I + L + len + 1 + T + 1 + V) (n + (I + (L + (len + 2)) + (T + V))) (put_value limit tx nd root s₄)
      (value_moved root (n + I + L + len + 1 + T) s₄ h₄)
      (omega arith)

  types_moved : (k r n : ℕ) (s : Pen) → Moved p n s → Moved p (n + types_size limit rs nd k r) (put_rows Predicate limit tx rs nd k r s)
  unfolding put_rows types_size
  types_moved zero r n s h = add p n (n + 0) s h (omega arith)
  types_moved (suc k) r n s h =
      let s₁ = put_row Predicate limit tx rs nd r s in
      let T = type_size limit rs nd r in
      let R = types_size limit rs nd k (r + 6) in
      add p (n + T + R) (n + (T + R)) (put_rows Predicate limit tx rs nd k (r + 6) s₁) (types_moved k (r + 6) (n + T) s₁ (type_moved r n s h)) (omega arith)

pub types_place : (limit : ℕ) (tx rs nd : List ℕ) (k r : ℕ) (s : Pen) → s.place ≤ last
    → (put_rows Predicate limit tx rs nd k r s).place ≡ declared (s.place + types_size limit rs nd k r)
unfolding Moved
types_place limit tx rs nd k r s h =
    let e : s.place + (0 + types_size limit rs nd k r) ≡ s.place + types_size limit rs nd k r = omega arith in
    types_moved limit tx rs nd s.place k r 0 s (omega arith) ∙ ap declared e

-- A descriptor whose size was told

record Known (limit : ℕ) (nd : List ℕ) (n next place : ℕ) : Type 0 where
  after : node_after (table limit nd n 0) ≡ held next
  size : place ≡ declared (tree_size (table limit nd n 0))
  ends : cell nd n end_at ≡ next

known : (limit : ℕ) (nd : List ℕ) (n : ℕ) {e : Emitted} → Some e ≡ sized (table limit nd n 0) → Known limit nd n e.next e.place
unfolding sized tree_size
known limit nd n {e} h = go (table limit nd n 0) refl h (table_end limit nd n 0)
  where
    go : (D : Got (Tree NameSpan)) → table limit nd n 0 ≡ D → Some e ≡ sized D → Ends nd n D → Known limit nd n e.next e.place
    go (Ok (t, m)) i w l =
        let q = emitted_of w in
        record { after = rw (i, q.0); size = rw (i, q.1); ends = l ∙ sym q.0 }
    go (Err x) i w l = never cc

sized_held : {H : Held ℕ} {next size place : ℕ} → H ≡ held next → place ≡ size → Some (emitted_to next place) ≡ sized_as H size
unfolding sized_as
sized_held h e = rw (h, e) refl

-- A type is tested, and its size added up

module _ (limit : ℕ) (rs nd : List ℕ) (n : ℕ) where
  abbrev Told : Option Emitted → Type 0
  Told R = R ≡ sized_as (type_laid limit rs nd 0 n) (declared (type_size limit rs nd 0))

  pub size_elsewhere : (get_or rs 5 0 ≡ n → ⊥) → Told None
  unfolding type_laid sized_as
  size_elsewhere h = rw (ne_eqb (get_or rs 5 0) n h)

  module _ (here : get_or rs 5 0 ≡ n) where
    pub size_keyless : None ≡ sized (table limit nd n 0) → Told None
    unfolding type_laid sized_as sized
    size_keyless h = rw (eq-eqb (get_or rs 5 0) n here) (go (table limit nd n 0) h)
      where
        go : (D : Got (Tree NameSpan)) → None ≡ sized D
            → None ≡ sized_as (then_held (node_after D) (λ m. pick (yes (get_or rs 4 0)) (node_after (table limit nd m 0)) (held m))) (declared (type_size limit rs nd 0))
        go (Ok (t, m)) w = never cc
        go (Err x) w = refl

    module _ {k : Emitted} (keyed : Some k ≡ sized (table limit nd n 0)) (fields place : ℕ)
        (start : fields ≡ declared (fields_size rs 0)) (add_key : place ≡ declared (fields + k.place)) where
      abbrev whole : ℕ → ℕ
      whole value = fields_size rs 0 + (tree_size (table limit nd n 0) + value)

      bare_laid : get_or rs 4 0 ≡ 0 → type_laid limit rs nd 0 n ≡ held k.next
      unfolding type_laid
      bare_laid none = rw (eq-eqb (get_or rs 5 0) n here, (known limit nd n keyed).after, eq-eqb (get_or rs 4 0) 0 none) refl

      bare_size : get_or rs 4 0 ≡ 0 → type_size limit rs nd 0 ≡ whole 0
      unfolding type_size value_root value_size
      bare_size none = rw (here, eq-eqb (get_or rs 4 0) 0 none) refl

      pub size_bare : get_or rs 4 0 ≡ 0 → Told (Some (emitted_to k.next place))
      size_bare none =
          let t = (known limit nd n keyed).size in
          let p : place ≡ declared (whole 0) = omega arith in
          sized_held (bare_laid none) (p ∙ ap declared (sym (bare_size none)))

      module _ (some : get_or rs 4 0 ≡ 0 → ⊥) where
        pub size_valueless : None ≡ sized (table limit nd k.next 0) → Told None
        unfolding type_laid sized_as sized
        size_valueless h = rw (eq-eqb (get_or rs 5 0) n here, (known limit nd n keyed).after, ne_eqb (get_or rs 4 0) 0 some) (go (table limit nd k.next 0) h)
          where
            go : (D : Got (Tree NameSpan)) → None ≡ sized D → None ≡ sized_as (node_after D) (declared (type_size limit rs nd 0))
            go (Ok (t, m)) w = never cc
            go (Err x) w = refl

        module _ {v : Emitted} (valued : Some v ≡ sized (table limit nd k.next 0)) where
          valued_laid : type_laid limit rs nd 0 n ≡ held v.next
          unfolding type_laid
          valued_laid = rw (eq-eqb (get_or rs 5 0) n here, (known limit nd n keyed).after, ne_eqb (get_or rs 4 0) 0 some) (known limit nd k.next valued).after

          valued_size : type_size limit rs nd 0 ≡ whole (tree_size (table limit nd k.next 0))
          unfolding type_size value_root value_size
          valued_size = rw (here, ne_eqb (get_or rs 4 0) 0 some, (known limit nd n keyed).ends) refl

          pub size_valued : (last : ℕ) → last ≡ declared (place + v.place) → Told (Some (emitted_to v.next last))
          size_valued last add_value =
              let t = (known limit nd n keyed).size in
              let u = (known limit nd k.next valued).size in
              let p : last ≡ declared (whole (tree_size (table limit nd k.next 0))) = omega arith in
              sized_held valued_laid (p ∙ ap declared (sym valued_size))

-- A loop over the types

module _ (limit : ℕ) (nd : List ℕ) where
  module _ (rs x rest : List ℕ) (size : ℕ) (is : rs ≡ x ++ rest) (long : length x ≡ size) (whole : size ≡ 6) where
    size_turn : types_size limit rs nd (row_count Predicate rs) 0 ≡ type_size limit x nd 0 + types_size limit rest nd (row_count Predicate rest) 0
    unfolding types_size
    size_turn =
        let k = row_count Predicate rest in
        rw (count_next Predicate rs x rest size is long whole, size_same limit nd (head Predicate rs x rest size is long whole), sizes_same limit nd k (0 + 6) 0 (others Predicate rs x rest size is long whole (k * 6))) refl

    pub size_next : (n before after : ℕ) {e : Emitted} → sized_as (type_laid limit x nd 0 n) (declared (type_size limit x nd 0)) ≡ Some e → after ≡ declared (before + e.place)
        → declared (before + types_size limit rs nd (row_count Predicate rs) 0) ≡ declared (after + types_size limit rest nd (row_count Predicate rest) 0)
    unfolding sized_as
    size_next n before after {e} h add_type =
        let p : e.place ≡ declared (type_size limit x nd 0) = go (type_laid limit x nd 0 n) h in
        let t = size_turn in
        omega arith
      where
        go : (H : Held ℕ) → sized_as H (declared (type_size limit x nd 0)) ≡ Some e → e.place ≡ declared (type_size limit x nd 0)
        go (held m) w = sym (emitted_of w).1
        go (lacks y) w = never cc

  pub sizes_end : (rest : List ℕ) (n size : ℕ) → length rest < 6 → size ≤ last
      → Ok size ≡ size_if (verdict (types_laid limit rest nd (row_count Predicate rest) 0 n)) (declared (size + types_size limit rest nd (row_count Predicate rest) 0))
  unfolding size_if types_size
  sizes_end rest n size short bound =
      let e : size ≡ declared (size + 0) = omega arith in
      rw (← laid_end limit nd rest n short, none_left Predicate rest short) (ap Ok e)

-- what a size says of the test before it
pub sized_good : (v : Result (Unit {0}) Refusal) (n : ℕ) {m : ℕ} → size_if v n ≡ Ok m → (v ≡ Ok tt) × (m ≡ n)
unfolding size_if
sized_good (Ok x) n h = (refl, cc)
sized_good (Err x) n h = never cc

pub sized_bad : (v : Result (Unit {0}) Refusal) (n : ℕ) {e : Refusal} → size_if v n ≡ Err e → v ≡ Err e
unfolding size_if
sized_bad (Ok x) n h = never cc
sized_bad (Err x) n h = cc

-- types that were tested, and the place after them
module _ {rs : List ℕ} {count : ℕ} {part : List ℕ} (cut : Cut Predicate rs count part) (limit : ℕ) (tx nd : List ℕ) where
  pub types_told : (s : Pen) (size place : ℕ) → s.place ≤ last → there Predicate rs count ≡ Ok tt → numbers_told Predicate part (row_count Predicate part) ≡ Ok tt
      → size_if (nodes_fine Predicate limit part nd (row_count Predicate part)) (declared (types_size limit part nd (row_count Predicate part) 0)) ≡ Ok size
      → rows_names Predicate limit tx part nd (row_count Predicate part) 0 ≡ Ok tt
      → place ≡ declared (s.place + size)
      → Ok place ≡ size_if (rows_fine Predicate limit tx rs nd count) (put_rows Predicate limit tx rs nd count 0 s).place
  unfolding size_if rows_fine then_names
  types_told s size place inside t n l r add_size =
      let told = sized_good _ _ l in
      let laid : nodes_fine Predicate limit rs nd count ≡ Ok tt = sym (cut_nodes cut limit nd) ∙ told.0 in
      let numbered : numbers_told Predicate rs count ≡ Ok tt = sym (cut_numbers cut) ∙ n in
      let named : rows_names Predicate limit tx rs nd count 0 ≡ Ok tt = sym (cut_names cut limit tx nd) ∙ r in
      let moved = types_place limit tx part nd (row_count Predicate part) 0 s inside in
      let size_is = told.1 in
      let p : place ≡ declared (s.place + types_size limit part nd (row_count Predicate part) 0) = omega arith in
      rw (t, numbered, laid, named) (ap Ok (p ∙ sym moved ∙ ap (λ (o : Pen). o.place) (cut_put cut limit tx nd s)))
