-- What is stored of a row is what is printed of the thing that it holds.
use mathlib.Core.Bool.{Bool, true, false}
use mathlib.Core.Path.{◌≡◌}
use mathlib.Core.List.{List, ◌++◌}
use Prim.Native.Nat.{ℕ, ◌+◌, ◌/◌, ◌%◌}
use lib.ListN.{length, get_or}
use Rattle.varint.specs.Choice.{pick}
use Rattle.varint.specs.Formats.{Format, varint, print_text, print_all}
use Rattle.varint.specs.Gathering.{Held, held, then_held, name_held}
use Rattle.varint.specs.Leb128.{put_u64}
use Rattle.desc.specs.Encoding.{held_in}
use Rattle.desc.specs.Table.{cell, table}
use Rattle.desc.specs.Trees.{Tree}
use Rattle.protocol.specs.Fetch.{pair}
use Rattle.desc.specs.WellFormed.{descriptor}
use Rattle.protocol.specs.Fields.{yes, Optional, absent, present, print_optional}
use Rattle.protocol.specs.Ids.{held_id}
use Rattle.protocol.specs.Profile.{Step, step, held_step}
use Rattle.protocol.specs.Rows.{width_of}
use Rattle.protocol.specs.RowsHeld.{held_times}
use Rattle.protocol.specs.Startup.{Claim, claim, held_claim}
use Rattle.protocol.specs.Types.{Predicate, predicate, held_predicate}
use Rattle.protocol.specs.declared.message.RowKind.{RowKind}
use Rattle.protocol.specs.declared.message.RowKind.TheVariants as K
use Rattle.std.specs.Prelude.{Some, None}
use Rattle.protocol_write.specs.Inner.Checking.{value_root}
use Rattle.protocol_write.specs.Inner.Writing.{put_pair, put_labelled, put_step, put_value, put_type, put_row, put_counted}
use Rattle.protocol_write.proofs.Printing.{took, held_same, Prints, prints_then, prints_number, number_same, prints_two, prints_flag, prints_wide, prints_text, prints_tree, times_length, prints_rows}

module _ (limit : ℕ) (tx rs nd : List ℕ) where
  labelled_prints : (r : ℕ) (x : List ℕ) → name_held tx (get_or rs r 0) (get_or rs (r + 1) 0) ≡ held x
      → Prints (put_labelled tx rs r) (print_text x ++ put_u64 (get_or rs (r + 2) 0))
  unfolding put_labelled
  labelled_prints r x e =
      prints_then (prints_text tx (get_or rs r 0) (get_or rs (r + 1) 0) x e) (prints_number (get_or rs (r + 2) 0))

  pub claim_prints : (r : ℕ) (c : Claim) → held_claim tx rs r ≡ held c → Prints (put_row K.Claim limit tx rs nd r) (claim.print c)
  unfolding held_claim put_row
  claim_prints r c e =
      let a = took (name_held tx (get_or rs r 0) (get_or rs (r + 1) 0)) (λ x. held (record { name = x; fingerprint = get_or rs (r + 2) 0 })) c e in
      let q : record { name = a.value; fingerprint = get_or rs (r + 2) 0 } ≡ c = held_same a.rest in
      rw (← q) (labelled_prints r a.value a.is)

  pub step_prints : (r : ℕ) (c : Step) → held_step tx rs r ≡ held c → Prints (put_row K.Step limit tx rs nd r) (step.print c)
  unfolding held_step put_row put_step put_labelled
  step_prints r c e =
      let scan = yes (get_or rs (r + 3) 0) in
      let a =
      took (name_held tx (get_or rs r 0) (get_or rs (r + 1) 0))
      (λ x. held (record { label = x; examined = get_or rs (r + 2) 0; full_scan = yes (get_or rs (r + 3) 0) })) c e
      in
      let q : record { label = a.value; examined = get_or rs (r + 2) 0; full_scan = yes (get_or rs (r + 3) 0) } ≡ c = held_same a.rest in
      rw (← q)
      (prints_then (prints_text tx (get_or rs r 0) (get_or rs (r + 1) 0) a.value a.is)
      (prints_then (prints_number (get_or rs (r + 2) 0)) (prints_flag scan)))

  pub id_prints : (r i : ℕ) → held_id rs r ≡ held i → Prints (put_row K.Id limit tx rs nd r) (varint.print i)
  unfolding put_row
  id_prints r i e = let q : get_or rs r 0 ≡ i = held_same e in rw (← q) (prints_number (get_or rs r 0))

  pub pair_prints : (r i : ℕ) → held_id rs r ≡ held i → Prints (put_row K.Pair limit tx rs nd r) (pair.print i)
  unfolding put_row put_pair
  pair_prints r i e =
      let q : get_or rs r 0 ≡ i = held_same e in
      rw (← q) (prints_two (get_or rs r 0 / 1099511627776) (get_or rs r 0 % 1099511627776))

  -- what a type's row says of its value
  abbrev value_held : (has key : ℕ) → Held (Optional (Tree (List ℕ)))
  value_held has key = pick (yes has) (then_held (held_in (table limit nd (cell nd key 6) 0) tx) (λ u. held (present u))) (held absent)

  -- by whether there is one
  value_prints : (has key : ℕ) (v : Optional (Tree (List ℕ))) → value_held has key ≡ held v
      → Prints (put_value limit tx nd (value_root nd has key)) (print_optional (descriptor 0) v)
  unfolding put_value value_root
  value_prints has key v e = go (yes has) e
    where
      go : (b : Bool) → pick b (then_held (held_in (table limit nd (cell nd key 6) 0) tx) (λ u. held (present u))) (held absent) ≡ held v
          → Prints (put_value limit tx nd (pick b (Some (cell nd key 6)) None)) (print_optional (descriptor 0) v)
      go true h =
          let a = took (held_in (table limit nd (cell nd key 6) 0) tx) (λ u. held (present u)) v h in
          let q : present a.value ≡ v = held_same a.rest in
          rw (← q)
          (prints_then (prints_wide true) (prints_tree tx (table limit nd (cell nd key 6) 0) a.value a.is))
      go false h = let q : absent ≡ v = held_same h in rw (← q) (prints_wide false)

  -- the type that it holds
  abbrev type_of : (r : ℕ) (x : List ℕ) (k : Tree (List ℕ)) → Optional (Tree (List ℕ)) → Predicate
  type_of r x k v = record { id = get_or rs r 0; name = x; virtual = yes (get_or rs (r + 3) 0); key = k; value = v }

  fields_print : (r : ℕ) (x : List ℕ) (k : Tree (List ℕ)) (v : Optional (Tree (List ℕ))) → name_held tx (get_or rs (r + 1) 0) (get_or rs (r + 2) 0) ≡ held x
      → held_in (table limit nd (get_or rs (r + 5) 0) 0) tx ≡ held k → value_held (get_or rs (r + 4) 0) (get_or rs (r + 5) 0) ≡ held v
      → Prints (put_row K.Predicate limit tx rs nd r) ((predicate 0).print (type_of r x k v))
  unfolding put_row put_type
  fields_print r x k v named keyed valued =
      prints_then (prints_number (get_or rs r 0))
      (prints_then (prints_text tx (get_or rs (r + 1) 0) (get_or rs (r + 2) 0) x named)
      (prints_then (prints_wide (yes (get_or rs (r + 3) 0)))
      (prints_then (prints_tree tx (table limit nd (get_or rs (r + 5) 0) 0) k keyed) (value_prints (get_or rs (r + 4) 0) (get_or rs (r + 5) 0) v valued))))

  pub type_prints : (r : ℕ) (p : Predicate) → held_predicate limit tx rs nd r ≡ held p → Prints (put_row K.Predicate limit tx rs nd r) ((predicate 0).print p)
  unfolding held_predicate
  type_prints r p e =
      let N = name_held tx (get_or rs (r + 1) 0) (get_or rs (r + 2) 0) in
      let K = held_in (table limit nd (get_or rs (r + 5) 0) 0) tx in
      let V = value_held (get_or rs (r + 4) 0) (get_or rs (r + 5) 0) in
      let a = took N (λ x. then_held K (λ k. then_held V (λ v. held (type_of r x k v)))) p e in
      let b = took K (λ k. then_held V (λ v. held (type_of r a.value k v))) p a.rest in
      let d = took V (λ v. held (type_of r a.value b.value v)) p b.rest in
      let q : type_of r a.value b.value d.value ≡ p = held_same {a = type_of r a.value b.value d.value} d.rest in
      rw (← q) (fields_print r a.value b.value d.value a.is b.is d.is)

-- a count and so many rows
pub counted_prints : {A : Type 0} (f : Format A) (row : ℕ → Held A) (kind : RowKind) (limit : ℕ) (tx rs nd : List ℕ)
    → ((r : ℕ) (a : A) → row r ≡ held a → Prints (put_row kind limit tx rs nd r) (f.print a))
    → (count : ℕ) (l : List A) → held_times row (width_of kind) count 0 ≡ held l
    → Prints (put_counted kind limit tx rs nd count) (put_u64 (length l) ++ print_all f l)
unfolding put_counted
counted_prints f row kind limit tx rs nd prints count l e =
    prints_then
    (number_same (times_length row (width_of kind) count 0 l e))
    (prints_rows f row kind limit tx rs nd prints count 0 l e)
