-- Loops over rows: one turn of each, its end, and what it says of the first of all rows.
use mathlib.Core.Bool.{Bool, true, false, ◌&&◌}
use mathlib.Core.Path.{◌≡◌, refl, sym, ap, ◌∙◌}
use mathlib.Core.List.{List, ◌++◌}
use Prim.Native.Nat.{ℕ, zero, suc, ◌+◌, ◌-◌, ◌*◌, ◌≤◌, ◌<◌}
use native.Mathlib.Nat.{mul-div_cancel, div-eq_of_lt, add-div_left, zero-add}
use Rattle.std.proofs.Common.{add-one}
use native.Mathlib.Omega.{arith}
use lib.Dec.{ltb}
use lib.ListN.{length, get_or, get_or-append, length-append}
use Rattle.std.proofs.lemmas.List.{get_or-take, length-take-le, get_or-append-add}
use borrow.Author.Tests.{ltb-false}
use Rattle.varint.specs.declared.error.Fault.TheVariants.{RowCount}
use Rattle.varint.specs.declared.error.Refusal.{Refusal}
use Rattle.varint.specs.declared.error.Refusal.TheVariants.{BadMessage}
use Rattle.varint.proofs.Basics.{test, never}
use Rattle.desc.specs.Emitting.{Pen, then_names}
use Rattle.protocol.specs.Rows.{width_of}
use Rattle.protocol.specs.RowsHeld.{all_good}
use Rattle.protocol.specs.declared.message.RowKind.{RowKind}
use Rattle.protocol.specs.declared.message.RowKind.TheVariants.{Claim, Id, Predicate, Step, Pair}
use Rattle.protocol_write.specs.Inner.Checking.{row_good, row_count, there, Cut, numbers_told, numbers_fine, row_names, rows_names}
use Rattle.protocol_write.specs.Inner.Writing.{put_row, put_rows}
use Rattle.protocol_write.proofs.RowsSame.{Same, good_same, named_same, put_same, all_good_same, names_same, puts_same}
use Rattle.std.specs.Prelude.{Ok, Err}

pub width_some : (kind : RowKind) → 0 < width_of kind
width_some Claim = omega arith
width_some Id = omega arith
width_some Predicate = omega arith
width_some Step = omega arith
width_some Pair = omega arith

-- rows that are there
pub there_fits : (kind : RowKind) (rs : List ℕ) (count : ℕ) → there kind rs count ≡ Ok tt → count * width_of kind ≤ length rs
unfolding there
there_fits kind rs count h =
    test (ltb (length rs) (count * width_of kind))
    (λ e. let z : Err (BadMessage RowCount) ≡ Ok tt = rw e at h in never cc)
    (λ e. ltb-false (length rs) (count * width_of kind) e)

all_true : (good : ℕ → Bool) → ((r : ℕ) → good r ≡ true) → (n r v : ℕ) → all_good good v n r ≡ true
unfolding all_good
all_true good h zero r v = refl
all_true good h (suc n) r v = rw (h r) (all_true good h n (r + v) v)

-- a row whose numbers are good is passed
pub row_good_lem : (good : ℕ → Bool) (left r w v : ℕ) (t : Bool) → 0 < left → w ≡ v → t ≡ good r → t ≡ true → all_good good v left r ≡ all_good good v (left - 1) (r + w)
unfolding all_good
row_good_lem good zero r w v t p e is g = absurd (omega arith)
row_good_lem good (suc left) r w v t p e is g = let l : suc left - 1 ≡ left = omega arith in rw (l, e, ← is, g)

-- the numbers of all rows, one row after the other
pub numbers_all : (kind : RowKind) (rs : List ℕ) (count : ℕ) → numbers_fine kind rs count ≡ all_good (row_good kind rs) (width_of kind) count 0
unfolding numbers_fine row_good
numbers_all Claim rs count = sym (all_true (row_good Claim rs) (λ r. refl) count 0 (width_of Claim))
numbers_all Id rs count = sym (all_true (row_good Id rs) (λ r. refl) count 0 (width_of Id))
numbers_all Predicate rs count = refl
numbers_all Step rs count = refl
numbers_all Pair rs count = sym (all_true (row_good Pair rs) (λ r. refl) count 0 (width_of Pair))

-- one turn of each loop over rows: of the rows rs the first is x, and rest stands behind it
module _ (kind : RowKind) (rs x rest : List ℕ) (size : ℕ) (is : rs ≡ x ++ rest) (long : length x ≡ size) (whole : size ≡ width_of kind) where
  pub head : Same (width_of kind) rs 0 x 0
  head = record { each = λ k h. let i : k < length x = omega (arith, long, whole) in rw (is, zero-add) (get_or-append x rest 0 k i) }

  pub others : (n : ℕ) → Same n rs (0 + width_of kind) rest 0
  others n = record {
    each = λ k h.
        let a : get_or (x ++ rest) (width_of kind + k) 0 ≡ get_or rest k 0 = rw (← whole, ← long) (get_or-append-add x rest k 0) in
        let b : 0 + width_of kind + k ≡ width_of kind + k = omega arith in
        let e : 0 + k ≡ k = omega arith in
        rw (is, b, e) a;
  }

  pub count_next : row_count kind rs ≡ suc (row_count kind rest)
  count_next =
      let p : 0 < width_of kind = width_some kind in
      rw (is, length-append x rest, long, whole) (add-div_left (length rest) p ∙ add-one (row_count kind rest))

  -- a row's numbers are looked at
  numbers_turn : numbers_fine kind rs (row_count kind rs) ≡ (row_good kind x 0 && numbers_fine kind rest (row_count kind rest))
  unfolding all_good
  numbers_turn =
      let n = row_count kind rest in
      numbers_all kind rs (row_count kind rs)
      ∙ rw (count_next, good_same kind head, all_good_same kind n (0 + width_of kind) 0 (others (n * width_of kind)))
      (sym (ap (λ b. row_good kind x 0 && b) (numbers_all kind rest n)))

  pub number_good : row_good kind x 0 ≡ true → numbers_fine kind rs (row_count kind rs) ≡ numbers_fine kind rest (row_count kind rest)
  number_good g = numbers_turn ∙ rw g

  pub number_bad : row_good kind x 0 ≡ false → numbers_fine kind rs (row_count kind rs) ≡ false
  number_bad g = numbers_turn ∙ rw g

  module _ (limit : ℕ) (tx nd : List ℕ) where
    -- a row's texts are looked at
    names_turn : rows_names kind limit tx rs nd (row_count kind rs) 0
        ≡ then_names (row_names kind limit tx x nd 0) (rows_names kind limit tx rest nd (row_count kind rest) 0)
    unfolding rows_names
    names_turn =
        let n = row_count kind rest in
        rw (count_next, named_same kind limit tx nd head, names_same kind limit tx nd n (0 + width_of kind) 0 (others (n * width_of kind)))

    pub row_named : row_names kind limit tx x nd 0 ≡ Ok tt → rows_names kind limit tx rs nd (row_count kind rs) 0 ≡ rows_names kind limit tx rest nd (row_count kind rest) 0
    unfolding then_names
    row_named g = names_turn ∙ rw g

    pub row_refused : (e : Refusal) → row_names kind limit tx x nd 0 ≡ Err e → rows_names kind limit tx rs nd (row_count kind rs) 0 ≡ Err e
    unfolding then_names
    row_refused e g = names_turn ∙ rw g

    -- a row is written
    pub put_turn : (s : Pen) → put_rows kind limit tx rs nd (row_count kind rs) 0 s ≡ put_rows kind limit tx rest nd (row_count kind rest) 0 (put_row kind limit tx x nd 0 s)
    unfolding put_rows
    put_turn s =
        let n = row_count kind rest in
        rw count_next
        (ap (put_rows kind limit tx rs nd n (0 + width_of kind)) (put_same kind limit tx nd s head)
        ∙ puts_same kind limit tx nd n (0 + width_of kind) 0 (put_row kind limit tx x nd 0 s) (others (n * width_of kind)))

-- no row is left
module _ (kind : RowKind) (rest : List ℕ) (short : length rest < width_of kind) where
  pub none_left : row_count kind rest ≡ 0
  none_left = div-eq_of_lt short

  pub numbers_end : numbers_fine kind rest (row_count kind rest) ≡ true
  unfolding all_good
  numbers_end = numbers_all kind rest (row_count kind rest) ∙ rw none_left

  pub names_end : (limit : ℕ) (tx nd : List ℕ) → rows_names kind limit tx rest nd (row_count kind rest) 0 ≡ Ok tt
  unfolding rows_names
  names_end limit tx nd = rw none_left

  pub put_end : (limit : ℕ) (tx nd : List ℕ) (s : Pen) → put_rows kind limit tx rest nd (row_count kind rest) 0 s ≡ s
  unfolding put_rows
  put_end limit tx nd s = rw none_left

-- the first of all rows
module _ {kind : RowKind} {rs : List ℕ} {count : ℕ} {part : List ℕ} (cut : Cut kind rs count part) where
  pub cut_same : Same (count * width_of kind) part 0 rs 0
  cut_same = record { each = λ k h. rw (cut.is, zero-add) (get_or-take (count * width_of kind) rs k 0 h) }

  pub cut_count : row_count kind part ≡ count
  cut_count =
      let l : length part ≡ count * width_of kind = ap length cut.is ∙ length-take-le (count * width_of kind) rs cut.there in
      rw l (mul-div_cancel count (width_some kind))

  pub cut_numbers : numbers_told kind part (row_count kind part) ≡ numbers_told kind rs count
  unfolding numbers_told
  cut_numbers =
      let e : numbers_fine kind part count ≡ numbers_fine kind rs count = numbers_all kind part count ∙ all_good_same kind count 0 0 cut_same ∙ sym (numbers_all kind rs count) in
      rw (cut_count, e)

  pub cut_names : (limit : ℕ) (tx nd : List ℕ) → rows_names kind limit tx part nd (row_count kind part) 0 ≡ rows_names kind limit tx rs nd count 0
  cut_names limit tx nd = rw cut_count (names_same kind limit tx nd count 0 0 cut_same)

  pub cut_put : (limit : ℕ) (tx nd : List ℕ) (s : Pen) → put_rows kind limit tx part nd (row_count kind part) 0 s ≡ put_rows kind limit tx rs nd count 0 s
  cut_put limit tx nd s = rw cut_count (puts_same kind limit tx nd count 0 0 s cut_same)

-- ids and pairs have no text
pub no_names : (kind : RowKind) (limit : ℕ) (tx rs nd : List ℕ) → ((r : ℕ) → row_names kind limit tx rs nd r ≡ Ok tt)
    → (n r : ℕ) → rows_names kind limit tx rs nd n r ≡ Ok tt
unfolding rows_names then_names
no_names kind limit tx rs nd h zero r = refl
no_names kind limit tx rs nd h (suc n) r = rw (h r) (no_names kind limit tx rs nd h n (r + width_of kind))
