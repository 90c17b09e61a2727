-- Rows that have the same numbers: what is tested and written of them is the same, wherever they stand.
use mathlib.Core.Path.{◌≡◌, refl}
use mathlib.Core.List.{List}
use Prim.Native.Nat.{ℕ, zero, suc, ◌+◌, ◌*◌, ◌<◌}
use native.Mathlib.Nat.{suc-mul, add_assoc, add-zero}
use native.Mathlib.Omega.{arith}
use lib.ListN.{get_or}
use Rattle.varint.specs.Gathering.{then_held}
use Rattle.desc.specs.Emitting.{Pen}
use Rattle.protocol.specs.Rows.{width_of}
use Rattle.protocol.specs.RowsHeld.{all_good}
use Rattle.protocol.specs.Types.{type_numbers, type_laid, types_laid}
use Rattle.protocol.specs.declared.message.RowKind.{RowKind}
use Rattle.protocol.specs.declared.message.RowKind.TheVariants.{Claim, Id, Predicate, Step, Pair}
use Rattle.protocol_write.specs.Inner.Checking.{row_good, row_names, rows_names, fields_size, type_size, types_size}
use Rattle.protocol_write.specs.Inner.Writing.{put_labelled, put_step, put_type, put_row, put_rows}

-- n numbers of xs from place p on are those of rs from place q on
pub record Same (n : ℕ) (xs : List ℕ) (p : ℕ) (rs : List ℕ) (q : ℕ) : Type 0 where
  pub each : (k : ℕ) → k < n → get_or xs (p + k) 0 ≡ get_or rs (q + k) 0

module _ {n : ℕ} {xs rs : List ℕ} {p q : ℕ} where
  first : 0 < n → Same n xs p rs q → get_or xs p 0 ≡ get_or rs q 0
  first h s = rw (add-zero p, add-zero q) at (s.each 0 h)

-- a row that has the same numbers
module _ {xs rs : List ℕ} {p q : ℕ} where
  pub good_same : (kind : RowKind) → Same (width_of kind) xs p rs q → row_good kind xs p ≡ row_good kind rs q
  unfolding row_good type_numbers
  good_same Claim s = refl
  good_same Id s = refl
  good_same Predicate s = rw (first (omega arith) s, s.each 3 (omega arith), s.each 4 (omega arith))
  good_same Step s = rw (s.each 3 (omega arith))
  good_same Pair s = refl

  pub type_same : (limit : ℕ) (nd : List ℕ) (n : ℕ) → Same 6 xs p rs q → type_laid limit xs nd p n ≡ type_laid limit rs nd q n
  unfolding type_laid
  type_same limit nd n s = rw (s.each 4 (omega arith), s.each 5 (omega arith))

  pub size_same : (limit : ℕ) (nd : List ℕ) → Same 6 xs p rs q → type_size limit xs nd p ≡ type_size limit rs nd q
  unfolding type_size fields_size
  size_same limit nd s = rw (first (omega arith) s, s.each 2 (omega arith), s.each 4 (omega arith), s.each 5 (omega arith))

  pub named_same : (kind : RowKind) (limit : ℕ) (tx nd : List ℕ) → Same (width_of kind) xs p rs q → row_names kind limit tx xs nd p ≡ row_names kind limit tx rs nd q
  unfolding row_names
  named_same Claim limit tx nd s = rw (first (omega arith) s, s.each 1 (omega arith))
  named_same Id limit tx nd s = refl
  named_same Predicate limit tx nd s = rw (s.each 1 (omega arith), s.each 2 (omega arith), s.each 4 (omega arith), s.each 5 (omega arith))
  named_same Step limit tx nd s = rw (first (omega arith) s, s.each 1 (omega arith))
  named_same Pair limit tx nd s = refl

  pub put_same : (kind : RowKind) (limit : ℕ) (tx nd : List ℕ) (o : Pen) → Same (width_of kind) xs p rs q
      → put_row kind limit tx xs nd p o ≡ put_row kind limit tx rs nd q o
  unfolding put_row put_labelled put_type put_step
  put_same Claim limit tx nd o s = rw (first (omega arith) s, s.each 1 (omega arith), s.each 2 (omega arith))
  put_same Id limit tx nd o s = rw (first (omega arith) s)
  put_same Predicate limit tx nd o s =
      rw (first (omega arith) s, s.each 1 (omega arith), s.each 2 (omega arith), s.each 3 (omega arith), s.each 4 (omega arith), s.each 5 (omega arith))
  put_same Step limit tx nd o s = rw (first (omega arith) s, s.each 1 (omega arith), s.each 2 (omega arith), s.each 3 (omega arith))
  put_same Pair limit tx nd o s = rw (first (omega arith) s)

-- of so many rows that have the same numbers the first has, and the others have
module _ {xs rs : List ℕ} {p q : ℕ} (w n : ℕ) (s : Same (suc n * w) xs p rs q) where
  pub row_same : Same w xs p rs q
  row_same = record { each = λ k h. s.each k (omega (arith, suc-mul n w)) }

  pub rows_same : Same (n * w) xs (p + w) rs (q + w)
  rows_same = record { each = λ k h. let f = s.each (w + k) (omega (arith, suc-mul n w)) in rw (add_assoc p w k, add_assoc q w k) f }

-- so many rows that have the same numbers
module _ {xs rs : List ℕ} where
  pub all_good_same : (kind : RowKind) (n p q : ℕ) → Same (n * width_of kind) xs p rs q
      → all_good (row_good kind xs) (width_of kind) n p ≡ all_good (row_good kind rs) (width_of kind) n q
  unfolding all_good
  all_good_same kind zero p q s = refl
  all_good_same kind (suc n) p q s =
      let w = width_of kind in
      rw (good_same kind (row_same w n s), all_good_same kind n (p + w) (q + w) (rows_same w n s))

  pub types_same : (limit : ℕ) (nd : List ℕ) (n p q m : ℕ) → Same (n * 6) xs p rs q → types_laid limit xs nd n p m ≡ types_laid limit rs nd n q m
  unfolding types_laid
  types_same limit nd zero p q m s = refl
  types_same limit nd (suc n) p q m s =
      rw (type_same limit nd m (row_same 6 n s)) (λ i. then_held (type_laid limit rs nd q m) (λ k. types_same limit nd n (p + 6) (q + 6) k (rows_same 6 n s) i))

  pub sizes_same : (limit : ℕ) (nd : List ℕ) (n p q : ℕ) → Same (n * 6) xs p rs q → types_size limit xs nd n p ≡ types_size limit rs nd n q
  unfolding types_size
  sizes_same limit nd zero p q s = refl
  sizes_same limit nd (suc n) p q s = rw (size_same limit nd (row_same 6 n s), sizes_same limit nd n (p + 6) (q + 6) (rows_same 6 n s))

  pub names_same : (kind : RowKind) (limit : ℕ) (tx nd : List ℕ) (n p q : ℕ) → Same (n * width_of kind) xs p rs q
      → rows_names kind limit tx xs nd n p ≡ rows_names kind limit tx rs nd n q
  unfolding rows_names
  names_same kind limit tx nd zero p q s = refl
  names_same kind limit tx nd (suc n) p q s =
      let w = width_of kind in
      rw (named_same kind limit tx nd (row_same w n s), names_same kind limit tx nd n (p + w) (q + w) (rows_same w n s))

  pub puts_same : (kind : RowKind) (limit : ℕ) (tx nd : List ℕ) (n p q : ℕ) (o : Pen) → Same (n * width_of kind) xs p rs q
      → put_rows kind limit tx xs nd n p o ≡ put_rows kind limit tx rs nd n q o
  unfolding put_rows
  puts_same kind limit tx nd zero p q o s = refl
  puts_same kind limit tx nd (suc n) p q o s =
      let w = width_of kind in
      rw (put_same kind limit tx nd o (row_same w n s)) (puts_same kind limit tx nd n (p + w) (q + w) (put_row kind limit tx rs nd q o) (rows_same w n s))
