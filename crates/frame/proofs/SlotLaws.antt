-- A text stored in a slot, and spaces after it, are what the slot shows.
use mathlib.Core.Path.{◌≡◌, sym, ◌∙◌, ap}
use mathlib.Core.Logic.{⊎_elim}
use mathlib.Core.List.{List, [], ◌++◌, append-nil}
use Prim.Native.Nat.{ℕ, ◌+◌, ◌-◌, ◌≤◌, ◌<◌}
use native.Mathlib.Omega.{arith}
use lib.ListN.{length, take, drop, drop_of_length-le}
use lib.Seq.{sets, sets-eq, length-sets, take_all, take_at, length-take-le}
use Rattle.varint.specs.Stores.{part, fill_from}
use Rattle.varint.proofs.Basics.{below}
use Rattle.varint.proofs.StoreLaws.{length_part, sets_clip}
use Rattle.frame.specs.Slots.{slot_of}

module _ (x d : List ℕ) (n : ℕ) (size : length x ≡ n) where
  abbrev after : List ℕ
  after = sets d 0 x

  -- the text fits in the slot: spaces follow it
  wide : n ≤ length d → fill_from 0x20 after n ≡ slot_of (length d) x
  unfolding slot_of fill_from
  wide h =
      let a : 0 + length x ≤ length d = omega arith in
      let t : take n after ≡ x = rw (sets-eq x d 0 a) (take_at x (drop (0 + length x) d) n size) in
      rw (t, length-sets d 0 x, take_all (length d) x (omega arith), size)

  -- the text fills the slot
  narrow : length d ≤ n → fill_from 0x20 after n ≡ slot_of (length d) x
  unfolding slot_of fill_from
  narrow h =
      let l = length-sets d 0 x in
      let k : length (take (length d) x) ≡ length d = length-take-le (length d) x (omega arith) in
      let a : 0 + length (take (length d) x) ≤ length d = omega arith in
      let o : length d ≤ 0 + length (take (length d) x) = omega arith in
      let t : take n after ≡ after = take_all n after (omega arith) in
      let y : length after - n ≡ 0 = omega arith in
      let z : length d - length x ≡ 0 = omega arith in
      rw (t, y, z)
      (ap (λ (i : List ℕ). i ++ []) (sym (sets_clip x d 0 (length d) (omega arith)) ∙ sets-eq (take (length d) x) d 0 a ∙ rw (drop_of_length-le d o) (append-nil _)))

pub slot_shown : (text : List ℕ) (start len : ℕ) (d : List ℕ) → start + len ≤ length text
    → fill_from 0x20 (sets d 0 (part text start len)) len ≡ slot_of (length d) (part text start len)
slot_shown text start len d h =
    let x : List ℕ = part text start len in
    let size = length_part text start len h in
    ⊎_elim (λ (k : len < length d). wide x d len size (omega arith)) (narrow x d len size) (below len (length d))
