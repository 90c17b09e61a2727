-- Bytes with zeros after them, and the bytes s held: none, less than a header, or a header and more.
use mathlib.Core.Path.{◌≡◌}
use mathlib.Core.List.{List, [], ◌++◌, append_assoc, append-nil}
use Prim.Native.Nat.{ℕ, ◌+◌, ◌-◌, ◌≤◌, ◌<◌, min}
use native.Mathlib.Nat.{sub-zero}
use native.Mathlib.Omega.{arith}
use lib.ListN.{length, take, drop, replicate, length-append, length-take, length-drop, length-replicate, replicate-append-replicate, drop_of_length-le}
use lib.Seq.{take_all, drop_at}
use Rattle.frame.specs.Worlds.{Limits, Setup, Lent, receiver_of, running, pad, fresh}
use Rattle.frame.specs.Reading.{holding}

pub pad_length : (n : ℕ) (x : List ℕ) → length x ≤ n → length (pad n x) ≡ n
unfolding pad
pad_length n x h = simp (length-append, length-replicate) (omega arith)

-- a longer list stored over it
pub pad_over : (n : ℕ) (x y : List ℕ) → length x ≤ length y → length y ≤ n → y ++ drop (length y) (pad n x) ≡ y ++ replicate (n - length y) 0
unfolding pad
pad_over n x y h m =
    let e : n - length x ≡ (length y - length x) + (n - length y) = omega arith in
    let k : length (x ++ replicate (length y - length x) 0) ≡ length y = simp (length-append, length-replicate) (omega arith) in
    rw (
      e,
      ← replicate-append-replicate {A = ℕ} (length y - length x) (n - length y) 0,
      ← append_assoc,
      drop_at (x ++ replicate (length y - length x) 0) (replicate (n - length y) 0) (length y) k,
    )

module _ (l : Limits) (c : Setup) where
  pub held_none : (b : Lent) → holding l c [] b ≡ fresh c b
  unfolding fresh holding pad
  held_none b = rw sub-zero

  pub held_head : (s : List ℕ) (b : Lent) → length s < 9
      → holding l c s b ≡ record { receiver = receiver_of c (s ++ replicate (9 - length s) 0) (length s) 0 running; hold = replicate c.room 0; lent = b }
  unfolding holding pad
  held_head s b h =
      let t : take 9 s ≡ s = take_all 9 s (omega arith) in
      let d : drop 9 s ≡ [] = drop_of_length-le s {i = 9} (omega arith) in
      let g : min 9 (length s) ≡ length s = omega arith in
      let k : length s - 9 ≡ 0 = omega arith in
      rw (t, d, g, k, sub-zero)

  pub held_load : (s : List ℕ) (b : Lent) → 9 ≤ length s → holding l c s b ≡ record {
    receiver = receiver_of c (take 9 s) 9 (length s - 9) running;
    hold = drop 9 s ++ replicate (c.room - (length s - 9)) 0;
    lent = b;
  }
  unfolding holding pad
  held_load s b h =
      let g : min 9 (length s) ≡ 9 = omega arith in
      rw (length-take, g, length-drop, append-nil)
