-- The steps of a reading, and that what follows a frame does not change it.
use mathlib.Core.Path.{◌≡◌}
use mathlib.Core.List.{List, [], ◌++◌}
use Prim.Native.Nat.{ℕ, suc, ◌+◌, ◌≤◌}
use native.Mathlib.Omega.{arith}
use lib.ListN.{length, take, drop, length-drop}
use lib.Seq.{take-append-le, drop-append-le}
use Rattle.varint.specs.Refusals.{code_of}
use Rattle.varint.specs.declared.error.Refusal.{Refusal}
use Rattle.frame.specs.Worlds.{Limits, Setup, Lent}
use Rattle.frame.specs.Reading.{halt, done, after, lent_by, short, bad, whole, holding, stopped_at, answered, frame_of, read}
use Rattle.frame.proofs.Firsts.{View, v_head, viewed}

module _ (l : Limits) (c : Setup) where
  pub read_short : (n : ℕ) (s : List ℕ) (b : Lent) → View l c s short → read l c (suc n) s b ≡ done (length s) (holding l c s b)
  unfolding read
  read_short n s b v = rw (viewed l c s v, read)

  pub read_bad : (n : ℕ) (s : List ℕ) (b : Lent) (e : Refusal) → View l c s (bad e)
      → read l c (suc n) s b ≡ after (halt (code_of e)) 9 (done 0 (stopped_at l c (take 9 s) e b))
  unfolding read
  read_bad n s b e v = rw (viewed l c s v, read)

  pub read_whole : (n : ℕ) (s : List ℕ) (b : Lent) (m : ℕ) → View l c s (whole m)
      → read l c (suc n) s b ≡ after (frame_of l c m s b) (9 + m) (read l c n (drop (9 + m) s) (lent_by (answered l c m s b)))
  unfolding read
  read_whole n s b m v = rw (viewed l c s v, read)

  pub answered_same : (n : ℕ) (s y : List ℕ) (b : Lent) → 9 + n ≤ length s → answered l c n (s ++ y) b ≡ answered l c n s b
  unfolding answered
  answered_same n s y b h =
      let k : 9 ≤ length s = omega arith in
      let m : n ≤ length (drop 9 s) = rw length-drop (omega arith) in
      rw (take-append-le 9 s y k, drop-append-le 9 s y k, take-append-le n (drop 9 s) y m)

  pub frame_same : (n : ℕ) (s y : List ℕ) (b : Lent) → 9 + n ≤ length s → frame_of l c n (s ++ y) b ≡ frame_of l c n s b
  frame_same n s y b h =
      let k : 9 ≤ length s = omega arith in
      rw (answered_same n s y b h, take-append-le 9 s y k)

  pub none_short : View l c [] short
  none_short = v_head (omega arith)
