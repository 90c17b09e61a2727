-- The steps of a writer of a varint, which stores its bytes one by one.
use mathlib.Core.Path.{◌≡◌, sym, ◌∙◌, ap}
use mathlib.Core.List.{List}
use Prim.Native.Nat.{ℕ, ◌+◌, ◌/◌, ◌%◌, ◌^◌, ◌≤◌, ◌<◌}
use native.Mathlib.Omega.{arith}
use lib.ListN.{length, set, length-set}
use lib.Seq.{sets}
use Rattle.varint.specs.Leb128.{put_u64}
use Rattle.varint.proofs.PutLaws.{put_small, put_big, put_length_64, put_some}
use Rattle.varint.proofs.StoreLaws.{sets_cons}

-- what is left of the varint, stored now, gives what all of it gives on the list at entry
pub record Left (d₀ : List ℕ) (at value : ℕ) (d : List ℕ) (v p : ℕ) : Type 0 where
  pub size : length d ≡ length d₀
  pub room : p + length (put_u64 v) ≡ at + length (put_u64 value)
  pub same : sets d p (put_u64 v) ≡ sets d₀ at (put_u64 value)

module _ {d₀ : List ℕ} {at value : ℕ} {d : List ℕ} {v p : ℕ} (l : Left d₀ at value d v p) where
  -- the next byte is one of ten
  pub left_near : value < 2 ^ 64 → p < at + 10
  left_near h = let r = l.room in omega (arith, put_some v, put_length_64 value h)

  -- the last byte
  pub left_last : v < 128 → p + 1 ≡ at + length (put_u64 value)
  left_last h = let r = l.room in omega (arith, ap length (put_small v h))

  pub left_step : {d' : List ℕ} → 128 ≤ v → d' ≡ set d p (v % 128 + 128) → Left d₀ at value d' (v / 128) (p + 1)
  left_step h s =
      let e = put_big v h in
      let r = l.room in
      record {
        size = ap length s ∙ simp length-set l.size;
        room = omega (arith, ap length e);
        same = ap (λ (x : List ℕ). sets x (p + 1) (put_u64 (v / 128))) s ∙ sym (sets_cons _ _ _ _ _ e) ∙ l.same;
      }

  pub left_done : {d' : List ℕ} → v < 128 → d' ≡ set d p v → d' ≡ sets d₀ at (put_u64 value)
  left_done h s = s ∙ sym (sets_cons _ _ _ _ _ (put_small v h)) ∙ l.same
