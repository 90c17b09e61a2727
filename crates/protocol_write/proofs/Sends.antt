-- A result of a size that is known: too long, too long for the buffer, or written.
use mathlib.Core.Path.{◌≡◌}
use mathlib.Core.List.{List}
use Prim.Native.Nat.{ℕ, ◌≤◌, ◌<◌}
use native.Mathlib.Omega.{arith}
use lib.ListN.{length}
use lib.Seq.{sets}
use borrow.Author.Tests.{lt-ltb, le-ltb}
use Rattle.varint.specs.Outs.{declared, send, wrote}
use Rattle.varint.specs.Stores.{clear_from, filled}
use Rattle.varint.specs.declared.error.Buffer.TheVariants.{Out}
use Rattle.varint.specs.declared.error.Refusal.TheVariants.{BlockTooLarge, TooSmall}
use Rattle.varint.proofs.OutLaws.{out_refused, out_wrote}
use Rattle.std.specs.Prelude.{Result, Ok, Err}
use Rattle.varint.specs.declared.error.Refusal.{Refusal}

module _ (max : ℕ) (x d : List ℕ) (n : ℕ) (size : n ≡ declared (length x)) where
  pub send_big : max < n → record { answer = Err (BlockTooLarge n max); out = d } ≡ send max x d
  unfolding send
  send_big h = let b : max < length x = omega arith in rw (size, lt-ltb max (length x) b)

  module _ (small : n ≤ max) (bound : max ≤ 4294967296) where
    size_is : n ≡ length x
    size_is = omega arith

    fits : (A : Result ℕ Refusal) (o : List ℕ) → (A ≡ wrote d x) × (o ≡ filled d x) → record { answer = A; out = o } ≡ send max x d
    unfolding send
    fits A o p = let b : length x ≤ max = omega (arith, size_is) in rw (p.0, p.1, le-ltb max (length x) b)

    pub send_small : length d < n → record { answer = Err (TooSmall Out n); out = d } ≡ send max x d
    send_small h = fits (Err (TooSmall Out n)) d (out_refused d x n size_is h)

    pub send_done : {d₁ d₂ : List ℕ} → n ≤ length d → d₁ ≡ sets d 0 x → d₂ ≡ clear_from d₁ n → record { answer = Ok n; out = d₂ } ≡ send max x d
    send_done {d₁} {d₂} h e f = fits (Ok n) d₂ (out_wrote d x n size_is h e f)
