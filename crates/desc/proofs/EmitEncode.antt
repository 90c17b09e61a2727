-- The ways out of the encoder: a refusal of the table or of a name; a descriptor that is too long, that does not fit, or that is written.
use mathlib.Core.Path.{◌≡◌, refl, sym, ap, ◌∙◌}
use mathlib.Core.List.{List}
use Prim.Native.Nat.{ℕ, ◌≤◌, ◌<◌}
use native.Mathlib.Omega.{arith}
use lib.ListN.{length}
use borrow.Author.Tests.{lt-ltb, le-ltb}
use Rattle.varint.specs.Gathering.{Held, lacks}
use Rattle.varint.specs.Outs.{declared, send, wrote, sent}
use Rattle.varint.specs.Stores.{clear_from, filled}
use Rattle.varint.specs.declared.error.Buffer.TheVariants.{Out}
use Rattle.varint.specs.declared.error.Refusal.{Refusal}
use Rattle.varint.specs.declared.error.Refusal.TheVariants.{BlockTooLarge, TooSmall}
use Rattle.varint.proofs.OutLaws.{out_refused, out_wrote}
use Rattle.desc.specs.Emitting.{Pen}
use Rattle.desc.specs.Inner.Emission.{put_at}
use Rattle.desc.specs.Encoding.{held_in, encode_desc}
use Rattle.desc.specs.Printing.{print}
use Rattle.desc.specs.Table.{table}
use Rattle.desc.specs.Trees.{Tree}
use Rattle.desc.proofs.EmitPrint.{Roomy}
use Rattle.desc.proofs.EmitWhole.{Whole, whole_stored}
use Rattle.std.specs.Prelude.{Result, Ok, Err}

module _ (max limit : ℕ) (tx nd d : List ℕ) where
  pub encode_refused : (r : Refusal) → held_in (table limit nd 0 0) tx ≡ lacks r → record { answer = Err r; out = d } ≡ encode_desc max limit tx nd d
  unfolding encode_desc sent
  encode_refused r h = rw h

  module _ (e a : ℕ) (w : Whole tx (table limit nd 0 0) e a) where
    sends : send max (print w.tree) d ≡ encode_desc max limit tx nd d
    unfolding encode_desc sent
    sends = ap (λ (H : Held (Tree (List ℕ))). sent max print H d) (sym w.is)

    pub encode_big : max < a → record { answer = Err (BlockTooLarge a max); out = d } ≡ encode_desc max limit tx nd d
    unfolding send
    encode_big h =
        let x = print w.tree in
        let z : a ≡ declared (length x) = w.size in
        let b : max < length x = omega arith in
        rw (z, lt-ltb max (length x) b) refl ∙ sends

    module _ (small : a ≤ max) (bound : max ≤ 4294967296) where
      size_is : a ≡ length (print w.tree)
      size_is = let z : a ≡ declared (length (print w.tree)) = w.size in omega arith

      fits : (A : Result ℕ Refusal) (o : List ℕ) → (A ≡ wrote d (print w.tree)) × (o ≡ filled d (print w.tree))
          → record { answer = A; out = o } ≡ encode_desc max limit tx nd d
      unfolding send
      fits A o p =
          let b : length (print w.tree) ≤ max = rw (← size_is) small in
          rw (p.0, p.1, le-ltb max (length (print w.tree)) b) refl ∙ sends

      pub encode_small : length d < a → record { answer = Err (TooSmall Out a); out = d } ≡ encode_desc max limit tx nd d
      encode_small h = fits (Err (TooSmall Out a)) d (out_refused d (print w.tree) a size_is h)

      pub encode_done : (s₁ : Pen) (d₂ : List ℕ) → length d < 18446744073709551616 → a ≤ length d
          → s₁ ≡ put_at tx (table limit nd 0 0) (record { out = d; place = 0 }) → d₂ ≡ clear_from s₁.out a
          → record { answer = Ok a; out = d₂ } ≡ encode_desc max limit tx nd d
      encode_done s₁ d₂ l h is c =
          let r : Roomy (record { out = d; place = 0 }) = record { short = omega arith; inside = omega arith } in
          fits (Ok a) d₂ (out_wrote d (print w.tree) a size_is h (whole_stored w (record { out = d; place = 0 }) s₁ r is) c)
