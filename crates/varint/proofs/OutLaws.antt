-- A buffer that is lent for x as a whole: the ways out of a writer.
use mathlib.Core.Path.{◌≡◌, sym, ◌∙◌}
use mathlib.Core.List.{List}
use Prim.Native.Nat.{ℕ, ◌≤◌, ◌<◌}
use lib.ListN.{length}
use lib.Seq.{sets}
use borrow.Author.Tests.{lt-ltb, le-ltb}
use Rattle.varint.specs.Outs.{wrote}
use Rattle.varint.specs.Stores.{clear_from, filled}
use Rattle.varint.specs.declared.error.Buffer.TheVariants.{Out}
use Rattle.varint.specs.declared.error.Refusal.TheVariants.{TooSmall}
use Rattle.varint.proofs.StoreLaws.{filled_not, filled_steps}
use Rattle.std.specs.Prelude.{Ok, Err}

module _ (d x : List ℕ) (n : ℕ) (size : n ≡ length x) where
  -- x does not fit: the buffer is kept
  pub out_refused : length d < n → (Err (TooSmall Out n) ≡ wrote d x) × (d ≡ filled d x)
  unfolding wrote
  out_refused h = let k : length d < length x = rw size at h in (rw (size, lt-ltb (length d) (length x) k), sym (filled_not d x k))

  -- x is stored from the start, and what follows it is cleared
  pub out_wrote : {d₁ d₂ : List ℕ} → n ≤ length d → d₁ ≡ sets d 0 x → d₂ ≡ clear_from d₁ n → (Ok n ≡ wrote d x) × (d₂ ≡ filled d x)
  unfolding wrote
  out_wrote h e f =
      let k : length x ≤ length d = rw size at h in
      (rw (size, le-ltb (length d) (length x) k), f ∙ rw (e, size) (filled_steps d x k))
