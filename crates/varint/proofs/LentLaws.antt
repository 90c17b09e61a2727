-- What fits in lent memory, and what does not.
use mathlib.Core.Bool.{true, false}
use mathlib.Core.Path.{◌≡◌, ◌∙◌}
use mathlib.Core.List.{List}
use Prim.Native.Nat.{ℕ, ◌≤◌, ◌<◌}
use native.Mathlib.Omega.{arith}
use lib.Dec.{ltb}
use lib.ListN.{length}
use lib.Seq.{sets}
use borrow.Author.Tests.{lt-ltb, le-ltb}
use Rattle.std.specs.Prelude.{Ok}
use Rattle.varint.specs.Lent.{kept, Taken, fitted}
use Rattle.varint.specs.Stores.{clear_from, filled}
use Rattle.varint.specs.declared.error.Buffer.TheVariants.{Text, Rows, Nodes}
use Rattle.varint.specs.declared.error.Refusal.TheVariants.{TooSmall}
use Rattle.varint.proofs.StoreLaws.{filled_steps}

-- a buffer lent for x, of n elements
module _ (d x : List ℕ) {n : ℕ} (z : n ≡ length x) where
  over : length d < n → ltb (length d) (length x) ≡ true
  over h = lt-ltb (length d) (length x) (omega arith)

  fits : n ≤ length d → ltb (length d) (length x) ≡ false
  fits h = le-ltb (length d) (length x) (omega arith)

  -- stored from the start, and cleared behind it
  fills : n ≤ length d → {d₁ d₂ : List ℕ} → d₁ ≡ sets d 0 x → d₂ ≡ clear_from d₁ n → d₂ ≡ filled d x
  fills h e f = f ∙ rw (e, z) (filled_steps d x (omega arith))

-- so many bytes of text and numbers of rows and nodes
pub record Takes (k : Taken) (t r n : ℕ) : Type 0 where
  pub text : t ≡ length k.text
  pub rows : r ≡ length k.rows
  pub nodes : n ≡ length k.nodes

module _ {A : Type 0} (a : A) (k : Taken) {t r n : ℕ} (z : Takes k t r n) (tx rs nd : List ℕ) where
  pub fitted_text : length tx < t → kept (TooSmall Text t) tx rs nd ≡ fitted a k tx rs nd
  unfolding fitted
  fitted_text h = rw (z.text, over tx k.text z.text h)

  module _ (i : t ≤ length tx) where
    pub fitted_rows : length rs < r → kept (TooSmall Rows r) tx rs nd ≡ fitted a k tx rs nd
    unfolding fitted
    fitted_rows h = rw (z.rows, fits tx k.text z.text i, over rs k.rows z.rows h)

    module _ (j : r ≤ length rs) where
      pub fitted_nodes : length nd < n → kept (TooSmall Nodes n) tx rs nd ≡ fitted a k tx rs nd
      unfolding fitted
      fitted_nodes h = rw (z.nodes, fits tx k.text z.text i, fits rs k.rows z.rows j, over nd k.nodes z.nodes h)

      -- all was stored from the start, and cleared behind
      pub fitted_all : n ≤ length nd → {tx₁ rs₁ nd₁ tx₂ rs₂ nd₂ : List ℕ}
          → tx₁ ≡ sets tx 0 k.text → rs₁ ≡ sets rs 0 k.rows → nd₁ ≡ sets nd 0 k.nodes
          → tx₂ ≡ clear_from tx₁ t → rs₂ ≡ clear_from rs₁ r → nd₂ ≡ clear_from nd₁ n
          → record { answer = Ok a; text = tx₂; rows = rs₂; nodes = nd₂ } ≡ fitted a k tx rs nd
      unfolding fitted
      fitted_all c e f g e₂ f₂ g₂ =
          let x = fills tx k.text z.text i e e₂ in
          let y = fills rs k.rows z.rows j f f₂ in
          let w = fills nd k.nodes z.nodes c g g₂ in
          rw (x, y, w, fits tx k.text z.text i, fits rs k.rows z.rows j, fits nd k.nodes z.nodes c)
