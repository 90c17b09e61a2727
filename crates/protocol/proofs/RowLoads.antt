-- The numbers of a row, put after a text or a descriptor, which stand before it in the row's piece.
use mathlib.Core.Path.{◌≡◌, refl, sym, ◌∙◌, ap}
use mathlib.Core.List.{List, [], ◌++◌}
use Prim.Native.Nat.{ℕ, ◌+◌, ◌*◌}
use native.Mathlib.Nat.{add-zero}
use native.Mathlib.Omega.{arith}
use lib.ListN.{length}
use Rattle.desc.specs.Layout.{width}
use Rattle.protocol.specs.Inner.Loading.{stored, Mem, put}
use Rattle.protocol.specs.Pieces.{Piece, cells, words, ◌⊕◌}
use Rattle.protocol.proofs.PieceLaws.{put_join}
use Rattle.protocol.proofs.RowStores.{stored_none}

-- numbers alone
abbrev with_row : List ℕ → Mem → Mem
with_row x m = record { check = m.check; limit = m.limit; text = m.text; t = m.t; rows = stored m.check m.rows m.r x; r = m.r + length x; nodes = m.nodes; n = m.n }

pub put_cells : (row : ℕ → ℕ → List ℕ) (m : Mem) → put (cells row) m ≡ with_row (row m.t m.n) m
put_cells row m =
    λ i. record {
      check = m.check;
      limit = m.limit;
      text = stored_none m.check m.text m.t i;
      t = add-zero m.t i;
      rows = stored m.check m.rows m.r (row m.t m.n);
      r = m.r + length (row m.t m.n);
      nodes = stored_none m.check m.nodes (m.n * width) i;
      n = add-zero m.n i;
    }

-- a piece without numbers may stand before them or after
row_first : (x : List ℕ) (p : Piece) (m : Mem) → ((t n : ℕ) → p.rows t n ≡ []) → with_row x (put p m) ≡ put p (with_row x m)
row_first x p m bare =
    let o = put p m in
    λ i. record {
      check = m.check;
      limit = m.limit;
      text = o.text;
      t = o.t;
      rows = rows i;
      r = r i;
      nodes = o.nodes;
      n = o.n;
    }
  where
    rows : stored m.check (stored m.check m.rows m.r (p.rows m.t m.n)) (m.r + length (p.rows m.t m.n)) x
        ≡ stored m.check (stored m.check m.rows m.r x) (m.r + length x) (p.rows m.t m.n)
    rows = rw (bare m.t m.n, stored_none m.check m.rows m.r, add-zero m.r) (sym (stored_none m.check (stored m.check m.rows m.r x) (m.r + length x)))

    r : m.r + length (p.rows m.t m.n) + length x ≡ m.r + length x + length (p.rows m.t m.n)
    r = omega arith

module _ (row : ℕ → ℕ → List ℕ) (p : Piece) (bare : (t n : ℕ) → p.rows t n ≡ []) (m : Mem) (x : List ℕ) {m₁ m₂ : Mem} where
  pub row_after : m₁ ≡ put p m → m₂ ≡ put (cells (λ t n. x)) m₁ → x ≡ row m.t m.n → m₂ ≡ put p (put (cells row) m)
  row_after h k e =
      k ∙ ap (λ (y : List ℕ). put (cells (λ t n. y)) m₁) e ∙ ap (put (cells (λ t n. row m.t m.n))) h
      ∙ put_cells (λ t n. row m.t m.n) (put p m) ∙ row_first (row m.t m.n) p m bare ∙ ap (put p) (sym (put_cells row m))

-- a row of numbers and a text
pub row_and_text : (row : ℕ → ℕ → List ℕ) (v : List ℕ) (m : Mem) (x : List ℕ) {m₁ m₂ : Mem} → m₁ ≡ put (words v) m → m₂ ≡ put (cells (λ t n. x)) m₁ → x ≡ row m.t m.n
    → m₂ ≡ put (cells row ⊕ words v) m
row_and_text row v m x h k e = row_after row (words v) (λ t n. refl) m x h k e ∙ sym (put_join (cells row) (words v) m (λ t n. refl))

-- numbers of a row, and more
pub more_numbers : (x y : List ℕ) (m : Mem) {m₁ m₂ : Mem} → m₁ ≡ put (cells (λ t n. x)) m → m₂ ≡ put (cells (λ t n. y)) m₁ → m₂ ≡ put (cells (λ t n. x ++ y)) m
more_numbers x y m h k = k ∙ ap (put (cells (λ t n. y))) h ∙ sym (put_join (cells (λ t n. x)) (cells (λ t n. y)) m (λ t n. refl))
