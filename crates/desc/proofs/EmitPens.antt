-- Steps of the small writers.
use mathlib.Core.Path.{◌≡◌, refl, sym, ap, ◌∙◌}
use mathlib.Core.List.{List}
use Prim.Native.Nat.{ℕ, ◌+◌, ◌≤◌, ◌<◌}
use native.Mathlib.Omega.{arith}
use lib.Dec.{eqb}
use borrow.Author.Tests.{eq-eqb, ne_eqb}
use lib.ListN.{length, get_or, set}
use Rattle.varint.specs.Outs.{declared}
use Rattle.varint.proofs.PutLaws.{put_small}
use Rattle.desc.specs.Emitting.{Pen, put_bytes, put_number, put_name}
use Rattle.desc.specs.Inner.Emission.{put_before, emission, told, put_where, put_label}
use Rattle.desc.specs.Layout.{NameSpan}
use Rattle.desc.specs.Trees.{Tree}
use Rattle.std.specs.Prelude.{Option}
use Rattle.varint.specs.Got.{Got}

-- a number that stands only at one tag
pub where_yes : (tag k v : ℕ) (s s₁ : Pen) → tag ≡ k → s₁ ≡ put_number v s → s₁ ≡ put_where (eqb tag k) v s
unfolding put_where
where_yes tag k v s s₁ h e = rw (eq-eqb tag k h) e

pub where_no : (tag k v : ℕ) (s s₁ : Pen) → (tag ≡ k → ⊥) → s₁ ≡ s → s₁ ≡ put_where (eqb tag k) v s
unfolding put_where
where_no tag k v s s₁ h e = rw (ne_eqb tag k h) e

module _ (tx : List ℕ) (parent : ℕ) (row : List ℕ) (s : Pen) where
  pub before_root : parent ≡ 0 → s ≡ put_before tx parent row s
  unfolding put_before
  before_root h = rw (eq-eqb parent 0 h) refl

  pub before_part : (parent ≡ 0 → ⊥) → put_before tx parent row s ≡ put_label tx parent (get_or row 1 0, get_or row 2 0) (get_or row 3 0) s
  unfolding put_before
  before_part h = rw (ne_eqb parent 0 h) refl

  pub label_steps : (s₁ s₂ s₃ : Pen) → (parent ≡ 0 → ⊥) → s₁ ≡ put_number (get_or row 2 0) s → s₂ ≡ put_name tx (get_or row 1 0, get_or row 2 0) s₁
      → s₃ ≡ put_where (eqb parent 4) (get_or row 3 0) s₂ → s₃ ≡ put_before tx parent row s
  unfolding put_label
  label_steps s₁ s₂ s₃ z p q r = rw (r, q, p, before_part z) refl

-- what writing a root tells, by the variant of its answer
pub at_root : (tx row : List ℕ) (D : Got (Tree NameSpan)) (s o : Pen) {R answer : Option ℕ} → told R o ≡ emission tx D (put_before tx 0 row s) → R ≡ answer
    → told answer o ≡ emission tx D s
unfolding put_before
at_root tx row D s o h e = ap (λ (x : Option ℕ). told x o) (sym e) ∙ h

-- a number that has one byte
pub one_byte : (v at : ℕ) (d o : List ℕ) → v < 128 → at < length d → length d ≤ 18446744073709551615 → o ≡ set d at v
    → record { out = o; place = at + 1 } ≡ put_number v (record { out = d; place = at })
unfolding put_number put_bytes
one_byte v at d o small inside short h =
    let e : at + 1 ≡ declared (at + 1) = omega arith in
    rw (put_small v small, h, ← e)
