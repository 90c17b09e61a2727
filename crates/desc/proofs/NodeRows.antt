-- The numbers of a node are a chunk of the table.
use mathlib.Core.Path.{◌≡◌, refl, ap, ◌∙◌}
use mathlib.Core.List.{List, [], ◌∷◌}
use Prim.Native.Nat.{ℕ, zero, suc, ◌+◌, ◌*◌, ◌/◌, ◌≤◌, ◌<◌}
use native.Mathlib.Omega.{arith}
use native.Mathlib.Nat.{suc-mul, zero-mul}
use lib.ListN.{length, get_or, take, drop}
use Rattle.std.proofs.Common.{Bor}
use Rattle.std.specs.List.{HoldsAt}
use Rattle.std.specs.Option.{MatchOption}
use Rattle.std.specs.Prelude.{Option, Some, None}
use Rattle.std.specs.Simd.{first_chunks}
use Rattle.std.proofs.lemmas.List.{get_or-drop, drop-drop, length-drop}
use Rattle.desc.specs.Inner.Rows.{row_at}

chunk_at : (n k i : ℕ) (l : List ℕ) → i < k → get_or (first_chunks n k l) i [] ≡ take n (drop (i * n) l)
chunk_at n zero i l h = absurd (omega arith)
chunk_at n (suc k) zero l h = rw (zero-mul n) refl
chunk_at n (suc k) (suc i) l h =
    let e : n + i * n ≡ suc i * n = omega (arith, suc-mul i n) in
    chunk_at n k i (drop n l) (omega arith) ∙ ap (take n) (drop-drop (i * n) n l ∙ ap (λ (m : ℕ). drop m l) e)

-- the first seven of a list
seven : (l : List ℕ) → 7 ≤ length l
    → take 7 l ≡ get_or l 0 0 ∷ get_or l 1 0 ∷ get_or l 2 0 ∷ get_or l 3 0 ∷ get_or l 4 0 ∷ get_or l 5 0 ∷ get_or l 6 0 ∷ []
seven (a ∷ b ∷ c ∷ d ∷ e ∷ f ∷ g ∷ l) h = refl
seven [] h = absurd (omega arith)
seven (a ∷ []) h = absurd (omega arith)
seven (a ∷ b ∷ []) h = absurd (omega arith)
seven (a ∷ b ∷ c ∷ []) h = absurd (omega arith)
seven (a ∷ b ∷ c ∷ d ∷ []) h = absurd (omega arith)
seven (a ∷ b ∷ c ∷ d ∷ e ∷ []) h = absurd (omega arith)
seven (a ∷ b ∷ c ∷ d ∷ e ∷ f ∷ []) h = absurd (omega arith)

pub row_is : (nd : List ℕ) (n : ℕ) → n < length nd / 7 → get_or (first_chunks 7 (length nd / 7) nd) n [] ≡ row_at nd n
row_is nd n h =
    let long : 7 ≤ length (drop (n * 7) nd) = omega (arith, length-drop (n * 7) nd) in
    let col = λ (c : ℕ). get_or-drop (n * 7) nd c 0 in
    chunk_at 7 (length nd / 7) n nd h ∙ seven (drop (n * 7) nd) long ∙ rw (col 0, col 1, col 2, col 3, col 4, col 5, col 6) refl

-- what reading the chunks at a place gives
pub row_of : (nd : List ℕ) (n : ℕ) (rows : List (List ℕ)) → rows ≡ first_chunks 7 (length nd / 7) nd → length rows ≡ length nd / 7
    → (r : Option (Bor (List ℕ))) → MatchOption r (length rows ≤ n) (λ x. (n < length rows) × HoldsAt (λ y. x.now ≡ y) rows n)
    → MatchOption r (length nd / 7 ≤ n) (λ x. (n < length nd / 7) × (x.now ≡ row_at nd n))
row_of nd n rows is long None h = omega arith
row_of nd n rows is long (Some x) h =
    let inside : n < length nd / 7 = let l = h.0 in omega arith in
    (inside, h.1 [] ∙ ap (λ (l : List (List ℕ)). get_or l n []) is ∙ row_is nd n inside)
