-- Parts of a list, and lent buffers after a store. A store of one element is the library's `set`, a run of stores its
-- `sets`: past the end of the list both do nothing.
use Rattle.std.specs.Prelude.{◌≡◌, refl, List, [], ◌∷◌, ◌++◌, ℕ, ◌-◌, ltb, length, take, drop, replicate}
use Rattle.varint.specs.Choice.{pick}

-- the n elements of s from place `from` on, as far as s goes
unfoldable pub part : List ℕ → ℕ → ℕ → List ℕ
part s from n = take n (drop from s)

-- d with x in each place from `at` on
unfoldable pub fill_from : {A : Type 0} → A → List A → ℕ → List A
fill_from x d at = take at d ++ replicate (length d - at) x

-- d with zeros from place `at` on
abbrev pub clear_from : List ℕ → ℕ → List ℕ
clear_from d at = fill_from 0 d at

-- The buffer d lent for x as a whole: "the payload, then zeros", and kept where x does not fit.
unfoldable pub filled : List ℕ → List ℕ → List ℕ
filled d x = pick (ltb (length d) (length x)) d (x ++ replicate (length d - length x) 0)

example_part : part (1 ∷ 2 ∷ 3 ∷ []) 1 5 ≡ 2 ∷ 3 ∷ []
unfolding part
example_part = refl

example_filled : filled (9 ∷ 9 ∷ 9 ∷ []) (1 ∷ []) ≡ 1 ∷ 0 ∷ 0 ∷ []
unfolding filled
example_filled = refl

example_kept : filled (9 ∷ []) (1 ∷ 2 ∷ []) ≡ 9 ∷ []
unfolding filled
example_kept = refl

example_spaces : fill_from {A = ℕ} 0x20 (7 ∷ 8 ∷ 9 ∷ []) 1 ≡ 7 ∷ 0x20 ∷ 0x20 ∷ []
unfolding fill_from
example_spaces = refl

example_cleared : clear_from (7 ∷ 8 ∷ 9 ∷ []) 1 ≡ 7 ∷ 0 ∷ 0 ∷ []
unfolding fill_from
example_cleared = refl
