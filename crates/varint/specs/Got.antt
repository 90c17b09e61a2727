-- What is read at a place, with the place after it; or why nothing is.
use Rattle.std.specs.Prelude.{◌≡◌, refl, [], ◌∷◌, ℕ, ◌+◌, Result, Ok, Err}
use Rattle.varint.specs.declared.error.Refusal.{Refusal}
use Rattle.varint.specs.declared.error.Refusal.TheVariants.{UnexpectedEof}

abbrev pub Got : Type 0 → Type 0
Got A = Result (A × ℕ) Refusal

-- with what is read, and from the place after it, go on
abbrev pub then : {A B : Type 0} → Got A → (A → ℕ → Got B) → Got B
then (Ok (a, next)) k = k a next
then (Err r) k = Err r

-- `Ok (a, next)` as a `Got`: for an equation in which nothing else tells that what goes wrong is a refusal
abbrev pub got : {A : Type 0} → A → ℕ → Got A
got a next = Ok (a, next)

-- 7 was read up to place 3: what goes on from there gets both
example_then : then (got {A = ℕ} 7 3) (λ a next. got (a ∷ next ∷ []) (next + 1)) ≡ got (7 ∷ 3 ∷ []) 4
example_then = refl

-- after a refusal nothing more is read
example_refused : then {A = ℕ} (Err UnexpectedEof) (λ a next. got (a + 1) next) ≡ Err UnexpectedEof
example_refused = refl

example_got : got {A = ℕ} 7 3 ≡ Ok (7, 3)
example_got = refl
