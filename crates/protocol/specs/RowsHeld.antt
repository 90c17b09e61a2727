-- Rows in lent memory: "19(2) row count times width over rows", and the rows one after the other.
use Rattle.std.specs.Prelude.{Bool, true, false, ◌&&◌, ◌≡◌, refl, List, [], ◌∷◌, ℕ, zero, suc, ◌+◌, ◌*◌, ltb, leb, length, get_or}
use Rattle.varint.specs.Choice.{pick}
use Rattle.varint.specs.Gathering.{Held, held, lacks, then_held}
use Rattle.varint.specs.declared.error.Fault.TheVariants.{RowCount, Number}
use Rattle.varint.specs.declared.error.Refusal.TheVariants.{BadMessage}

-- there are rows enough for `count` of so many numbers
abbrev pub enough : {A : Type 0} → ℕ → ℕ → List ℕ → Held A → Held A
enough width count rs h = pick (ltb (length rs) (count * width)) (lacks (BadMessage RowCount)) h

-- `count` things from number r on, each in a row of so many numbers
unfoldable pub held_times : {A : Type 0} → (ℕ → Held A) → ℕ → ℕ → ℕ → Held (List A)
held_times row width zero r = held []
held_times row width (suc n) r = then_held (row r) (λ a. then_held (held_times row width n (r + width)) (λ l. held (a ∷ l)))

-- is every row good?
unfoldable pub all_good : (ℕ → Bool) → ℕ → ℕ → ℕ → Bool
all_good good width zero r = true
all_good good width (suc n) r = good r && all_good good width n (r + width)

-- "19(4) a flag over 1 or a type id over 32 bits", of any row before any text is looked at
abbrev pub numbers_good : {A : Type 0} → Bool → Held A → Held A
numbers_good good h = pick good h (lacks (BadMessage Number))

example_rows : held_times {A = ℕ} (λ r. held (get_or (7 ∷ 8 ∷ 9 ∷ 10 ∷ []) r 0)) 2 2 0 ≡ held (7 ∷ 9 ∷ [])
unfolding held_times
example_rows = refl

example_few : enough {A = ℕ} 3 1 (7 ∷ 8 ∷ []) (held 0) ≡ lacks (BadMessage RowCount)
example_few = refl

example_good : all_good (λ r. leb (get_or (1 ∷ 5 ∷ []) r 0) 1) 1 2 0 ≡ false
unfolding all_good
example_good = refl
