-- Runs of varints, one behind the other, read up to the first that is refused. "5 ids: count, raw ids; bytes after ignored." has such a run behind its count.
use Rattle.std.specs.Prelude.{◌≡◌, refl, List, [], ◌∷◌, ℕ, zero, suc, Result, Ok, Err}
use Rattle.varint.specs.Leb128.{read_from, get_u64}
use Rattle.varint.specs.declared.error.Refusal.TheVariants.{UnexpectedEof, VarintNotMinimal}
use Rattle.varint.specs.declared.error.Refusal.{Refusal}

-- the values, up to the first varint that is refused
unfoldable pub values_of : ℕ → List ℕ → ℕ → List ℕ
values_of zero s at = []
values_of (suc n) s at = elim (get_u64 s at) [ Ok (v, next) ↦ v ∷ values_of n s next | Err e ↦ [] ]

-- the place after the last, or the first refusal
unfoldable pub end_of : ℕ → List ℕ → ℕ → Result ℕ Refusal
end_of zero s at = Ok at
end_of (suc n) s at = elim (get_u64 s at) [ Ok (v, next) ↦ end_of n s next | Err e ↦ Err e ]

example_values : values_of 2 (0xFF ∷ 5 ∷ 0xAC ∷ 2 ∷ 7 ∷ []) 1 ≡ 5 ∷ 300 ∷ []
unfolding values_of get_u64 read_from
example_values = refl

example_end : end_of 2 (0xFF ∷ 5 ∷ 0xAC ∷ 2 ∷ 7 ∷ []) 1 ≡ Ok 4
unfolding end_of get_u64 read_from
example_end = refl

-- of three the second is refused
example_stopped : values_of 3 (5 ∷ 0x80 ∷ 0 ∷ 7 ∷ []) 0 ≡ 5 ∷ []
unfolding values_of get_u64 read_from
example_stopped = refl

example_refused : end_of 3 (5 ∷ 0x80 ∷ 0 ∷ 7 ∷ []) 0 ≡ Err VarintNotMinimal
unfolding end_of get_u64 read_from
example_refused = refl

example_short : end_of 2 (5 ∷ []) 0 ≡ Err UnexpectedEof
unfolding end_of get_u64 read_from
example_short = refl
