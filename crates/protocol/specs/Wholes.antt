-- A payload as a whole: what may be left over, and what is tested last.
use Rattle.std.specs.Prelude.{◌≡◌, refl, List, [], ◌∷◌, ℕ, ◌-◌, ltb, length, Ok, Err}
use Rattle.varint.specs.Choice.{pick}
use Rattle.varint.specs.Got.{Got, then}
use Rattle.varint.specs.Formats.{varint}
use Rattle.varint.specs.Leb128.{read_from, get_u64}
use Rattle.varint.specs.declared.error.Mismatch.TheVariants as M
use Rattle.varint.specs.declared.error.Refusal.TheVariants.{TrailingBytes, TypeMismatch}
use Rattle.protocol.specs.Fields.{narrow}

-- "1, 2, 4, 7 to 9, 11 and 12 refuse bytes left over by 10."
abbrev pub ended : {A : Type 0} → List ℕ → Got A → Got A
ended s g = then g (λ a q. pick (ltb q (length s)) (Err (TrailingBytes (length s - q))) (Ok (a, q)))

-- "In both, 10 comes before 9(2)": a version over 32 bits
abbrev pub versioned : {A : Type 0} → (A → ℕ) → Got A → Got A
versioned version g = then g (λ a q. pick (narrow (version a)) (Ok (a, q)) (Err (TypeMismatch M.Version)))

-- a wide version and a byte too many: the byte is told
example_order : versioned (λ v. v) (ended (0x80 ∷ 0x80 ∷ 0x80 ∷ 0x80 ∷ 0x10 ∷ 0x00 ∷ []) (varint.read (0x80 ∷ 0x80 ∷ 0x80 ∷ 0x80 ∷ 0x10 ∷ 0x00 ∷ []) 0)) ≡ Err (TrailingBytes 1)
unfolding get_u64 read_from
example_order = refl

example_version : versioned (λ v. v) (ended (0x80 ∷ 0x80 ∷ 0x80 ∷ 0x80 ∷ 0x10 ∷ []) (varint.read (0x80 ∷ 0x80 ∷ 0x80 ∷ 0x80 ∷ 0x10 ∷ []) 0)) ≡ Err (TypeMismatch M.Version)
unfolding get_u64 read_from
example_version = refl
