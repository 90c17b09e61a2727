-- The display slot: "A text is put in a slot of n bytes: its first n bytes, then spaces (hexadecimal 20)."
use Rattle.std.specs.Prelude.{◌≡◌, refl, List, [], ◌∷◌, ◌++◌, ℕ, ◌+◌, ◌-◌, ltb, length, take, replicate, Result, Ok, Err}
use Rattle.varint.specs.Choice.{pick}
use Rattle.varint.specs.Stores.{part}
use Rattle.varint.specs.declared.error.Fault.TheVariants.{Texts}
use Rattle.varint.specs.declared.error.Refusal.TheVariants.{BadMessage}
use Rattle.varint.specs.declared.error.Refusal.{Refusal}

pub record Slot : Type 0 where
  pub answer : Result (Unit {0}) Refusal
  pub slot : List ℕ

unfoldable pub slot_of : (n : ℕ) → List ℕ → List ℕ
slot_of n s = take n s ++ replicate (n - length s) 0x20

-- "19(1) if it runs past text; slot kept."
unfoldable pub put_slot : (text : List ℕ) → (start len : ℕ) → (slot : List ℕ) → Slot
put_slot text start len slot =
    pick (ltb (length text) (start + len))
    (record { answer = Err (BadMessage Texts); slot = slot })
    (record { answer = Ok tt; slot = slot_of (length slot) (part text start len) })

-- "Insulin" where "Morphine" stood
example_insulin : put_slot (0x49 ∷ 0x6E ∷ 0x73 ∷ 0x75 ∷ 0x6C ∷ 0x69 ∷ 0x6E ∷ []) 0 7 (0x4D ∷ 0x6F ∷ 0x72 ∷ 0x70 ∷ 0x68 ∷ 0x69 ∷ 0x6E ∷ 0x65 ∷ [])
    ≡ record { answer = Ok tt; slot = 0x49 ∷ 0x6E ∷ 0x73 ∷ 0x75 ∷ 0x6C ∷ 0x69 ∷ 0x6E ∷ 0x20 ∷ [] }
unfolding put_slot slot_of part
example_insulin = refl

-- a narrow slot has the first bytes
example_narrow : put_slot (1 ∷ 2 ∷ 3 ∷ 4 ∷ []) 1 3 (9 ∷ 9 ∷ []) ≡ record { answer = Ok tt; slot = 2 ∷ 3 ∷ [] }
unfolding put_slot slot_of part
example_narrow = refl

example_past : put_slot (1 ∷ 2 ∷ []) 1 2 (9 ∷ 9 ∷ []) ≡ record { answer = Err (BadMessage Texts); slot = 9 ∷ 9 ∷ [] }
unfolding put_slot
example_past = refl
