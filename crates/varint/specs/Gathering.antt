-- Taking a message's texts out of lent memory again: "for each text in reading order 19(1) past text's end, 4 not UTF-8".
use Rattle.std.specs.Prelude.{◌≡◌, refl, List, [], ◌∷◌, ℕ, ◌+◌, ltb, length}
use Rattle.varint.specs.Choice.{pick}
use Rattle.varint.specs.Stores.{part}
use Rattle.varint.specs.Utf8.{utf8, scan, lead}
use Rattle.varint.specs.declared.error.Fault.TheVariants.{Texts}
use Rattle.varint.specs.declared.error.Refusal.{Refusal}
use Rattle.varint.specs.declared.error.Refusal.TheVariants.{BadMessage, BadString}

-- what the memory holds, or what is wrong with it
pub data Held (A : Type 0) : Type 0 where
  held : A → Held A
  lacks : Refusal → Held A

abbrev pub then_held : {A B : Type 0} → Held A → (A → Held B) → Held B
then_held (held a) k = k a
then_held (lacks r) k = lacks r

-- the text of len bytes from place `start` on
unfoldable pub text_held : List ℕ → ℕ → ℕ → Held (List ℕ)
text_held tx start len =
    pick (ltb (length tx) (start + len)) (lacks (BadMessage Texts)) (pick (utf8 (part tx start len)) (held (part tx start len)) (lacks BadString))

-- a name: today a text
unfoldable pub name_held : List ℕ → ℕ → ℕ → Held (List ℕ)
name_held tx start len = text_held tx start len

example_held : text_held (0x61 ∷ 0x62 ∷ 0x63 ∷ []) 1 2 ≡ held (0x62 ∷ 0x63 ∷ [])
unfolding text_held utf8 scan lead part
example_held = refl

-- an empty text past the end is past the end too (point 18 of docs/DECISIONS.md)
example_past : text_held (0x61 ∷ []) 2 0 ≡ lacks (BadMessage Texts)
unfolding text_held
example_past = refl

example_not : text_held (0xFF ∷ []) 0 1 ≡ lacks BadString
unfolding text_held utf8 scan lead part
example_not = refl
