-- What the steps of the test of UTF-8 answer.
use Rattle.std.specs.Prelude.{Bool, true, false, ◌&&◌, ◌≡◌, List, [], ◌∷◌, ℕ, ◌+◌, ◌≤◌, ◌<◌, eqb, length, drop, get_or}
use Rattle.varint.specs.Choice.{pick}
use Rattle.varint.specs.Utf8.{Range, within, tail, utf8}

-- the range of the second octet of a character of three or four, by the first
unfoldable pub second : ℕ → Range
second a =
    pick (eqb a 0xE0) (0xA0, 0xBF)
    (pick (eqb a 0xED) (0x80, 0x9F) (pick (eqb a 0xF0) (0x90, 0xBF) (pick (eqb a 0xF4) (0x80, 0x8F) tail)))

-- s begins with the octets that the ranges ask for
unfoldable pub fit : List Range → List ℕ → Bool
fit [] s = true
fit (r ∷ rs) [] = false
fit (r ∷ rs) (a ∷ s) = within r a && fit rs s

-- the octets of s from place p to place q are ASCII
abbrev pub Ascii : List ℕ → ℕ → ℕ → Type 0
Ascii s p q = (k : ℕ) → p ≤ k → k < q → get_or s k 0 < 128

-- whole characters stand from place p of s to place q
pub record Passed (s : List ℕ) (p q : ℕ) : Type 0 where
  pub ahead : p ≤ q
  pub ends : q ≤ length s
  pub same : utf8 (drop p s) ≡ utf8 (drop q s)

-- the character at place p of s has w octets; where there is none, w is 0
pub record Char (s : List ℕ) (p w : ℕ) : Type 0 where
  pub none : w ≡ 0 → utf8 (drop p s) ≡ false
  pub some : 0 < w → Passed s p (p + w)
