-- UTF-8: the grammar of RFC 3629, section 4, rule by rule, and a test that computes it.
-- (`accepted_grammar` and `grammar_accepted` of proofs/Utf8Grammar.antt: the test says yes exactly of what the grammar derives.)
use Rattle.std.specs.Prelude.{Bool, true, false, ◌&&◌, ◌≡◌, refl, List, [], ◌∷◌, ◌++◌, ℕ, ◌+◌, ◌≤◌, leb, length}
use Rattle.std.proofs.Common.{lit≤}
use Rattle.varint.specs.Choice.{pick}
use Rattle.varint.specs.Stores.{part}

-- %xLO-HI
abbrev pub In : ℕ → ℕ → ℕ → Type 0
In lo hi a = (lo ≤ a) × (a ≤ hi)

-- UTF8-tail = %x80-BF
abbrev pub Tail : ℕ → Type 0
Tail a = In 0x80 0xBF a

-- UTF8-char = UTF8-1 / UTF8-2 / UTF8-3 / UTF8-4
pub data Utf8Char : List ℕ → Type 0 where
  -- UTF8-1 = %x00-7F
  utf8_1 : {a : ℕ} → In 0x00 0x7F a → Utf8Char (a ∷ [])
  -- UTF8-2 = %xC2-DF UTF8-tail
  utf8_2 : {a b : ℕ} → In 0xC2 0xDF a → Tail b → Utf8Char (a ∷ b ∷ [])
  -- UTF8-3 = %xE0 %xA0-BF UTF8-tail / %xE1-EC 2( UTF8-tail ) / %xED %x80-9F UTF8-tail / %xEE-EF 2( UTF8-tail )
  utf8_3_e0 : {b c : ℕ} → In 0xA0 0xBF b → Tail c → Utf8Char (0xE0 ∷ b ∷ c ∷ [])
  utf8_3_e1 : {a b c : ℕ} → In 0xE1 0xEC a → Tail b → Tail c → Utf8Char (a ∷ b ∷ c ∷ [])
  utf8_3_ed : {b c : ℕ} → In 0x80 0x9F b → Tail c → Utf8Char (0xED ∷ b ∷ c ∷ [])
  utf8_3_ee : {a b c : ℕ} → In 0xEE 0xEF a → Tail b → Tail c → Utf8Char (a ∷ b ∷ c ∷ [])
  -- UTF8-4 = %xF0 %x90-BF 2( UTF8-tail ) / %xF1-F3 3( UTF8-tail ) / %xF4 %x80-8F 2( UTF8-tail )
  utf8_4_f0 : {b c d : ℕ} → In 0x90 0xBF b → Tail c → Tail d → Utf8Char (0xF0 ∷ b ∷ c ∷ d ∷ [])
  utf8_4_f1 : {a b c d : ℕ} → In 0xF1 0xF3 a → Tail b → Tail c → Tail d → Utf8Char (a ∷ b ∷ c ∷ d ∷ [])
  utf8_4_f4 : {b c d : ℕ} → In 0x80 0x8F b → Tail c → Tail d → Utf8Char (0xF4 ∷ b ∷ c ∷ d ∷ [])

-- UTF8-octets = *( UTF8-char )
pub data Utf8Octets : List ℕ → Type 0 where
  none : Utf8Octets []
  char : {c s : List ℕ} → Utf8Char c → Utf8Octets s → Utf8Octets (c ++ s)

-- a range of octets, by its ends
abbrev pub Range : Type 0
Range = ℕ × ℕ

abbrev pub within : Range → ℕ → Bool
within r a = leb r.0 a && leb a r.1

abbrev pub tail : Range
tail = (0x80, 0xBF)

-- The rules again as rows of a table: the range of a first octet, and the ranges of the octets after it.
abbrev pub Rule : Type 0
Rule = Range × List Range

abbrev pub rules : List Rule
rules =
    ((0x00, 0x7F), [])
    ∷ ((0xC2, 0xDF), tail ∷ [])
    ∷ ((0xE0, 0xE0), (0xA0, 0xBF) ∷ tail ∷ [])
    ∷ ((0xE1, 0xEC), tail ∷ tail ∷ [])
    ∷ ((0xED, 0xED), (0x80, 0x9F) ∷ tail ∷ [])
    ∷ ((0xEE, 0xEF), tail ∷ tail ∷ [])
    ∷ ((0xF0, 0xF0), (0x90, 0xBF) ∷ tail ∷ tail ∷ [])
    ∷ ((0xF1, 0xF3), tail ∷ tail ∷ tail ∷ [])
    ∷ ((0xF4, 0xF4), (0x80, 0x8F) ∷ tail ∷ tail ∷ [])
    ∷ []

-- what a first octet asks of those after it, or that no character begins so
pub data Lead : Type 0 where
  asks : List Range → Lead
  bad : Lead

abbrev pub lead_of : List Rule → ℕ → Lead
lead_of [] a = bad
lead_of (k ∷ ks) a = pick (within k.0 a) (asks k.1) (lead_of ks a)

unfoldable pub lead : ℕ → Lead
lead a = lead_of rules a

-- the octets that the ranges ask for, and then whole characters to the end
unfoldable pub scan : List Range → List ℕ → Bool
scan [] [] = true
scan [] (a ∷ s) = elim (lead a) [ asks rs ↦ scan rs s | bad ↦ false ]
scan (r ∷ rs) [] = false
scan (r ∷ rs) (a ∷ s) = within r a && scan rs s

-- is s UTF-8?
unfoldable pub utf8 : List ℕ → Bool
utf8 s = scan [] s

-- there are n bytes of s from place `from` on, and they are UTF-8
unfoldable pub utf8_at : List ℕ → ℕ → ℕ → Bool
utf8_at s from n = leb (from + n) (length s) && utf8 (part s from n)

-- the grammar derives "é"
example_derived : Utf8Octets (0xC3 ∷ 0xA9 ∷ [])
example_derived = char (utf8_2 (lit≤ tt, lit≤ tt) (lit≤ tt, lit≤ tt)) none

-- RFC 3629, section 7: "A<NOT IDENTICAL TO><ALPHA>."
example_rfc : utf8 (0x41 ∷ 0xE2 ∷ 0x89 ∷ 0xA2 ∷ 0xCE ∷ 0x91 ∷ 0x2E ∷ []) ≡ true
unfolding utf8 scan lead
example_rfc = refl

example_surrogate : utf8 (0xED ∷ 0xA0 ∷ 0x80 ∷ []) ≡ false
unfolding utf8 scan lead
example_surrogate = refl

example_cut : utf8 (0x41 ∷ 0xE2 ∷ 0x89 ∷ []) ≡ false
unfolding utf8 scan lead
example_cut = refl

example_overlong : utf8 (0xC0 ∷ 0x80 ∷ []) ≡ false
unfolding utf8 scan lead
example_overlong = refl
