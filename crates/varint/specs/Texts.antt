-- "A text is a length and its bytes: 5(length, bytes left) before 4."
use Rattle.std.specs.Prelude.{◌≡◌, refl, List, [], ◌∷◌, ℕ, ◌+◌, ◌-◌, ltb, length, Ok, Err}
use Rattle.varint.specs.Choice.{pick}
use Rattle.varint.specs.Leb128.{get_u64, read_from}
use Rattle.varint.specs.Stores.{part}
use Rattle.varint.specs.Utf8.{utf8, scan, lead}
use Rattle.varint.specs.declared.error.Refusal.TheVariants.{LengthOutOfRange, BadString}
use Rattle.varint.specs.Got.{Got}
use Rattle.varint.specs.declared.text.Span.{Span}

-- the n bytes from place `start` on
abbrev pub span : ℕ → ℕ → Span
span start n = record { start = start; len = n }

-- Where the text at place `at` of s lies, its bytes not looked at: for whoever reads again what was read before.
abbrev pub skim_on : List ℕ → Got ℕ → Got Span
skim_on s (Ok (n, next)) = pick (ltb (length s - next) n) (Err (LengthOutOfRange n (length s - next))) (Ok (span next n, next + n))
skim_on s (Err r) = Err r

unfoldable pub skim_text : List ℕ → ℕ → Got Span
skim_text s at = skim_on s (get_u64 s at)

-- a text that was found is one if its bytes are UTF-8
abbrev pub checked : List ℕ → Got Span → Got Span
checked s (Ok (t, next)) = pick (utf8 (part s t.start t.len)) (Ok (t, next)) (Err BadString)
checked s (Err r) = Err r

-- the text at place `at` of s
unfoldable pub get_text : List ℕ → ℕ → Got Span
get_text s at = checked s (skim_text s at)

-- The name at place `at` of s: database names, instances, predicates, fields, alternatives and step labels. A name is a text.
unfoldable pub get_name : List ℕ → ℕ → Got Span
get_name s at = get_text s at

example_text : get_text (2 ∷ 0x68 ∷ 0x69 ∷ []) 0 ≡ Ok (span 1 2, 3)
unfolding get_text skim_text get_u64 read_from utf8 scan lead part
example_text = refl

example_long : get_text (3 ∷ 0x68 ∷ 0xFF ∷ []) 0 ≡ Err (LengthOutOfRange 3 2)
unfolding get_text skim_text get_u64 read_from
example_long = refl

example_not : get_text (2 ∷ 0x68 ∷ 0xFF ∷ []) 0 ≡ Err BadString
unfolding get_text skim_text get_u64 read_from utf8 scan lead part
example_not = refl

example_skimmed : skim_text (2 ∷ 0x68 ∷ 0xFF ∷ []) 0 ≡ Ok (span 1 2, 3)
unfolding skim_text get_u64 read_from
example_skimmed = refl
