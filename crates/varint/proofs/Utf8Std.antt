-- The test of UTF-8 says yes exactly of the bytes of characters, as std has them.
use Rattle.std.proofs.Common.{◌≡◌, sym, ◌∙◌, ap, ℕ, ◌+◌, ◌/◌, ◌<◌, ◌≤◌, true, false, List, [], ◌∷◌, ◌++◌, inl, inr, arith, lt-ltb, le-ltb}
use Rattle.std.proofs.lemmas.Bool.{cases_lt, cases_eq, and_parts}
use Rattle.std.proofs.lemmas.Str.{IsUtf8-from_ascii, encode_ascii}
use Rattle.std.specs.Str.{IsUtf8, IsAscii}
use Rattle.std.specs.Prelude.{Result, Ok, Err, MatchResult}
use Rattle.std.specs.Result.{is_ok}
use lib.Utf8.{scalar, scalars, encode, encodes, next, scalar_cases}
use Rattle.simdutf8.specs.Steps.{IsClosed, least_after, most_after, first, second, later, StepsThen}
use Rattle.simdutf8.proofs.Chars.{least_is, most_is, StepsThen-IsUtf8}
use Rattle.varint.specs.Utf8.{In, Tail, Utf8Char, Utf8Octets, utf8}
use Rattle.varint.specs.Utf8.Utf8Char.{utf8_1, utf8_2, utf8_3_e0, utf8_3_e1, utf8_3_ed, utf8_3_ee, utf8_4_f0, utf8_4_f1, utf8_4_f4}
use Rattle.varint.specs.Utf8.Utf8Octets.{none, char}
use Rattle.varint.proofs.Basics.{test}
use Rattle.varint.proofs.Utf8Grammar.{accepted_grammar, grammar_accepted}

-- the bytes of a character are derived by the grammar

two : (c : ℕ) → 128 ≤ c → c < 2048 → encode c ≡ (192 + c / 64) ∷ next c ∷ []
unfolding encode
two c l h = rw (le-ltb c 128 l, lt-ltb c 2048 h)

three : (c : ℕ) → 2048 ≤ c → c < 65536 → encode c ≡ (224 + c / 4096) ∷ next (c / 64) ∷ next c ∷ []
unfolding encode
three c l h = rw (le-ltb c 128 (omega arith), le-ltb c 2048 l, lt-ltb c 65536 h)

four : (c : ℕ) → 65536 ≤ c → encode c ≡ (240 + c / 262144) ∷ next (c / 4096) ∷ next (c / 64) ∷ next c ∷ []
unfolding encode
four c l = rw (le-ltb c 128 (omega arith), le-ltb c 2048 (omega arith), le-ltb c 65536 l)

-- characters of three and of four octets, by the first

of_three : (a b c : ℕ) → In 0xE0 0xEF a → Tail b → Tail c → (a ≡ 0xE0 → 0xA0 ≤ b) → (a ≡ 0xED → b ≤ 0x9F) → Utf8Char (a ∷ b ∷ c ∷ [])
of_three a b c h t u low high =
    elim (cases_eq a 0xE0) [
      | inl e ↦ rw e (utf8_3_e0 (low e, t.1) u)
      | inr n ↦ elim (cases_lt a 0xED) [
        | inl l ↦ utf8_3_e1 (omega arith, omega arith) t u
        | inr l ↦ elim (cases_eq a 0xED) [
          | inl e ↦ rw e (utf8_3_ed (t.0, high e) u)
          | inr m ↦ utf8_3_ee (omega arith, h.1) t u
        ]
      ]
    ]

of_four : (a b c d : ℕ) → In 0xF0 0xF4 a → Tail b → Tail c → Tail d → (a ≡ 0xF0 → 0x90 ≤ b) → (a ≡ 0xF4 → b ≤ 0x8F) → Utf8Char (a ∷ b ∷ c ∷ d ∷ [])
of_four a b c d h t u v low high =
    elim (cases_eq a 0xF0) [
      | inl e ↦ rw e (utf8_4_f0 (low e, t.1) u v)
      | inr n ↦ elim (cases_eq a 0xF4) [
        | inl e ↦ rw e (utf8_4_f4 (t.0, high e) u v)
        | inr m ↦ utf8_4_f1 (omega arith, omega arith) t u v
      ]
    ]

tail_of : (n : ℕ) → Tail (next n)
tail_of n = (omega arith, omega arith)

char_of : (c : ℕ) → scalar c ≡ true → Utf8Char (encode c)
char_of c ok =
    let range = scalar_cases c ok in
    elim (cases_lt c 128) [
      | inl a ↦ rw (encode_ascii c a) (utf8_1 {a = c} (omega arith, omega arith))
      | inr a ↦ elim (cases_lt c 2048) [
        | inl b ↦ rw (two c a b) (utf8_2 {a = 192 + c / 64} (omega arith, omega arith) (tail_of c))
        | inr b ↦ elim (cases_lt c 65536) [
          | inl d ↦ rw (three c b d) (of_three (224 + c / 4096) (next (c / 64)) (next c) (omega arith, omega arith) (tail_of (c / 64)) (tail_of c) (λ e. omega arith) (λ e. omega arith))
          | inr d ↦ rw (four c d) (of_four (240 + c / 262144) (next (c / 4096)) (next (c / 64)) (next c) (omega arith, omega arith) (tail_of (c / 4096)) (tail_of (c / 64)) (tail_of c) (λ e. omega arith) (λ e. omega arith))
        ]
      ]
    ]

octets : (cs : List ℕ) → scalars cs ≡ true → Utf8Octets (encodes cs)
octets [] ok = none
octets (c ∷ cs) ok = let p = and_parts (scalar c) (scalars cs) ok in char (char_of c p.0) (octets cs p.1)

pub utf8_is : (s : List ℕ) → IsUtf8 s → utf8 s ≡ true
utf8_is s u = ap utf8 (sym u.1.1) ∙ grammar_accepted (octets u.0 u.1.0)

-- what the grammar derives are the bytes of characters

abbrev Valid : ℕ → ℕ → ℕ → List ℕ → Type 0
Valid = StepsThen IsClosed

-- the octets c may follow whole characters, and whole characters may follow them
abbrev Whole : List ℕ → Type 0
Whole c = (x y z : ℕ) (s : List ℕ) → IsClosed x y z → ((u v w : ℕ) → IsClosed u v w → Valid u v w s) → Valid x y z (c ++ s)

-- b may follow the first octet a
abbrev After : ℕ → ℕ → Type 0
After a b = (least_after a ≤ b) × (b ≤ most_after a)

tail_after : (a b : ℕ) → (a ≡ 0xE0 → ⊥) → (a ≡ 0xED → ⊥) → (a ≡ 0xF0 → ⊥) → (a ≡ 0xF4 → ⊥) → Tail b → After a b
tail_after a b h k l m t = (omega (arith, least_is a), omega (arith, most_is a))

whole_2 : (a b : ℕ) → In 0xC2 0xDF a → Tail b → Whole (a ∷ b ∷ [])
whole_2 a b h t x y z s closed rest =
    let f = tail_after a b (λ e. omega arith) (λ e. omega arith) (λ e. omega arith) (λ e. omega arith) t in
    (first closed (inr (omega arith)), (second (omega arith) (omega arith) f, rest z a b (omega arith)))

whole_3 : (a b c : ℕ) → In 0xE0 0xEF a → Tail b → After a b → Tail c → Whole (a ∷ b ∷ c ∷ [])
whole_3 a b c h t f u x y z s closed rest =
    (first closed (inr (omega arith)), (second (omega arith) (omega arith) f, (later (inr h.0) (omega arith) (omega arith), rest a b c (omega arith))))

whole_4 : (a b c d : ℕ) → In 0xF0 0xF4 a → Tail b → After a b → Tail c → Tail d → Whole (a ∷ b ∷ c ∷ d ∷ [])
whole_4 a b c d h t f u v x y z s closed rest = (
  first closed (inr (omega arith)),
  (
    second (omega arith) (omega arith) f,
    (later (inr (omega arith)) (omega arith) (omega arith), (later (inl h.0) (omega arith) (omega arith), rest b c d (omega arith))),
  ),
)

whole : {c : List ℕ} → Utf8Char c → Whole c
whole (utf8_1 {a} h) = λ x y z s closed rest. (first closed (inl (omega arith)), rest y z a (omega arith))
whole (utf8_2 {a} {b} h t) = whole_2 a b h t
whole (utf8_3_e0 {b} {c} h t) = whole_3 0xE0 b c (omega arith, omega arith) (omega arith, h.1) h t
whole (utf8_3_e1 {a} {b} {c} h t u) = whole_3 a b c (omega arith, omega arith) t (tail_after a b (λ e. omega arith) (λ e. omega arith) (λ e. omega arith) (λ e. omega arith) t) u
whole (utf8_3_ed {b} {c} h t) = whole_3 0xED b c (omega arith, omega arith) (h.0, omega arith) h t
whole (utf8_3_ee {a} {b} {c} h t u) = whole_3 a b c (omega arith, h.1) t (tail_after a b (λ e. omega arith) (λ e. omega arith) (λ e. omega arith) (λ e. omega arith) t) u
whole (utf8_4_f0 {b} {c} {d} h t u) = whole_4 0xF0 b c d (omega arith, omega arith) (omega arith, h.1) h t u
whole (utf8_4_f1 {a} {b} {c} {d} h t u v) = whole_4 a b c d (omega arith, omega arith) t (tail_after a b (λ e. omega arith) (λ e. omega arith) (λ e. omega arith) (λ e. omega arith) t) u v
whole (utf8_4_f4 {b} {c} {d} h t u) = whole_4 0xF4 b c d (omega arith, omega arith) (h.0, omega arith) h t u

steps : {s : List ℕ} → Utf8Octets s → (x y z : ℕ) → IsClosed x y z → Valid x y z s
steps none x y z closed = closed
steps (char {s = s} c o) x y z closed = whole c x y z s closed (steps o)

pub is_utf8 : (s : List ℕ) → utf8 s ≡ true → IsUtf8 s
is_utf8 s h = (StepsThen-IsUtf8 s).0 (steps (accepted_grammar s h) 0 0 0 (omega arith))

pub utf8_ascii : (s : List ℕ) → IsAscii s → utf8 s ≡ true
utf8_ascii s a = utf8_is s (IsUtf8-from_ascii s a)

pub not_utf8 : (s : List ℕ) → ¬ (IsUtf8 s) → utf8 s ≡ false
not_utf8 s n = test (utf8 s) (λ h. absurd (n (is_utf8 s h))) (λ h. h)

-- std's test of UTF-8 answers as `utf8`
pub ok_utf8 : {A E : Type 0} (s : List ℕ) (P : A → Type 0) (r : Result A E) → MatchResult r (λ t. P t × IsUtf8 s) (λ _. ¬ (IsUtf8 s)) → is_ok r ≡ utf8 s
ok_utf8 s P (Ok t) h = sym (utf8_is s h.1)
ok_utf8 s P (Err e) h = sym (not_utf8 s h)

-- and so does the one that tells more of a fault
pub ok_utf8_told : {A E : Type 0} (s : List ℕ) (P : A → Type 0) (Q : E → Type 0) (r : Result A E) → MatchResult r (λ t. P t × IsUtf8 s) (λ e. ¬ (IsUtf8 s) × Q e) → is_ok r ≡ utf8 s
ok_utf8_told s P Q (Ok t) h = sym (utf8_is s h.1)
ok_utf8_told s P Q (Err e) h = sym (not_utf8 s h.0)
