-- The test of UTF-8 says yes exactly of what the grammar of RFC 3629, section 4, derives.
use mathlib.Core.Bool.{true}
use mathlib.Core.Path.{◌≡◌, refl, sym, ◌∙◌, subst}
use mathlib.Core.List.{List, [], ◌∷◌, ◌++◌}
use Prim.Native.Nat.{ℕ}
use native.Mathlib.Omega.{arith}
use Rattle.varint.specs.Utf8.{In, Range, within, Utf8Char, Utf8Octets, Rule, rules, Lead, lead_of, lead, scan, utf8}
use Rattle.varint.specs.Utf8.Utf8Char.{utf8_1, utf8_2, utf8_3_e0, utf8_3_e1, utf8_3_ed, utf8_3_ee, utf8_4_f0, utf8_4_f1, utf8_4_f4}
use Rattle.varint.specs.Utf8.Utf8Octets.{none, char}
use Rattle.varint.specs.Utf8.Lead.{asks, bad}
use Rattle.varint.proofs.Basics.{test, clash, both, never}
use Rattle.varint.proofs.Utf8Laws.{within_in, in_within, rule, known, lead_rules, lead_rule, utf8_asks, utf8_bad, utf8_empty}

-- octets, each in its range
data Fits : List Range → List ℕ → Type 0 where
  end : Fits [] []
  next : {r : Range} {a : ℕ} {rs : List Range} {s : List ℕ} → In r.0 r.1 a → Fits rs s → Fits (r ∷ rs) (a ∷ s)

-- what the grammar derives is accepted

fits_scan : {rs : List Range} {c : List ℕ} → Fits rs c → (s : List ℕ) → scan rs (c ++ s) ≡ utf8 s
unfolding scan utf8
fits_scan end s = refl
fits_scan (next {r} {a} h f) s = rw (within_in r.0 r.1 a h) (fits_scan f s)

-- octets of the rule at place i
whole : (i : ℕ) → known i ≡ true → {c : List ℕ} → Fits ((rule i).0 ∷ (rule i).1) c → (s : List ℕ) → utf8 (c ++ s) ≡ utf8 s
whole i e (next {a} {s = c} h f) s = utf8_asks a (c ++ s) (rule i).1 (lead_rule i a e h) ∙ fits_scan f s

char_accepted : {c : List ℕ} → Utf8Char c → (s : List ℕ) → utf8 (c ++ s) ≡ utf8 s
char_accepted (utf8_1 h) = whole 0 refl (next h end)
char_accepted (utf8_2 h t) = whole 1 refl (next h (next t end))
char_accepted (utf8_3_e0 h t) = whole 2 refl (next (omega arith, omega arith) (next h (next t end)))
char_accepted (utf8_3_e1 h t u) = whole 3 refl (next h (next t (next u end)))
char_accepted (utf8_3_ed h t) = whole 4 refl (next (omega arith, omega arith) (next h (next t end)))
char_accepted (utf8_3_ee h t u) = whole 5 refl (next h (next t (next u end)))
char_accepted (utf8_4_f0 h t u) = whole 6 refl (next (omega arith, omega arith) (next h (next t (next u end))))
char_accepted (utf8_4_f1 h t u v) = whole 7 refl (next h (next t (next u (next v end))))
char_accepted (utf8_4_f4 h t u) = whole 8 refl (next (omega arith, omega arith) (next h (next t (next u end))))

pub grammar_accepted : {s : List ℕ} → Utf8Octets s → utf8 s ≡ true
grammar_accepted none = utf8_empty
grammar_accepted (char {s = s} c o) = char_accepted c s ∙ grammar_accepted o

-- what is accepted the grammar derives

-- the octets of the ranges, and then characters
data Begins : List Range → List ℕ → Type 0 where
  begins : {rs : List Range} {c s : List ℕ} → Fits rs c → Utf8Octets s → Begins rs (c ++ s)

more : {r : Range} {a : ℕ} {rs : List Range} {s : List ℕ} → In r.0 r.1 a → Begins rs s → Begins (r ∷ rs) (a ∷ s)
more h (begins f o) = begins (next h f) o

alone : {s : List ℕ} → Begins [] s → Utf8Octets s
alone (begins end o) = o

-- P of every list of octets in the ranges, octet by octet
abbrev Each : List Range → (List ℕ → Type 0) → Type 0
Each [] P = P []
Each (r ∷ rs) P = (a : ℕ) → In r.0 r.1 a → Each rs (λ c. P (a ∷ c))

each : (P : List ℕ → Type 0) {rs : List Range} {c : List ℕ} → Each rs P → Fits rs c → P c
each P p end = p
each P p (next {a} h f) = each (λ c. P (a ∷ c)) (p a h) f

-- each rule of the list is one of characters
abbrev Chars : List Rule → Type 0
Chars [] = Unit
Chars (k ∷ ks) = Each (k.0 ∷ k.1) Utf8Char × Chars ks

-- the range of the first octet has one octet alone
only : {n a : ℕ} {s : List ℕ} → In n n a → Utf8Char (n ∷ s) → Utf8Char (a ∷ s)
only {n} {a} {s} h u = subst (λ (b : ℕ). Utf8Char (b ∷ s)) (omega arith) u

chars : Chars rules
chars = (
  λ a h. utf8_1 h,
  (
    λ a h b t. utf8_2 h t,
    (
      λ a h b t c u. only h (utf8_3_e0 t u),
      (
        λ a h b t c u. utf8_3_e1 h t u,
        (
          λ a h b t c u. only h (utf8_3_ed t u),
          (
            λ a h b t c u. utf8_3_ee h t u,
            (
              λ a h b t c u d v. only h (utf8_4_f0 t u v),
              (λ a h b t c u d v. utf8_4_f1 h t u v, (λ a h b t c u d v. only h (utf8_4_f4 t u v), tt)),
            ),
          ),
        ),
      ),
    ),
  ),
)

first : {r : Range} {rs : List Range} {a : ℕ} {s : List ℕ}
    → Each (r ∷ rs) Utf8Char → In r.0 r.1 a → Begins rs s → Utf8Octets (a ∷ s)
first p h (begins f o) = char (each Utf8Char p (next h f)) o

octets : (ks : List Rule) → Chars ks → (a : ℕ) (rs : List Range) (s : List ℕ)
    → lead_of ks a ≡ asks rs → Begins rs s → Utf8Octets (a ∷ s)
octets [] u a rs s e b = never cc
octets (k ∷ ks) u a rs s e b =
    test (within k.0 a)
    (λ w. let f : asks k.1 ≡ asks rs = rw w at e in
    let g : rs ≡ k.1 = cc in
    first u.0 (in_within k.0.0 k.0.1 a w) (subst (λ (q : List Range). Begins q s) g b))
    (λ w. octets ks u.1 a rs s (rw w at e) b)

scan_begins : (rs : List Range) (s : List ℕ) → scan rs s ≡ true → Begins rs s
unfolding scan utf8
scan_begins [] [] h = begins end none
scan_begins [] (a ∷ s) h = go (λ rs. scan_begins rs s) (lead a) refl
  where
    go : ((rs : List Range) → scan rs s ≡ true → Begins rs s) → (l : Lead) → lead a ≡ l → Begins [] (a ∷ s)
    go rest (asks rs) e = begins end (octets rules chars a rs s (sym (lead_rules a) ∙ e) (rest rs (sym (utf8_asks a s rs e) ∙ h)))
    go rest bad e = clash h (utf8_bad a s e)
scan_begins (r ∷ rs) [] h = clash h refl
scan_begins (r ∷ rs) (a ∷ s) h =
    let t = both (within r a) (scan rs s) h in
    more (in_within r.0 r.1 a t.0) (scan_begins rs s t.1)

pub accepted_grammar : (s : List ℕ) → utf8 s ≡ true → Utf8Octets s
unfolding utf8
accepted_grammar s h = alone (scan_begins [] s h)
