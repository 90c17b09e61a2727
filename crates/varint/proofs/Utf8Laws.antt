-- Laws of the test of UTF-8: what a first octet asks, what a text is followed by, and the steps that the code takes.
use mathlib.Core.Bool.{Bool, true, false, ◌&&◌, ◌||◌, and-false, and-true, and_assoc}
use mathlib.Core.Path.{◌≡◌, refl, sym, ◌∙◌, ap, subst}
use mathlib.Core.Logic.{⊎_elim}
use mathlib.Core.List.{List, [], ◌∷◌, ◌++◌}
use Prim.Native.Nat.{ℕ, suc, ◌+◌, ◌-◌, ◌≤◌, ◌<◌}
use native.Mathlib.Omega.{arith}
use native.Mathlib.Numerals.{add-one}
use lib.Dec.{leb, ltb, eqb}
use lib.ListN.{length, get_or, take, drop, take-append-drop, length-drop, drop_of_length-le}
use lib.Seq.{split_at, drop-cons, drop-drop, drop_at, take-add, take-length, length-take-le}
use borrow.Author.Tests.{le-leb, lt-leb, leb-true, ltb-true, eqb-true, eqb-false, ne_eqb}
use Rattle.varint.specs.Choice.{pick}
use Rattle.varint.specs.Stores.{part}
use Rattle.varint.specs.Utf8.{In, Range, within, tail, Rule, rules, Lead, lead_of, lead, scan, utf8, utf8_at}
use Rattle.varint.specs.Utf8.Lead.{asks, bad}
use Rattle.varint.specs.Inner.Utf8Steps.{second, fit, Ascii, Passed, Char}
use Rattle.varint.proofs.Basics.{test, clash, both, below}

-- an octet in a range

pub within_in : (lo hi a : ℕ) → In lo hi a → within (lo, hi) a ≡ true
within_in lo hi a h = simp (le-leb lo a h.0, le-leb a hi h.1)

pub in_within : (lo hi a : ℕ) → within (lo, hi) a ≡ true → In lo hi a
in_within lo hi a h = let t = both (leb lo a) (leb a hi) h in (leb-true lo a t.0, leb-true a hi t.1)

within_below : (lo hi a : ℕ) → a < lo → within (lo, hi) a ≡ false
within_below lo hi a h = simp (lt-leb lo a h)

within_above : (lo hi a : ℕ) → hi < a → within (lo, hi) a ≡ false
within_above lo hi a h = simp (lt-leb a hi h, and-false)

-- A first octet.

pub lead_rules : (a : ℕ) → lead a ≡ lead_of rules a
unfolding lead
lead_rules a = refl

-- No range of the list meets the one from lo to hi; then the list says nothing of an octet in that one.
abbrev missed : List Rule → ℕ → ℕ → Bool
missed [] lo hi = true
missed (k ∷ ks) lo hi = (ltb k.0.1 lo || ltb hi k.0.0) && missed ks lo hi

apart : (lo hi l h a : ℕ) → (ltb h lo || ltb hi l) ≡ true → In lo hi a → within (l, h) a ≡ false
apart lo hi l h a t k =
    test (ltb h lo)
    (λ e. within_above l h a (omega (arith, ltb-true h lo e, k.0)))
    (λ e. within_below l h a (omega (arith, ltb-true hi l (rw e at t), k.1)))

past : (ks rest : List Rule) (lo hi a : ℕ) → missed ks lo hi ≡ true → In lo hi a → lead_of (ks ++ rest) a ≡ lead_of rest a
past [] rest lo hi a m h = refl
past (k ∷ ks) rest lo hi a m h =
    let t = both (ltb k.0.1 lo || ltb hi k.0.0) (missed ks lo hi) m in
    rw (apart lo hi k.0.0 k.0.1 a t.0 h) (past ks rest lo hi a t.1 h)

pub lead_none : (lo hi a : ℕ) → missed rules lo hi ≡ true → In lo hi a → lead a ≡ bad
lead_none lo hi a m h = lead_rules a ∙ past rules [] lo hi a m h

abbrev pub rule : ℕ → Rule
rule i = get_or rules i ((0, 0), [])

-- there is a rule at place i of the list, and no earlier range meets its own
abbrev pub known : ℕ → Bool
known i = ltb i (length rules) && missed (take i rules) (rule i).0.0 (rule i).0.1

pub lead_rule : (i a : ℕ) → known i ≡ true → In (rule i).0.0 (rule i).0.1 a → lead a ≡ asks (rule i).1
lead_rule i a e h =
    let t = both (ltb i (length rules)) (missed (take i rules) (rule i).0.0 (rule i).0.1) e in
    lead_rules a ∙ ap (λ (ks : List Rule). lead_of ks a) (split_at rules i ((0, 0), []) (ltb-true i (length rules) t.0))
    ∙ past (take i rules) (rule i ∷ drop (suc i) rules) (rule i).0.0 (rule i).0.1 a t.1 h
    ∙ ap (λ (b : Bool). pick b (asks (rule i).1) (lead_of (drop (suc i) rules) a)) (within_in (rule i).0.0 (rule i).0.1 a h)

second_tail : (a : ℕ) → (a ≡ 0xE0 → ⊥) → (a ≡ 0xED → ⊥) → (a ≡ 0xF0 → ⊥) → (a ≡ 0xF4 → ⊥) → second a ≡ tail
unfolding second
second_tail a h k l m = simp (ne_eqb a 0xE0 h, ne_eqb a 0xED k, ne_eqb a 0xF0 l, ne_eqb a 0xF4 m)

-- the octets that begin a character of two, of three and of four

pub lead_2 : (a : ℕ) → In 0xC2 0xDF a → lead a ≡ asks (tail ∷ [])
lead_2 a h = lead_rule 1 a refl h

-- x and y ask for a range of their own of the second octet, the others for a tail
wide : (x y a : ℕ) (rs : List Range) → lead x ≡ asks (second x ∷ rs) → lead y ≡ asks (second y ∷ rs)
    → ((a ≡ x → ⊥) → (a ≡ y → ⊥) → lead a ≡ asks (second a ∷ rs)) → lead a ≡ asks (second a ∷ rs)
wide x y a rs hx hy h =
    test (eqb a x)
    (λ e. rw (eqb-true a x e) hx)
    (λ e. test (eqb a y) (λ f. rw (eqb-true a y f) hy) (λ f. h (eqb-false a x e) (eqb-false a y f)))

pub lead_3 : (a : ℕ) → In 0xE0 0xEF a → lead a ≡ asks (second a ∷ tail ∷ [])
unfolding lead second
lead_3 a h =
    wide 0xE0 0xED a (tail ∷ []) refl refl
    (λ n m. rw (second_tail a n m (λ e. omega arith) (λ e. omega arith))
    (⊎_elim
    (λ (l : a < 0xED). lead_rule 3 a refl (omega arith, omega arith))
    (λ (l : 0xED ≤ a). lead_rule 5 a refl (omega arith, omega arith))
    (below a 0xED)))

pub lead_4 : (a : ℕ) → In 0xF0 0xF4 a → lead a ≡ asks (second a ∷ tail ∷ tail ∷ [])
unfolding lead second
lead_4 a h =
    wide 0xF0 0xF4 a (tail ∷ tail ∷ []) refl refl
    (λ n m. rw (second_tail a (λ e. omega arith) (λ e. omega arith) n m) (lead_rule 7 a refl (omega arith, omega arith)))

-- what the scan says

pub scan_fit : (rs : List Range) (s : List ℕ) → scan rs s ≡ (fit rs s && utf8 (drop (length rs) s))
unfolding scan fit utf8
scan_fit [] s = refl
scan_fit (r ∷ rs) [] = refl
scan_fit (r ∷ rs) (a ∷ s) = ap (λ (t : Bool). within r a && t) (scan_fit rs s) ∙ sym (and_assoc (within r a) (fit rs s) (utf8 (drop (length rs) s)))

pub fit_short : (rs : List Range) (s : List ℕ) → length s < length rs → fit rs s ≡ false
unfolding fit
fit_short [] s h = absurd (omega arith)
fit_short (r ∷ rs) [] h = refl
fit_short (r ∷ rs) (a ∷ s) h = rw (fit_short rs s (omega arith)) (and-false (within r a))

pub utf8_asks : (a : ℕ) (s : List ℕ) (rs : List Range) → lead a ≡ asks rs → utf8 (a ∷ s) ≡ scan rs s
unfolding utf8 scan
utf8_asks a s rs e = rw (e, scan)

pub utf8_bad : (a : ℕ) (s : List ℕ) → lead a ≡ bad → utf8 (a ∷ s) ≡ false
unfolding utf8 scan
utf8_bad a s e = rw (e, scan)

pub utf8_empty : utf8 [] ≡ true
unfolding utf8 scan
utf8_empty = refl

pub utf8_end : (s : List ℕ) (p : ℕ) → length s ≤ p → utf8 (drop p s) ≡ true
utf8_end s p h = rw (drop_of_length-le s h) utf8_empty

scan_append : (rs : List Range) (x y : List ℕ) → scan rs x ≡ true → scan rs (x ++ y) ≡ utf8 y
unfolding utf8 scan
scan_append [] [] y h = refl
scan_append [] (a ∷ x) y h = go (λ rs. scan_append rs x y) (lead a) refl
  where
    go : ((rs : List Range) → scan rs x ≡ true → scan rs (x ++ y) ≡ utf8 y)
        → (l : Lead) → lead a ≡ l → utf8 (a ∷ (x ++ y)) ≡ utf8 y
    go rest (asks rs) e = utf8_asks a (x ++ y) rs e ∙ rest rs (sym (utf8_asks a x rs e) ∙ h)
    go rest bad e = clash h (utf8_bad a x e)
scan_append (r ∷ rs) [] y h = clash h refl
scan_append (r ∷ rs) (a ∷ x) y h =
    let t = both (within r a) (scan rs x) h in
    rw t.0 (scan_append rs x y t.1)

-- a text and what follows it
pub utf8_append : (x y : List ℕ) → utf8 x ≡ true → utf8 (x ++ y) ≡ utf8 y
unfolding utf8
utf8_append x y h = scan_append [] x y h

pub utf8_joined : (x y : List ℕ) → utf8 x ≡ true → utf8 y ≡ true → utf8 (x ++ y) ≡ true
utf8_joined x y h k = utf8_append x y h ∙ k

-- from behind a part that is UTF-8 on, the rest tells
pub utf8_behind : (s : List ℕ) (at n : ℕ) → utf8 (take n (drop at s)) ≡ true → utf8 (drop at s) ≡ utf8 (drop (at + n) s)
utf8_behind s at n h =
    ap utf8 (sym (take-append-drop n (drop at s))) ∙ utf8_append (take n (drop at s)) (drop n (drop at s)) h ∙ ap utf8 (drop-drop n at s)

-- inside the slice and past its end

pub utf8_at_in : (s : List ℕ) (from n : ℕ) → from + n ≤ length s → utf8_at s from n ≡ utf8 (part s from n)
unfolding utf8_at
utf8_at_in s from n h = rw (le-leb (from + n) (length s) h)

pub utf8_at_out : (s : List ℕ) (from n : ℕ) → length s < from + n → utf8_at s from n ≡ false
unfolding utf8_at
utf8_at_out s from n h = rw (lt-leb (from + n) (length s) h)

pub utf8_at_all : (s : List ℕ) → utf8_at s 0 (length s) ≡ utf8 s
unfolding part
utf8_at_all s = utf8_at_in s 0 (length s) (omega arith) ∙ ap utf8 (take-length s)

-- a front part of s keeps the places
pub drop_front : (s : List ℕ) (from n : ℕ) → from ≤ length s → drop from (take (from + n) s) ≡ part s from n
unfolding part
drop_front s from n h =
    ap (drop from) (take-add from n s) ∙ drop_at (take from s) (take n (drop from s)) from (length-take-le from s h)

-- The steps of the code, by places of s.

module _ (s : List ℕ) where
  at_place : (q : ℕ) → q < length s → drop q s ≡ get_or s q 0 ∷ drop (q + 1) s
  at_place q h = rw (add-one, drop-cons s q 0)

  pub passed_none : (p : ℕ) → p ≤ length s → Passed s p p
  passed_none p h = record { ahead = omega arith; ends = h; same = refl }

  pub passed_on : {p q r : ℕ} → Passed s p q → Passed s q r → Passed s p r
  passed_on h k = record { ahead = omega arith; ends = k.ends; same = h.same ∙ k.same }

  pub passed_to : {p q r : ℕ} → q ≡ r → Passed s p q → Passed s p r
  passed_to {p} e h = subst (λ (q : ℕ). Passed s p q) e h

  fit_more : (r : Range) (rs : List Range) (q n : ℕ) → q + 1 ≡ n → q < length s
      → fit (r ∷ rs) (drop q s) ≡ (within r (get_or s q 0) && fit rs (drop n s))
  unfolding fit
  fit_more r rs q n e h = rw (at_place q h, e)

  -- one, two and three octets, as the code tests them

  pub fit_1 : (r : Range) (q : ℕ) → q < length s → fit (r ∷ []) (drop q s) ≡ within r (get_or s q 0)
  unfolding fit
  fit_1 r q h = fit_more r [] q (q + 1) refl h ∙ and-true (within r (get_or s q 0))

  pub fit_2 : (r t : Range) (q n : ℕ) → q + 1 ≡ n → n < length s
      → fit (r ∷ t ∷ []) (drop q s) ≡ (within r (get_or s q 0) && within t (get_or s n 0))
  fit_2 r t q n e h =
      fit_more r (t ∷ []) q n e (omega arith) ∙ ap (λ (b : Bool). within r (get_or s q 0) && b) (fit_1 t n h)

  pub fit_3 : (r t u : Range) (q n m : ℕ) → q + 1 ≡ n → n + 1 ≡ m → m < length s
      → fit (r ∷ t ∷ u ∷ []) (drop q s) ≡ (within r (get_or s q 0) && within t (get_or s n 0) && within u (get_or s m 0))
  fit_3 r t u q n m e f h =
      fit_more r (t ∷ u ∷ []) q n e (omega arith) ∙ ap (λ (b : Bool). within r (get_or s q 0) && b) (fit_2 t u n m f h)
      ∙ sym (and_assoc (within r (get_or s q 0)) (within t (get_or s n 0)) (within u (get_or s m 0)))

-- the octet at place p of s asks the ranges rs of those after it
pub record Begun (s : List ℕ) (p : ℕ) (rs : List Range) : Type 0 where
  pub here : p < length s
  pub asked : lead (get_or s p 0) ≡ asks rs

pub char_bad : (s : List ℕ) (p : ℕ) → p < length s → lead (get_or s p 0) ≡ bad → Char s p 0
char_bad s p h e =
    record { none = λ z. ap utf8 (at_place s p h) ∙ utf8_bad (get_or s p 0) (drop (p + 1) s) e; some = λ z. absurd (omega arith) }

module _ {s : List ℕ} {p : ℕ} {rs : List Range} (b : Begun s p rs) where
  opened : utf8 (drop p s) ≡ (fit rs (drop (p + 1) s) && utf8 (drop (p + 1 + length rs) s))
  opened =
      ap utf8 (at_place s p b.here) ∙ utf8_asks (get_or s p 0) (drop (p + 1) s) rs b.asked ∙ scan_fit rs (drop (p + 1) s)
      ∙ ap (λ (l : List ℕ). fit rs (drop (p + 1) s) && utf8 l) (drop-drop (length rs) (p + 1) s)

  no_room : length s < p + 1 + length rs → fit rs (drop (p + 1) s) ≡ false
  no_room l = fit_short rs (drop (p + 1) s) (simp length-drop (omega arith))

  pub char_no : fit rs (drop (p + 1) s) ≡ false → Char s p 0
  char_no f = record { none = λ z. opened ∙ rw f; some = λ z. absurd (omega arith) }

  pub char_short : length s < p + 1 + length rs → Char s p 0
  char_short l = char_no (no_room l)

  pub char_passed : (q : ℕ) → q ≡ p + 1 + length rs → fit rs (drop (p + 1) s) ≡ true → Passed s p q
  char_passed q n f =
      record {
        ahead = omega arith;
        ends =
            ⊎_elim (λ (l : length s < p + 1 + length rs). clash f (no_room l)) (λ l. omega arith) (below (length s) (p + 1 + length rs));
        same = opened ∙ rw f (ap (λ (k : ℕ). utf8 (drop k s)) (sym n));
      }

  pub char_yes : (w : ℕ) → w ≡ 1 + length rs → fit rs (drop (p + 1) s) ≡ true → Char s p w
  char_yes w n f = record { none = λ z. absurd (omega arith); some = λ z. char_passed (p + w) (omega arith) f }

pub passed_ascii : (s : List ℕ) (p : ℕ) → p < length s → get_or s p 0 < 128 → Passed s p (p + 1)
unfolding fit
passed_ascii s p h a =
    let b : Begun s p [] = record { here = h; asked = lead_rule 0 (get_or s p 0) refl (omega arith, omega arith) } in
    char_passed b (p + 1) (omega arith) refl

-- a run of ASCII
ascii_run : (s : List ℕ) (p n : ℕ) → p + n ≤ length s → Ascii s p (p + n) → Passed s p (p + n)
ascii_run s p Prim.Native.Nat.zero h a = passed_to s (omega arith) (passed_none s p (omega arith))
ascii_run s p (suc n) h a =
    passed_to s (omega arith) (passed_on s (ascii_run s p n (omega arith) (λ k l m. a k l (omega arith))) (passed_ascii s (p + n) (omega arith) (a (p + n) (omega arith) (omega arith))))

pub ascii_passed : (s : List ℕ) (p q : ℕ) → p ≤ q → q ≤ length s → Ascii s p q → Passed s p q
ascii_passed s p q h l a =
    let e : p + (q - p) ≡ q = omega arith in
    passed_to s e (ascii_run s p (q - p) (omega arith) (λ k i j. a k i (omega arith)))
