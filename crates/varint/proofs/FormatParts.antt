-- What a thing that was read whole says of its parts: each was read, one after the other.
use mathlib.Core.Bool.{true}
use mathlib.Core.Path.{◌≡◌, refl, sym, ◌∙◌, ap}
use mathlib.Core.List.{List, [], ◌∷◌}
use Prim.Native.Nat.{ℕ, zero, suc, ◌+◌, ◌-◌, ◌≤◌, ◌<◌}
use native.Mathlib.Omega.{arith}
use lib.Dec.{ltb}
use lib.ListN.{length}
use borrow.Author.Tests.{ltb-false}
use Rattle.varint.specs.Got.{Got, then, got}
use Rattle.varint.specs.Formats.{Format, got_text, text, ◌⊗◌, named, read_times, print_all, counted}
use Rattle.varint.specs.Leb128.{get_u64}
use Rattle.varint.specs.Stores.{part}
use Rattle.varint.specs.Texts.{skim_on, skim_text, checked, get_text, get_name, span}
use Rattle.varint.specs.Utf8.{utf8}
use Rattle.varint.specs.declared.error.Refusal.{Refusal}
use Rattle.varint.proofs.Basics.{pick_cases, never}
use Rattle.varint.proofs.Gots.{no_got, got_of}
use Rattle.varint.proofs.ReadLaws.{get_ends}
use Rattle.varint.proofs.StoreLaws.{length_part}
use Rattle.std.specs.Prelude.{Ok, Err}
use Rattle.varint.specs.declared.text.Span.{Span}

-- a chain that was read whole: its first part was, and its rest
pub record Went {A B : Type 0} (x : Got A) (k : A → ℕ → Got B) (b : B) (e : ℕ) : Type 0 where
  pub value : A
  pub next : ℕ
  pub first : x ≡ Ok (value, next)
  pub rest : k value next ≡ Ok (b, e)

pub went : {A B : Type 0} (x : Got A) (k : A → ℕ → Got B) (b : B) (e : ℕ) → then x k ≡ Ok (b, e) → Went x k b e
went (Ok (a, q)) k b e h = record { value = a; next = q; first = refl; rest = h }
went (Err r) k b e h = no_got h

-- two in a row
pub record Both {A B : Type 0} (f : Format A) (g : Format B) (s : List ℕ) (at : ℕ) (c : A × B) (q : ℕ) : Type 0 where
  pub next : ℕ
  pub first : f.read s at ≡ Ok (c.0, next)
  pub second : g.read s next ≡ Ok (c.1, q)

pub pair_went : {A B : Type 0} (f : Format A) (g : Format B) (s : List ℕ) (at : ℕ) (c : A × B) (q : ℕ)
    → (f ⊗ g).read s at ≡ Ok (c, q) → Both f g s at c q
pair_went {A} {B} f g s at c q e =
    let x = went (f.read s at) _ c q e in
    let y = went (g.read s x.next) _ c q x.rest in
    let z = got_of y.rest in
    record {
      next = x.next;
      first = x.first ∙ ap (λ (d : A × B). Ok (d.0, x.next)) z.0;
      second = y.first ∙ ap (λ (d : A × B). Ok (d.1, y.next)) z.0 ∙ ap ((λ z0. Ok (c.1, z0))) z.1;
    }

-- under another name
pub record Other {A B : Type 0} (to : A → B) (f : Format A) (s : List ℕ) (at : ℕ) (b : B) (q : ℕ) : Type 0 where
  pub value : A
  pub is : b ≡ to value
  pub read : f.read s at ≡ Ok (value, q)

pub named_went : {A B : Type 0} (to : A → B) (from : B → A) (f : Format A) (s : List ℕ) (at : ℕ) (b : B) (q : ℕ)
    → (named to from f).read s at ≡ Ok (b, q) → Other to f s at b q
named_went to from f s at b q e =
    let x = went (f.read s at) _ b q e in
    let z = got_of x.rest in
    record { value = x.value; is = sym z.0; read = x.first ∙ ap (λ (r : ℕ). Ok (x.value, r)) z.1 }

-- n things in a row
abbrev pub times : {A : Type 0} → Format A → ℕ → Format (List A)
times f n = record { read = read_times f n; print = print_all f }

-- one more of them
pub record More {A : Type 0} (f : Format A) (n : ℕ) (s : List ℕ) (at : ℕ) (l : List A) (e : ℕ) : Type 0 where
  pub value : A
  pub next : ℕ
  pub others : List A
  pub first : f.read s at ≡ Ok (value, next)
  pub rest : read_times f n s next ≡ Ok (others, e)
  pub list : l ≡ value ∷ others

pub times_suc : {A : Type 0} (f : Format A) (n : ℕ) (s : List ℕ) (at : ℕ) (l : List A) (e : ℕ)
    → read_times f (suc n) s at ≡ Ok (l, e) → More f n s at l e
unfolding read_times
times_suc f n s at l e h =
    let x = went (f.read s at) _ l e h in
    let y = went (read_times f n s x.next) _ l e x.rest in
    let z = got_of y.rest in
    record { value = x.value; next = x.next; others = y.value; first = x.first; rest = y.first ∙ ap (λ (r : ℕ). Ok (y.value, r)) z.1; list = sym z.0 }

-- no more
pub record None {A : Type 0} (at : ℕ) (l : List A) (e : ℕ) : Type 0 where
  pub list : l ≡ []
  pub place : e ≡ at

pub times_zero : {A : Type 0} (f : Format A) (s : List ℕ) (at : ℕ) (l : List A) (e : ℕ) → read_times f 0 s at ≡ Ok (l, e) → None at l e
unfolding read_times
times_zero f s at l e h = let z = got_of h in record { list = sym z.0; place = sym z.1 }

-- there are n of them
pub times_length : {A : Type 0} (f : Format A) (n : ℕ) (s : List ℕ) (at : ℕ) (l : List A) (e : ℕ)
    → read_times f n s at ≡ Ok (l, e) → length l ≡ n
times_length f zero s at l e h = ap length (times_zero f s at l e h).list
times_length f (suc n) s at l e h =
    let x = times_suc f n s at l e h in
    ap length x.list ∙ ap suc (times_length f n s x.next x.others e x.rest)

-- a count and so many
pub record Counted {A : Type 0} (f : Format A) (s : List ℕ) (at : ℕ) (l : List A) (q : ℕ) : Type 0 where
  pub count : ℕ
  pub next : ℕ
  pub first : get_u64 s at ≡ Ok (count, next)
  pub rest : read_times f count s next ≡ Ok (l, q)

pub counted_went : {A : Type 0} (f : Format A) (s : List ℕ) (at : ℕ) (l : List A) (q : ℕ) → (counted f).read s at ≡ Ok (l, q) → Counted f s at l q
counted_went f s at l q e =
    let x = went (get_u64 s at) _ l q e in
    record { count = x.value; next = x.next; first = x.first; rest = x.rest }

-- Numbers and texts

pub num_inside : (s : List ℕ) (at n q : ℕ) → get_u64 s at ≡ Ok (n, q) → (at < q) × (q ≤ length s)
num_inside s at n q e = rw e at (get_ends s at)

-- the text of n bytes from p to q whose length stands at `at`
pub record TextAt (s : List ℕ) (at p n q : ℕ) : Type 0 where
  pub size : get_u64 s at ≡ Ok (n, p)
  pub room : n ≤ length s - p
  pub valid : utf8 (part s p n) ≡ true
  pub next : p + n ≡ q

pub text_at : (s : List ℕ) (at p n q : ℕ) → get_text s at ≡ Ok (span p n, q) → TextAt s at p n q
unfolding get_text skim_text
text_at s at p n q e = go (get_u64 s at) refl e
  where
    found : (m o : ℕ) → get_u64 s at ≡ Ok (m, o) → m ≤ length s - o → utf8 (part s o m) ≡ true
        → got (span o m) (o + m) ≡ got (span p n) q → TextAt s at p n q
    found m o i room u f =
        let z = got_of f in
        let a : o ≡ p = ap (λ (x : Span). x.start) z.0 in
        let b : m ≡ n = ap (λ (x : Span). x.len) z.0 in
        let c : o + m ≡ q = z.1 in
        rw (← a, ← b, ← c) (record { size = i; room = room; valid = u; next = refl })

    no : {r : Refusal} → Err r ≡ got (span p n) q → TextAt s at p n q
    no f = never cc

    go : (x : Got ℕ) → get_u64 s at ≡ x → checked s (skim_on s x) ≡ Ok (span p n, q) → TextAt s at p n q
    go (Err r) i f = no f
    go (Ok (m, o)) i f =
        let P : Got Span → Type 0 = λ y. y ≡ Ok (span p n, q) → TextAt s at p n q in
        pick_cases (λ y. P (checked s y)) (ltb (length s - o) m) (λ _. no)
        (λ t. pick_cases P (utf8 (part s o m)) (λ u. found m o i (ltb-false (length s - o) m t) u) (λ _. no))
        f

module _ (s : List ℕ) (at p n q : ℕ) (e : get_text s at ≡ Ok (span p n, q)) where
  pub text_inside : (at < p) × (p + n ≡ q) × (q ≤ length s)
  text_inside =
      let x = text_at s at p n q e in
      let i = num_inside s at n p x.size in
      (i.0, x.next, omega arith)

  pub text_length : length (part s p n) ≡ n
  text_length = let i = text_inside in length_part s p n (omega arith)

-- a name is a text
pub get_name_lem : (s : List ℕ) (at : ℕ) → get_name s at ≡ get_text s at
unfolding get_name
get_name_lem s at = refl

-- a text that was read
pub record TextGot (s : List ℕ) (at : ℕ) (t : List ℕ) (q : ℕ) : Type 0 where
  pub start : ℕ
  pub size : ℕ
  pub is : get_text s at ≡ Ok (span start size, q)
  pub bytes : t ≡ part s start size
  pub long : length t ≡ size

pub text_got : (s : List ℕ) (at : ℕ) (t : List ℕ) (q : ℕ) → text.read s at ≡ Ok (t, q) → TextGot s at t q
text_got s at t q e = go (get_text s at) refl e
  where
    go : (x : Got Span) → get_text s at ≡ x → got_text s x ≡ Ok (t, q) → TextGot s at t q
    go (Ok (x, o)) i f =
        let z = got_of f in
        let k : get_text s at ≡ Ok (x, q) = i ∙ ap (λ (r : ℕ). Ok (x, r)) z.1 in
        let b : t ≡ part s x.start x.len = sym z.0 in
        record { start = x.start; size = x.len; is = k; bytes = b; long = ap length b ∙ text_length s at x.start x.len q k }
    go (Err r) i f = no_got f
