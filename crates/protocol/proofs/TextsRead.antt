-- A name or a text that was read into the memory.
use mathlib.Core.Path.{◌≡◌, sym, ◌∙◌, ap}
use mathlib.Core.List.{List}
use Prim.Native.Nat.{ℕ, ◌+◌, ◌*◌, ◌≤◌}
use native.Mathlib.Nat.{zero-add}
use native.Mathlib.Omega.{arith}
use lib.ListN.{length}
use Rattle.varint.proofs.TextLaws.{TextEnds}
use Rattle.std.specs.Prelude.{Result, Ok, Err}
use Rattle.varint.specs.Formats.{name, text}
use Rattle.varint.specs.Got.{Got, got}
use Rattle.varint.specs.Texts.{get_name}
use Rattle.varint.specs.declared.error.Refusal.{Refusal}
use Rattle.varint.specs.declared.text.Span.{Span}
use Rattle.varint.proofs.FormatParts.{text_got, text_inside}
use Rattle.protocol.specs.Inner.Loading.{Mem, put, told, load, lies, Ahead}
use Rattle.protocol.specs.Laying.{span_of}
use Rattle.protocol.specs.Pieces.{words}
use Rattle.protocol.proofs.Loads.{Had, had}

-- behind the number of its bytes, and inside
abbrev Inside : List ℕ → ℕ → Got (List ℕ) → Type 0
Inside s at g = (x : List ℕ) (q : ℕ) → g ≡ Ok (x, q) → (at + (length x + 1) ≤ q) × (q ≤ length s)

text_within : (s : List ℕ) (at : ℕ) → Inside s at (text.read s at)
text_within s at x q e =
    let y = text_got s at x q e in
    let l = y.long in
    let i = text_inside s at y.start y.size q y.is in
    let i₀ = i.0 in
    let i₁ = i.1 in
    (omega arith, i.2)

name_within : (s : List ℕ) (at : ℕ) → Inside s at (name.read s at)
unfolding get_name
name_within s at = text_within s at

pub ahead : (s : List ℕ) (at t : ℕ) (g : Got Span) → TextEnds at (length s) g → t ≤ at → Ahead t s g
unfolding Ahead
ahead s at t (Ok (x, q)) e h =
    let e₀ = e.0 in
    let e₁ = e.1 in
    let e₂ = e.2 in
    (omega arith, omega arith)
ahead s at t (Err r) e h = tt

-- what was read, and where it lies now
pub record Kept (s : List ℕ) (g : Got (List ℕ)) (at : ℕ) (m m' : Mem) (x : Span) (q : ℕ) : Type 0 where
  pub value : List ℕ
  pub is : g ≡ Ok (value, q)
  pub on : at + (x.len + 1) ≤ q
  pub inside : q ≤ length s
  pub place : x.start ≡ m.t
  pub long : x.len ≡ length value
  pub left : m' ≡ put (words value) m

kept_of : (s : List ℕ) {g : Got (List ℕ)} (at : ℕ) {m m' : Mem} {x : Span} {q : ℕ} → Inside s at g → Had lies words g m m' (x, q) → Kept s g at m m' x q
kept_of s {g} at {m} {m'} {x} {q} inside w =
    let e : ◌≡◌ {A = Span × ℕ} (x, q) (span_of m.t w.value, w.next) = w.says in
    let a : x ≡ span_of m.t w.value = ap (λ (z : Span × ℕ). z.0) e in
    let b : q ≡ w.next = ap (λ (z : Span × ℕ). z.1) e in
    let l : x.len ≡ length w.value = ap (λ (z : Span). z.len) a in
    let i = inside w.value w.next w.is in
    let i₀ = i.0 in
    let i₁ = i.1 in
    record {
      value = w.value;
      is = w.is ∙ ap (λ (z : ℕ). got w.value z) (sym b);
      on = omega arith;
      inside = omega arith;
      place = ap (λ (z : Span). z.start) a;
      long = l;
      left = w.left;
    }

module _ (s : List ℕ) (at : ℕ) (m m' : Mem) (r : Result (Span × ℕ) Refusal) {x : Span} {q : ℕ} where
  pub name_kept : told r m' ≡ load lies words (name.read s at) m → r ≡ Ok (x, q) → Kept s (name.read s at) at m m' x q
  name_kept h i = kept_of s at (name_within s at) (had lies words (name.read s at) m m' r h i)

  pub text_kept : told r m' ≡ load lies words (text.read s at) m → r ≡ Ok (x, q) → Kept s (text.read s at) at m m' x q
  text_kept h i = kept_of s at (text_within s at) (had lies words (text.read s at) m m' r h i)

  -- the bytes of a name pay for numbers of a row
  pub name_leaves : told r m' ≡ load lies words (name.read s at) m → r ≡ Ok (x, q) → m.r ≤ 2 * at → (m'.r + 2 ≤ 2 * q) × (q ≤ length s)
  name_leaves h i b =
      let w = name_kept h i in
      let o = w.on in
      let e = ap (λ (y : Mem). y.r) w.left in
      (omega arith, w.inside)

-- where it is the message's first
module _ {s : List ℕ} {g : Got (List ℕ)} {at : ℕ} {m m' : Mem} {x : Span} {q : ℕ} (w : Kept s g at m m' x q) where
  pub kept_span : {t : ℕ} → m.t ≡ t → x ≡ span_of t w.value
  kept_span e = λ i. record { start = (w.place ∙ e) i; len = w.long i }

  pub kept_t : m'.t ≡ m.t + x.len
  kept_t = ap (λ (y : Mem). y.t) w.left ∙ ap (λ (k : ℕ). m.t + k) (sym w.long)

  pub after_text : m.t ≡ 0 → m'.t ≡ length w.value
  after_text e = ap (λ (y : Mem). y.t) w.left ∙ ap (λ (k : ℕ). k + length w.value) e ∙ zero-add (length w.value)
