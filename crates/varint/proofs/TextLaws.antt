-- A text is found and then checked.
use mathlib.Core.Bool.{Bool, true, false}
use mathlib.Core.Path.{◌≡◌, refl, sym, ap, ◌∙◌}
use mathlib.Core.List.{List}
use Prim.Native.Nat.{ℕ, ◌+◌, ◌-◌, ◌≤◌, ◌<◌}
use native.Mathlib.Omega.{arith}
use lib.Dec.{ltb}
use lib.ListN.{length}
use borrow.Author.Tests.{ltb-false}
use Rattle.varint.specs.Choice.{pick}
use Rattle.varint.specs.Leb128.{get_u64}
use Rattle.varint.specs.Stores.{part}
use Rattle.varint.specs.Texts.{skim_on, skim_text, checked, get_text, span}
use Rattle.varint.specs.Utf8.{utf8, utf8_at}
use Rattle.varint.specs.declared.error.Refusal.{Refusal}
use Rattle.varint.specs.declared.error.Refusal.TheVariants.{BadString}
use Rattle.varint.proofs.Basics.{pick_cases, never}
use Rattle.varint.proofs.ReadLaws.{Ends, get_ends}
use Rattle.varint.proofs.Utf8Laws.{utf8_at_in}
use Rattle.std.specs.Prelude.{Ok, Err}
use Rattle.varint.specs.Got.{Got, got}
use Rattle.varint.specs.declared.text.Span.{Span}

-- where a text lies: behind its length, and inside the list
abbrev pub TextEnds : ℕ → ℕ → Got Span → Type 0
TextEnds lo hi (Ok (t, next)) = (lo < t.start) × (t.start + t.len ≡ next) × (next ≤ hi)
TextEnds lo hi (Err r) = Unit

pub skim_ends : (s : List ℕ) (at : ℕ) → TextEnds at (length s) (skim_text s at)
unfolding skim_text
skim_ends s at = on (get_u64 s at) (get_ends s at)
  where
    on : (x : Got ℕ) → Ends at (length s) x → TextEnds at (length s) (skim_on s x)
    on (Ok (n, next)) e =
        pick_cases (TextEnds at (length s)) (ltb (length s - next) n) (λ _. tt)
        (λ f. let g = ltb-false (length s - next) n f in let e₁ = e.1 in (e.0, refl, omega arith))
    on (Err r) e = tt

-- the ways out of a reader that has found a text
module _ (s : List ℕ) (at start n next : ℕ) (e : skim_text s at ≡ Ok (span start n, next)) where
  tested : get_text s at ≡ pick (utf8_at s start n) (Ok (span start n, next)) (Err BadString)
  unfolding get_text
  tested =
      let i = rw e at (skim_ends s at) in
      let i₁ = i.1 in
      let i₂ = i.2 in
      let room : start + n ≤ length s = omega arith in
      rw (e, utf8_at_in s start n room)

  pub text_valid : {b : Bool} → b ≡ utf8_at s start n → b ≡ true → got (span start n) next ≡ get_text s at
  text_valid h t = sym (tested ∙ rw (← h, t))

  pub text_invalid : {b : Bool} → b ≡ utf8_at s start n → b ≡ false → Err BadString ≡ get_text s at
  text_invalid h t = sym (tested ∙ rw (← h, t))

pub text_refused : (s : List ℕ) (at : ℕ) (r : Refusal) → skim_text s at ≡ Err r → Err r ≡ get_text s at
unfolding get_text
text_refused s at r e = sym (ap (checked s) e)

-- what is read as a text is found as one
pub text_skims : (s : List ℕ) (at start n next : ℕ) → get_text s at ≡ Ok (span start n, next) → skim_text s at ≡ Ok (span start n, next)
unfolding get_text
text_skims s at start n next e = on (skim_text s at) e
  where
    found : (b : Bool) (p m q : ℕ) → pick b (got (span p m) q) (Err BadString) ≡ Ok (span start n, next) → got (span p m) q ≡ got (span start n) next
    found true p m q h = h
    found false p m q h = never cc

    on : (x : Got Span) → checked s x ≡ Ok (span start n, next) → x ≡ Ok (span start n, next)
    on (Ok (t, q)) h = found (utf8 (part s t.start t.len)) t.start t.len q h
    on (Err r) h = h
