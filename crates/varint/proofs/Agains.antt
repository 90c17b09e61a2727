-- What is read again was accepted, and so was each part of it.
use mathlib.Core.Bool.{Bool, true}
use mathlib.Core.Path.{◌≡◌, refl, sym, ◌∙◌}
use mathlib.Core.List.{List}
use Prim.Native.Nat.{ℕ, suc}
use lib.ListN.{length}
use Rattle.varint.specs.Got.{Got, then}
use Rattle.varint.specs.Formats.{Format, got_text, read_times}
use Rattle.varint.specs.Texts.{skim_text, get_text, get_name}
use Rattle.varint.specs.Inner.Again.{Accepted, Again}
use Rattle.varint.proofs.FormatParts.{get_name_lem}
use Rattle.varint.proofs.TextLaws.{TextEnds, skim_ends, text_skims}
use Rattle.std.specs.Prelude.{Ok, Err}
use Rattle.varint.specs.declared.text.Span.{Span}
use Rattle.varint.proofs.Basics.{never}

-- the first reading has no other before it
pub checks : {A : Type 0} (g : Got A) → Again true g
checks g h = never (cc (h))

-- what was read was accepted
pub accepted : {A : Type 0} {g : Got A} {a : A} {q : ℕ} → g ≡ Ok (a, q) → Accepted g
accepted e = rw e tt

-- of a chain that was accepted, the first part was; the rest is told by rewriting with what the first part is
pub first : {A B : Type 0} (x : Got A) (k : A → ℕ → Got B) → Accepted (then x k) → Accepted x
first (Ok (a, q)) k h = tt
first (Err e) k h = h

-- of things in a row that were accepted, the first was, and the others
module _ {A : Type 0} (f : Format A) (n : ℕ) (s : List ℕ) (at : ℕ) {check : Bool} (h : Again check (read_times f (suc n) s at)) where
  pub again_row : Again check (f.read s at)
  unfolding read_times
  again_row z = first (f.read s at) _ (h z)

  pub again_others : {a : A} {q : ℕ} → f.read s at ≡ Ok (a, q) → Again check (read_times f n s q)
  unfolding read_times
  again_others {q = q} e z = first (read_times f n s q) _ (rw e at (h z))

-- a text that was accepted is found again
pub text_again : (s : List ℕ) (at : ℕ) → Accepted (get_text s at) → skim_text s at ≡ get_text s at
text_again s at = go (get_text s at) refl
  where
    go : (x : Got Span) → get_text s at ≡ x → Accepted x → skim_text s at ≡ get_text s at
    go (Ok (t, q)) i h = text_skims s at t.start t.len q i ∙ sym i
    go (Err e) i h = absurd h

pub name_again : (s : List ℕ) (at : ℕ) → Accepted (get_name s at) → skim_text s at ≡ get_name s at
name_again s at h = rw get_name_lem (text_again s at (rw get_name_lem at h))

-- the bytes of a text that was accepted were found
pub again_found : (s : List ℕ) (x : Got Span) {check : Bool} → Again check (got_text s x) → Again check x
again_found s (Ok (t, q)) h z = tt
again_found s (Err e) h z = h z

-- where a text that was read lies
pub text_ends : (s : List ℕ) (at : ℕ) → TextEnds at (length s) (get_text s at)
text_ends s at = go (get_text s at) refl
  where
    go : (x : Got Span) → get_text s at ≡ x → TextEnds at (length s) x
    go (Ok (t, q)) i = let h : TextEnds at (length s) (Ok (t, q)) = rw (text_skims s at t.start t.len q i) at (skim_ends s at) in h
    go (Err e) i = tt

pub name_ends : (s : List ℕ) (at : ℕ) → TextEnds at (length s) (get_name s at)
name_ends s at = rw get_name_lem (text_ends s at)
