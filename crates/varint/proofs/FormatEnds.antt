-- Where a thing that is read ends: at least so many bytes on, and inside the list. Proved once for each way to build a format.
use mathlib.Core.Path.{◌≡◌}
use mathlib.Core.List.{List, [], ◌∷◌}
use Prim.Native.Nat.{ℕ, zero, suc, ◌+◌, ◌*◌, ◌≤◌}
use native.Mathlib.Nat.{suc-mul}
use native.Mathlib.Omega.{arith}
use lib.ListN.{length}
use Rattle.varint.specs.Formats.{Format, varint, fixed, text, name, ◌⊗◌, named, counted}
use Rattle.varint.specs.Texts.{get_name}
use Rattle.varint.proofs.FixedLaws.{get_le_ends}
use Rattle.varint.proofs.FormatParts.{pair_went, named_went, times, times_zero, times_suc, times_length, counted_went, num_inside, text_inside, text_got}
use Rattle.std.specs.Prelude.{Ok}

-- w a bytes and at least k bytes besides
pub record Ends {A : Type 0} (f : Format A) (w : A → ℕ) (k : ℕ) : Type 0 where
  pub ends : (s : List ℕ) (at : ℕ) (a : A) (q : ℕ) → at ≤ length s → f.read s at ≡ Ok (a, q)
      → (at + (w a + k) ≤ q) × (q ≤ length s)

pub varint_ends : Ends varint (λ n. 0) 1
varint_ends = record { ends = λ s at n q h e. let i = num_inside s at n q e in (omega arith, i.1) }

pub fixed_ends : (w : ℕ) → Ends (fixed w) (λ n. 0) w
fixed_ends w = record { ends = λ s at n q h e. let i = get_le_ends w s at n q h e in (omega arith, i.1) }

pub text_ends : Ends text length 1
text_ends =
    record {
      ends = λ s at t q h e.
          let x = text_got s at t q e in
          let i = text_inside s at x.start x.size q x.is in
          (omega arith, i.2);
    }

pub name_ends : Ends name length 1
unfolding get_name
name_ends = text_ends

pub pair_ends : {A B : Type 0} {f : Format A} {g : Format B} {w : A → ℕ} {v : B → ℕ} {k l : ℕ}
    → Ends f w k → Ends g v l → Ends (f ⊗ g) (λ c. w c.0 + v c.1) (k + l)
pair_ends {f = f} {g = g} F G =
    record {
      ends = λ s at c q h e.
          let x = pair_went f g s at c q e in
          let i = F.ends s at c.0 x.next h x.first in
          let j = G.ends s x.next c.1 q i.1 x.second in
          (omega arith, j.1);
    }

pub named_ends : {A B : Type 0} {f : Format A} {w : A → ℕ} {k : ℕ} (to : A → B) (from : B → A) (v : B → ℕ)
    → ((a : A) → v (to a) ≡ w a) → Ends f w k → Ends (named to from f) v k
named_ends {f = f} to from v same F =
    record {
      ends = λ s at b q h e.
          let x = named_went to from f s at b q e in
          let i = F.ends s at x.value q h x.read in
          rw (x.is, same x.value) i;
    }

-- the sum over a list
unfoldable pub total : {A : Type 0} → (A → ℕ) → List A → ℕ
total w [] = 0
total w (a ∷ l) = w a + total w l

pub times_ends : {A : Type 0} {f : Format A} {w : A → ℕ} {k : ℕ} → Ends f w k → (n : ℕ) → Ends (times f n) (total w) (n * k)
unfolding total
times_ends {f = f} F zero =
    record { ends = λ s at l q h e. let x = times_zero f s at l q e in rw (x.list, x.place) (omega arith, h) }
times_ends {f = f} {k = k} F (suc n) =
    record {
      ends = λ s at l q h e.
          let x = times_suc f n s at l q e in
          let i = F.ends s at x.value x.next h x.first in
          let j = (times_ends F n).ends s x.next x.others q i.1 x.rest in
          rw (x.list, suc-mul) (omega arith, j.1);
    }

pub counted_ends : {A : Type 0} {f : Format A} {w : A → ℕ} {k : ℕ} → Ends f w k → Ends (counted f) (λ l. total w l + length l * k) 1
counted_ends {f = f} F =
    record {
      ends = λ s at l q h e.
          let x = counted_went f s at l q e in
          let i = num_inside s at x.count x.next x.first in
          let j = (times_ends F x.count).ends s x.next l q i.1 x.rest in
          (rw (times_length f x.count s x.next l q x.rest) (omega arith), j.1);
    }
