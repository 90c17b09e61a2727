-- What is read from a list of bytes can be printed and read back: numbers are below their bounds, texts are UTF-8. Proved once
-- for each way to build a format.
use mathlib.Core.Path.{◌≡◌, ◌∙◌, ap}
use mathlib.Core.List.{List}
use Prim.Native.Nat.{ℕ, zero, suc, ◌^◌, ◌<◌}
use Rattle.varint.specs.Formats.{Format, varint, fixed, text, name, ◌⊗◌, named, counted}
use Rattle.varint.specs.RoundTrips.{Bytes, TextOk, All, ListOk}
use Rattle.varint.specs.Texts.{get_name}
use Rattle.varint.specs.Utf8.{utf8}
use Rattle.varint.proofs.FixedLaws.{get_le_bound}
use Rattle.varint.proofs.FormatParts.{pair_went, named_went, times, times_zero, times_suc, times_length, counted_went, text_at, text_got}
use Rattle.varint.proofs.VarintLaws.{get_bound}
use Rattle.std.specs.Prelude.{Ok}

-- whatever is read is P
pub record Gives {A : Type 0} (f : Format A) (P : A → Type 0) : Type 0 where
  pub gives : (s : List ℕ) (at : ℕ) (a : A) (q : ℕ) → Bytes s → f.read s at ≡ Ok (a, q) → P a

pub any_gives : {A : Type 0} (f : Format A) → Gives f (λ a. Unit {0})
any_gives f = record { gives = λ s at a q B e. tt }

pub varint_gives : Gives varint (λ n. n < 2 ^ 64)
varint_gives = record { gives = λ s at n q B e. get_bound s at n q e }

pub fixed_gives : (w : ℕ) → Gives (fixed w) (λ n. n < 256 ^ w)
fixed_gives w = record { gives = λ s at n q B e. get_le_bound w s at n q B e }

pub text_gives : Gives text TextOk
text_gives =
    record {
      gives = λ s at t q B e.
          let x = text_got s at t q e in
          let y = text_at s at x.start x.size q x.is in
          (rw x.long (get_bound s at x.size x.start y.size), ap utf8 x.bytes ∙ y.valid);
    }

pub name_gives : Gives name TextOk
unfolding get_name
name_gives = text_gives

pub pair_gives : {A B : Type 0} {f : Format A} {g : Format B} {P : A → Type 0} {Q : B → Type 0}
    → Gives f P → Gives g Q → Gives (f ⊗ g) (λ c. P c.0 × Q c.1)
pair_gives {f = f} {g = g} F G =
    record {
      gives = λ s at c q B e.
          let x = pair_went f g s at c q e in
          (F.gives s at c.0 x.next B x.first, G.gives s x.next c.1 q B x.second);
    }

pub named_gives : {A B : Type 0} {f : Format A} {P : A → Type 0} {Q : B → Type 0} (to : A → B) (from : B → A)
    → ((a : A) → P a → Q (to a)) → Gives f P → Gives (named to from f) Q
named_gives {f = f} {Q = Q} to from k F =
    record {
      gives = λ s at b q B e.
          let x = named_went to from f s at b q e in
          rw x.is (k x.value (F.gives s at x.value q B x.read));
    }

pub times_gives : {A : Type 0} {f : Format A} {P : A → Type 0} → Gives f P → (n : ℕ) → Gives (times f n) (All P)
times_gives {f = f} F zero = record { gives = λ s at l q B e. rw (times_zero f s at l q e).list tt }
times_gives {f = f} F (suc n) =
    record {
      gives = λ s at l q B e.
          let x = times_suc f n s at l q e in
          rw x.list (F.gives s at x.value x.next B x.first, (times_gives F n).gives s x.next x.others q B x.rest);
    }

pub counted_gives : {A : Type 0} {f : Format A} {P : A → Type 0} → Gives f P → Gives (counted f) (ListOk P)
counted_gives {f = f} F =
    record {
      gives = λ s at l q B e.
          let x = counted_went f s at l q e in (
            rw (times_length f x.count s x.next l q x.rest) (get_bound s at x.count x.next x.first),
            (times_gives F x.count).gives s x.next l q B x.rest,
          );
    }
