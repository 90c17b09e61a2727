-- What is printed is read back, wherever it stands: proved once for each way to build a format.
use mathlib.Core.Bool.{true}
use mathlib.Core.Path.{◌≡◌, refl, ◌∙◌, ap}
use mathlib.Core.List.{List, [], ◌∷◌, ◌++◌, append_assoc}
use Prim.Native.Nat.{ℕ, ◌+◌, ◌-◌, ◌^◌, ◌≤◌, ◌<◌}
use native.Mathlib.Nat.{add_assoc}
use native.Mathlib.Omega.{arith}
use lib.ListN.{length, length-append}
use borrow.Author.Tests.{le-ltb}
use Rattle.varint.specs.Got.{Got, then}
use Rattle.varint.specs.Formats.{Format, got_text, varint, fixed, text, name, ◌⊗◌, named, read_times, print_all, counted}
use Rattle.varint.specs.Leb128.{get_u64, put_u64}
use Rattle.varint.specs.RoundTrips.{Reads, Back, TextOk, All, ListOk}
use Rattle.varint.specs.Texts.{skim_on, skim_text, checked, get_text, get_name}
use Rattle.varint.specs.Utf8.{utf8}
use Rattle.varint.proofs.FixedLaws.{length_put_le, get_le_put}
use Rattle.varint.proofs.StoreLaws.{part_seam}
use Rattle.varint.proofs.VarintLaws.{get_put}
use Rattle.std.specs.Prelude.{Ok, Err}

-- one after the other, the second read as the first tells
pub in_a_row : {A B : Type 0} (read : List ℕ → ℕ → Got A) (more : A → List ℕ → ℕ → Got B) (x y : List ℕ) (a : A) (b : B)
    → Reads read x a → Reads (more a) y b → Reads (λ s at. then (read s at) (λ c p. more c s p)) (x ++ y) b
in_a_row read more x y a b R M before rest =
    let n : length before + length x + length y ≡ length before + length (x ++ y) = rw (length-append, add_assoc) in
    let m : more a (before ++ (x ++ (y ++ rest))) (length before + length x) ≡ Ok (b, length before + length x + length y) =
    rw (← append_assoc before x (y ++ rest), ← length-append before x) (M (before ++ x) rest) in
    rw (append_assoc x y rest, R before (y ++ rest), m) (ap ((λ z0. Ok (b, z0))) n)

-- the same bytes, of which something else is made
pub made_of : {A B : Type 0} (read : List ℕ → ℕ → Got A) (to : A → B) (x : List ℕ) (a : A)
    → Reads read x a → Reads (λ s at. then (read s at) (λ c q. Ok (to c, q))) x (to a)
made_of read to x a R before rest = rw (R before rest)

pub varint_back : Back varint (λ n. n < 2 ^ 64)
varint_back = record { back = λ n h before rest. (get_put n before rest h) }

pub fixed_back : (w : ℕ) → Back (fixed w) (λ n. n < 256 ^ w)
fixed_back w = record { back = λ n h before rest. rw (length_put_le w n) (get_le_put w n before rest h) }

-- Texts

-- a text is read as its length and then so many bytes
text_then : (s : List ℕ) (at : ℕ) → text.read s at ≡ then (varint.read s at) (λ n p. got_text s (checked s (skim_on s (Ok (n, p)))))
unfolding get_text skim_text
text_then s at = go (get_u64 s at)
  where
    go : (x : Got ℕ) → got_text s (checked s (skim_on s x)) ≡ then (x) (λ n p. got_text s (checked s (skim_on s (Ok (n, p)))))
    go (Ok (n, p)) = refl
    go (Err r) = refl

bytes_back : (t : List ℕ) → utf8 t ≡ true → Reads (λ s p. got_text s (checked s (skim_on s (Ok (length t, p))))) t t
bytes_back t u before rest =
    let room : length t ≤ length (before ++ (t ++ rest)) - length before = simp length-append (omega arith) in
    rw (le-ltb (length (before ++ (t ++ rest)) - length before) (length t) room, ap utf8 (part_seam before t rest) ∙ u, part_seam before t rest)

pub text_back : Back text TextOk
text_back =
    record {
      back = λ t h before rest.
          text_then (before ++ (put_u64 (length t) ++ t ++ rest)) (length before)
          ∙ in_a_row varint.read (λ n s p. got_text s (checked s (skim_on s (Ok (n, p))))) (put_u64 (length t)) t (length t) t
          (varint_back.back (length t) h.0) (bytes_back t h.1) before rest;
    }

pub name_back : Back name TextOk
unfolding get_name
name_back = text_back

-- Ways to build

pub pair_back : {A B : Type 0} {f : Format A} {g : Format B} {P : A → Type 0} {Q : B → Type 0}
    → Back f P → Back g Q → Back (f ⊗ g) (λ c. P c.0 × Q c.1)
pair_back {f = f} {g = g} F G =
    record {
      back = λ c h.
          in_a_row f.read (λ a s p. then (g.read s p) (λ b q. Ok ((a, b), q))) (f.print c.0) (g.print c.1) c.0 c
          (F.back c.0 h.0)
          (made_of g.read (λ b. (c.0, b)) (g.print c.1) c.1 (G.back c.1 h.1));
    }

pub named_back : {A B : Type 0} {f : Format A} {P : A → Type 0} (to : A → B) (from : B → A) → ((b : B) → to (from b) ≡ b)
    → Back f P → Back (named to from f) (λ b. P (from b))
named_back {B = B} {f = f} to from same F =
    record {
      back = λ b h before rest.
          made_of f.read to (f.print (from b)) (from b) (F.back (from b) h) before rest
          ∙ ap (λ (c : B). Ok (c, (length before + length (f.print (from b))))) (same b);
    }

pub times_back : {A : Type 0} {f : Format A} {P : A → Type 0} → Back f P → (l : List A) → All P l → Reads (read_times f (length l)) (print_all f l) l
unfolding read_times print_all
times_back F [] h before rest = ap ((λ z0. Ok ([], z0))) (omega arith)
times_back {f = f} F (a ∷ l) h before rest =
    in_a_row f.read (λ b s p. then (read_times f (length l) s p) (λ m q. Ok (b ∷ m, q))) (f.print a) (print_all f l) a (a ∷ l)
    (F.back a h.0)
    (made_of (read_times f (length l)) (λ m. a ∷ m) (print_all f l) l (times_back F l h.1))
    before rest

pub counted_back : {A : Type 0} {f : Format A} {P : A → Type 0} → Back f P → Back (counted f) (ListOk P)
counted_back {f = f} F =
    record {
      back = λ l h.
          in_a_row varint.read (read_times f) (put_u64 (length l)) (print_all f l) (length l) l
          (varint_back.back (length l) h.0) (times_back F l h.1);
    }
