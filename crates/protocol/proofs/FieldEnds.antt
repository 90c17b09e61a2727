-- Where fields that were read end, and what they say of their parts.
use mathlib.Core.Bool.{Bool, true, false}
use mathlib.Core.Path.{◌≡◌, refl, sym, subst, ap}
use mathlib.Core.List.{List, [], ◌∷◌}
use Prim.Native.Nat.{◌<◌, ℕ, ◌+◌, ◌≤◌}
use native.Mathlib.Omega.{arith}
use lib.Dec.{ltb}
use lib.ListN.{get_or, length, drop}
use borrow.Author.Tests.{ltb-true}
use Rattle.varint.specs.Utf8.{utf8}
use Rattle.protocol.specs.Codes.{mode_of, mode_byte, error_of, error_byte, op_of, op_byte}
use Rattle.varint.specs.Choice.{pick}
use Rattle.varint.specs.Got.{Got, then}
use Rattle.varint.specs.Formats.{Format}
use Rattle.varint.specs.Leb128.{get_u64}
use Rattle.varint.specs.declared.error.Mismatch.{Mismatch}
use Rattle.varint.specs.declared.error.Mismatch.TheVariants as M
use Rattle.varint.specs.declared.error.Refusal.{Refusal}
use Rattle.varint.specs.declared.error.Refusal.TheVariants.{TypeMismatch}
use Rattle.varint.proofs.FormatEnds.{Ends, varint_ends, named_ends}
use Rattle.varint.proofs.FormatParts.{num_inside, went}
use Rattle.varint.proofs.Gots.{no_got, got_of}
use Rattle.desc.specs.Layout.{texts}
use Rattle.desc.specs.Trees.{size}
use Rattle.desc.specs.WellFormed.{descriptor}
use Rattle.desc.proofs.Bounds.{desc_bounds}
use Rattle.protocol.specs.Fields.{provided, byte, yes, bit, flag, wide_flag, made_at, mode, error_code, control_op, to_end}
use Rattle.std.specs.Prelude.{Ok, Err, Result}

-- What a field that was read says of its parts

-- of a choice that may refuse, the other was taken
pub kept : {A : Type 0} (t : Bool) (x : Got A) (r : Refusal) {a : A} {q : ℕ} → pick t x (Err r) ≡ Ok (a, q) → (t ≡ true) × (x ≡ Ok (a, q))
kept true x r e = (refl, e)
kept false x r e = no_got e

pub spared : {A : Type 0} (t : Bool) (x : Got A) (r : Refusal) {a : A} {q : ℕ} → pick t (Err r) x ≡ Ok (a, q) → (t ≡ false) × (x ≡ Ok (a, q))
spared true x r e = no_got e
spared false x r e = (refl, e)

-- what had to stand a test was read, and stands it
pub passed : {A : Type 0} (x : Got A) (good : A → Bool) (why : A → Refusal) (a : A) (q : ℕ)
    → then x (λ b p. pick (good b) (Ok (b, p)) (Err (why b))) ≡ Ok (a, q) → (x ≡ Ok (a, q)) × (good a ≡ true)
passed (Err r) good why a q e = no_got e
passed (Ok (b, p)) good why a q e = let z = kept (good b) _ _ e in let w = got_of z.1 in (z.1, rw (← w.0) z.0)

pub byte_got : (missing : Refusal) (s : List ℕ) (at b q : ℕ) → (byte missing).read s at ≡ Ok (b, q)
    → (at < length s) × (b ≡ get_or s at 0) × (q ≡ at + 1)
byte_got missing s at b q e =
    let z = kept (ltb at (length s)) _ _ e in
    let w = got_of z.1 in
    (ltb-true at (length s) z.0, sym w.0, sym w.1)

-- The fields

pub descriptor_ends : (limit : ℕ) → Ends (descriptor limit) (λ tr. length (texts tr) + size tr) 0
descriptor_ends limit =
    record { ends = λ s at tr q h e. let i = desc_bounds limit limit s at tr q h e in let i₀ = i.0 in (omega arith, i.1) }

pub provided_ends : {A : Type 0} {f : Format A} {w : A → ℕ} {k : ℕ} (good : A → Bool) (why : A → Refusal) → Ends f w k → Ends (provided good why f) w k
provided_ends {f = f} good why F = record { ends = λ s at a q h e. F.ends s at a q h (passed (f.read s at) good why a q e).0 }

pub byte_ends : (missing : Refusal) → Ends (byte missing) (λ b. 0) 1
byte_ends missing =
    record {
      ends = λ s at b q h e.
          let x = byte_got missing s at b q e in
          let x₀ = x.0 in
          let x₂ = x.2 in
          (omega arith, omega arith);
    }

-- something is read, and then as it tells
pub chain_ends : {A B : Type 0} {f : Format A} {k : ℕ} (more : A → List ℕ → ℕ → Got B) (print : B → List ℕ) (v : B → ℕ) → Ends f (λ a. 0) k
    → ((s : List ℕ) (p : ℕ) (a : A) (b : B) (q : ℕ) → p ≤ length s → more a s p ≡ Ok (b, q) → (p + v b ≤ q) × (q ≤ length s))
    → Ends (record { read = λ s at. then (f.read s at) (λ a p. more a s p); print = print }) v k
chain_ends {f = f} more print v F G =
    record {
      ends = λ s at b q h e.
          let x = went (f.read s at) _ b q e in
          let i = F.ends s at x.value x.next h x.first in
          let i₀ = i.0 in
          let j = G s x.next x.value b q i.1 x.rest in
          let j₀ = j.0 in
          (omega arith, j.1);
    }

-- of what was read something else is made
pub then_ends : {A B : Type 0} {f : Format A} {w : A → ℕ} {k : ℕ} (to : A → B) (v : B → ℕ) → ((a : A) → v (to a) ≡ w a) → Ends f w k
    → (s : List ℕ) (p : ℕ) (b : B) (q : ℕ) → p ≤ length s → then (f.read s p) (λ a o. Ok (to a, o)) ≡ Ok (b, q) → (p + v b ≤ q) × (q ≤ length s)
then_ends {B = B} {f = f} to v same F s p b q h e =
    let x = went (f.read s p) _ b q e in
    let w = got_of x.rest in
    let i = F.ends s p x.value x.next h x.first in
    let i₀ = i.0 in
    let i₁ = i.1 in
    let w₁ = w.1 in
    let j = same x.value in
    let g : p + v (to x.value) ≤ q = omega arith in
    (subst (λ (c : B). p + v c ≤ q) w.0 g, omega arith)

-- no more was read
pub stays : {p q n : ℕ} → p ≤ n → p ≡ q → (p + 0 ≤ q) × (q ≤ n)
stays h e = (omega arith, omega arith)

pub flag_ends : (why : Mismatch) → Ends (flag why) (λ b. 0) 1
flag_ends why = named_ends yes bit (λ b. 0) (λ n. refl) (byte_ends (TypeMismatch why))

pub wide_flag_ends : Ends wide_flag (λ b. 0) 1
wide_flag_ends = named_ends yes bit (λ b. 0) (λ n. refl) varint_ends

pub wide_flag_inside : (s : List ℕ) (at : ℕ) (b : Bool) (q : ℕ) → wide_flag.read s at ≡ Ok (b, q) → (at < q) × (q ≤ length s)
wide_flag_inside s at b q e =
    let w = went (get_u64 s at) _ b q e in
    let i = num_inside s at w.value w.next w.first in
    let k = (got_of w.rest).1 in
    rw (← k) i

-- Fields of a byte, and the rest of a payload

-- what was made is what is told, and no more was read
pub made_got : {A : Type 0} (x : Result A Refusal) (p : ℕ) (a : A) (q : ℕ) → made_at x p ≡ Ok (a, q) → (x ≡ Ok a) × (p ≡ q)
made_got (Ok b) p a q e = let w = got_of e in (ap (λ c. Ok c) w.0, w.1)
made_got (Err r) p a q e = no_got e

-- what a byte stands for
coded_ends : {A : Type 0} (missing : Refusal) (of : ℕ → Result A Refusal) (print : A → List ℕ)
    → Ends (record { read = λ s at. then ((byte missing).read s at) (λ b q. made_at (of b) q); print = print }) (λ a. 0) 1
coded_ends missing of print =
    chain_ends (λ b s p. made_at (of b) p) print (λ a. 0) (byte_ends missing) (λ s p b a q h e. stays h (made_got (of b) p a q e).1)

pub mode_ends : Ends mode (λ m. 0) 1
mode_ends = coded_ends (TypeMismatch M.Mode) mode_of (λ m. mode_byte m ∷ [])

pub code_ends : Ends error_code (λ m. 0) 1
code_ends = coded_ends (TypeMismatch M.ErrorCode) error_of (λ m. error_byte m ∷ [])

pub op_ends : Ends control_op (λ m. 0) 1
op_ends = coded_ends (TypeMismatch M.ControlOp) op_of (λ m. op_byte m ∷ [])

pub to_end_got : (s : List ℕ) (at : ℕ) (x : List ℕ) (q : ℕ) → to_end.read s at ≡ Ok (x, q) → (drop at s ≡ x) × (length s ≡ q)
to_end_got s at x q e = got_of (kept (utf8 (drop at s)) _ _ e).1
