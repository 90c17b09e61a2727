-- `Mode`, `ErrorCode` and `ControlOp` and their bytes: each has one of its own, and no other byte is read as it.
use mathlib.Core.Bool.{true}
use mathlib.Core.Path.{◌≡◌, refl, sym, ◌∙◌, ap}
use Prim.Native.Nat.{ℕ}
use lib.Dec.{eqb}
use borrow.Author.Tests.{eqb-true}
use Rattle.varint.proofs.Basics.{pick_cases, never}
use Rattle.protocol.specs.Codes.{mode_byte, mode_of, error_byte, error_of, op_byte, op_of}
use Rattle.protocol.specs.declared.message.Mode.{Mode}
use Rattle.protocol.specs.declared.message.Mode.TheVariants.{ReadOnly, ReadWrite}
use Rattle.protocol.specs.declared.message.ErrorCode.{ErrorCode}
use Rattle.protocol.specs.declared.message.ErrorCode.TheVariants.{Protocol, UnknownDatabase, SchemaMismatch, ModeRefused, BadFacts, Conflict, BadQuery, Internal, InUse, Refused, Busy}
use Rattle.protocol.specs.declared.message.ControlOp.{ControlOp}
use Rattle.protocol.specs.declared.message.ControlOp.TheVariants.{Create, Finish, Remove}
use Rattle.std.specs.Prelude.{Result, Ok}
use Rattle.varint.specs.declared.error.Refusal.{Refusal}

pub mode_known : (x : Mode) → mode_of (mode_byte x) ≡ Ok x
mode_known ReadOnly = refl
mode_known ReadWrite = refl

pub mode_only : (b : ℕ) (x : Mode) → mode_of b ≡ Ok x → mode_byte x ≡ b
mode_only b x =
    pick_cases P (eqb b 0) (λ t. known ReadOnly 0 refl t)
    (λ _. pick_cases P (eqb b 1) (λ t. known ReadWrite 1 refl t)
    (λ _ e. never cc))
  where
    P : Result Mode Refusal → Type 0
    P y = y ≡ Ok x → mode_byte x ≡ b

    known : (c : Mode) (n : ℕ) → mode_byte c ≡ n → eqb b n ≡ true → P (Ok c)
    known c n w t e = let y : c ≡ x = cc in ap mode_byte (sym y) ∙ w ∙ sym (eqb-true b n t)

pub error_known : (x : ErrorCode) → error_of (error_byte x) ≡ Ok x
error_known Protocol = refl
error_known UnknownDatabase = refl
error_known SchemaMismatch = refl
error_known ModeRefused = refl
error_known BadFacts = refl
error_known Conflict = refl
error_known BadQuery = refl
error_known Internal = refl
error_known InUse = refl
error_known Refused = refl
error_known Busy = refl

pub error_only : (b : ℕ) (x : ErrorCode) → error_of b ≡ Ok x → error_byte x ≡ b
error_only b x =
    pick_cases P (eqb b 1) (λ t. known Protocol 1 refl t)
    (λ _. pick_cases P (eqb b 2) (λ t. known UnknownDatabase 2 refl t)
    (λ _. pick_cases P (eqb b 3) (λ t. known SchemaMismatch 3 refl t)
    (λ _. pick_cases P (eqb b 4) (λ t. known ModeRefused 4 refl t)
    (λ _. pick_cases P (eqb b 5) (λ t. known BadFacts 5 refl t)
    (λ _. pick_cases P (eqb b 6) (λ t. known Conflict 6 refl t)
    (λ _. pick_cases P (eqb b 7) (λ t. known BadQuery 7 refl t)
    (λ _. pick_cases P (eqb b 8) (λ t. known Internal 8 refl t)
    (λ _. pick_cases P (eqb b 9) (λ t. known InUse 9 refl t)
    (λ _. pick_cases P (eqb b 10) (λ t. known Refused 10 refl t)
    (λ _. pick_cases P (eqb b 11) (λ t. known Busy 11 refl t)
    (λ _ e. never cc)))))))))))
  where
    P : Result ErrorCode Refusal → Type 0
    P y = y ≡ Ok x → error_byte x ≡ b

    known : (c : ErrorCode) (n : ℕ) → error_byte c ≡ n → eqb b n ≡ true → P (Ok c)
    known c n w t e = let y : c ≡ x = cc in ap error_byte (sym y) ∙ w ∙ sym (eqb-true b n t)

pub op_known : (x : ControlOp) → op_of (op_byte x) ≡ Ok x
op_known Create = refl
op_known Finish = refl
op_known Remove = refl

pub op_only : (b : ℕ) (x : ControlOp) → op_of b ≡ Ok x → op_byte x ≡ b
op_only b x =
    pick_cases P (eqb b 1) (λ t. known Create 1 refl t)
    (λ _. pick_cases P (eqb b 2) (λ t. known Finish 2 refl t)
    (λ _. pick_cases P (eqb b 3) (λ t. known Remove 3 refl t)
    (λ _ e. never cc)))
  where
    P : Result ControlOp Refusal → Type 0
    P y = y ≡ Ok x → op_byte x ≡ b

    known : (c : ControlOp) (n : ℕ) → op_byte c ≡ n → eqb b n ≡ true → P (Ok c)
    known c n w t e = let y : c ≡ x = cc in ap op_byte (sym y) ∙ w ∙ sym (eqb-true b n t)
