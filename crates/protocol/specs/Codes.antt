-- "`Mode`, `ErrorCode` and `ControlOp` each know their own bytes: 0 to 1, 1 to 11, 1 to 3."
use Rattle.std.specs.Prelude.{◌≡◌, refl, ℕ, eqb, Result, Ok, Err}
use Rattle.varint.specs.Choice.{pick}
use Rattle.varint.specs.declared.error.Mismatch.TheVariants as M
use Rattle.varint.specs.declared.error.Refusal.TheVariants.{TypeMismatch}
use Rattle.protocol.specs.declared.message.Mode.{Mode}
use Rattle.protocol.specs.declared.message.Mode.TheVariants.{ReadOnly, ReadWrite}
use Rattle.protocol.specs.declared.message.ErrorCode.{ErrorCode}
use Rattle.protocol.specs.declared.message.ErrorCode.TheVariants.{Protocol, UnknownDatabase, SchemaMismatch, ModeRefused, BadFacts, Conflict, BadQuery, Internal, InUse, Refused, Busy}
use Rattle.protocol.specs.declared.message.ControlOp.{ControlOp}
use Rattle.protocol.specs.declared.message.ControlOp.TheVariants.{Create, Finish, Remove}
use Rattle.varint.specs.declared.error.Refusal.{Refusal}

abbrev pub mode_byte : Mode → ℕ
mode_byte ReadOnly = 0
mode_byte ReadWrite = 1

abbrev pub mode_of : ℕ → Result Mode Refusal
mode_of b = pick (eqb b 0) (Ok ReadOnly) (pick (eqb b 1) (Ok ReadWrite) (Err (TypeMismatch M.Mode)))

abbrev pub error_byte : ErrorCode → ℕ
error_byte Protocol = 1
error_byte UnknownDatabase = 2
error_byte SchemaMismatch = 3
error_byte ModeRefused = 4
error_byte BadFacts = 5
error_byte Conflict = 6
error_byte BadQuery = 7
error_byte Internal = 8
error_byte InUse = 9
error_byte Refused = 10
error_byte Busy = 11

abbrev pub error_of : ℕ → Result ErrorCode Refusal
error_of b =
    pick (eqb b 1) (Ok Protocol) (pick (eqb b 2) (Ok UnknownDatabase) (pick (eqb b 3) (Ok SchemaMismatch)
    (pick (eqb b 4) (Ok ModeRefused) (pick (eqb b 5) (Ok BadFacts) (pick (eqb b 6) (Ok Conflict)
    (pick (eqb b 7) (Ok BadQuery) (pick (eqb b 8) (Ok Internal) (pick (eqb b 9) (Ok InUse)
    (pick (eqb b 10) (Ok Refused) (pick (eqb b 11) (Ok Busy) (Err (TypeMismatch M.ErrorCode))))))))))))

abbrev pub op_byte : ControlOp → ℕ
op_byte Create = 1
op_byte Finish = 2
op_byte Remove = 3

abbrev pub op_of : ℕ → Result ControlOp Refusal
op_of b = pick (eqb b 1) (Ok Create) (pick (eqb b 2) (Ok Finish) (pick (eqb b 3) (Ok Remove) (Err (TypeMismatch M.ControlOp))))

example_busy : error_of 11 ≡ Ok Busy
example_busy = refl

example_none : error_of 0 ≡ Err (TypeMismatch M.ErrorCode)
example_none = refl

example_create : op_of (op_byte Create) ≡ Ok Create
example_create = refl
