-- "A refusal is a number with details a, b (0 where not given)": the number and the details of each case.
use Rattle.std.specs.Prelude.{◌≡◌, refl, ℕ}
use Rattle.varint.specs.declared.error.Code.{Code}
use Rattle.varint.specs.declared.error.Mismatch.{Mismatch}
use Rattle.varint.specs.declared.error.Mismatch.TheVariants.{Mode, Version, ErrorCode, ControlOp, ControlFlag, AlreadyComplete, FullScan}
use Rattle.varint.specs.declared.error.Buffer.{Buffer}
use Rattle.varint.specs.declared.error.Buffer.TheVariants.{Text, Rows, Nodes, Hold, Out}
use Rattle.varint.specs.declared.error.Fault.{Fault}
use Rattle.varint.specs.declared.error.Fault.TheVariants.{Texts, RowCount, Layout, Number}
use Rattle.varint.specs.declared.error.Refusal.{Refusal}
use Rattle.varint.specs.declared.error.Refusal.TheVariants.{UnexpectedEof, VarintOverflow, VarintNotMinimal, BadString, LengthOutOfRange, UnknownRefForm, UnknownDiscriminant, BadFactId, TypeMismatch, TrailingBytes, UnknownPredicate, BlockTooLarge, BadDigestFlag, BadListingPredicate, TooDeep, TooSmall, BadReceiver, BadKindTable, BadMessage}

-- "1 mode, 2 version, 3 error code, 4 control op, 5 control flag, 6 already complete, 7 full scan"
abbrev pub mismatch_number : Mismatch → ℕ
mismatch_number Mode = 1
mismatch_number Version = 2
mismatch_number ErrorCode = 3
mismatch_number ControlOp = 4
mismatch_number ControlFlag = 5
mismatch_number AlreadyComplete = 6
mismatch_number FullScan = 7

-- "1 text, 2 rows, 3 nodes, 4 hold, 5 out"
abbrev pub buffer_number : Buffer → ℕ
buffer_number Text = 1
buffer_number Rows = 2
buffer_number Nodes = 3
buffer_number Hold = 4
buffer_number Out = 5

-- "19(1) past text's end", "19(2) row count times width over rows", "19(3) nodes .. not laid out as above",
-- "19(4) a flag over 1 or a type id over 32 bits"
abbrev pub fault_number : Fault → ℕ
fault_number Texts = 1
fault_number RowCount = 2
fault_number Layout = 3
fault_number Number = 4

-- the nineteen refusals in document 01's order
abbrev pub code_of : Refusal → Code
code_of UnexpectedEof = record { number = 1; a = 0; b = 0 }
code_of VarintOverflow = record { number = 2; a = 0; b = 0 }
code_of VarintNotMinimal = record { number = 3; a = 0; b = 0 }
code_of BadString = record { number = 4; a = 0; b = 0 }
code_of (LengthOutOfRange declared available) = record { number = 5; a = declared; b = available }
code_of (UnknownRefForm tag) = record { number = 6; a = tag; b = 0 }
code_of (UnknownDiscriminant n) = record { number = 7; a = n; b = 0 }
code_of (BadFactId n) = record { number = 8; a = n; b = 0 }
code_of (TypeMismatch m) = record { number = 9; a = mismatch_number m; b = 0 }
code_of (TrailingBytes n) = record { number = 10; a = n; b = 0 }
code_of UnknownPredicate = record { number = 11; a = 4294967295; b = 0 }
code_of (BlockTooLarge declared max) = record { number = 12; a = declared; b = max }
code_of (BadDigestFlag n) = record { number = 13; a = n; b = 0 }
code_of (BadListingPredicate n) = record { number = 14; a = n; b = 0 }
code_of (TooDeep max) = record { number = 15; a = max; b = 0 }
code_of (TooSmall which needed) = record { number = 16; a = buffer_number which; b = needed }
code_of BadReceiver = record { number = 17; a = 0; b = 0 }
code_of (BadKindTable n) = record { number = 18; a = n; b = 0 }
code_of (BadMessage fault) = record { number = 19; a = fault_number fault; b = 0 }

example_length : code_of (LengthOutOfRange 5 3) ≡ record { number = 5; a = 5; b = 3 }
example_length = refl

example_version : code_of (TypeMismatch Version) ≡ record { number = 9; a = 2; b = 0 }
example_version = refl

example_hold : code_of (TooSmall Hold 70000) ≡ record { number = 16; a = 4; b = 70000 }
example_hold = refl
