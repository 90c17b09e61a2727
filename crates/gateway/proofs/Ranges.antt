-- The tests of the numbers, in words: "a mode over 1, a code outside 1 to 11, an op outside 1 to 3".
use mathlib.Core.Bool.{Bool, ◌&&◌}
use mathlib.Core.Path.{◌≡◌}
use Prim.Native.Nat.{ℕ}
use native.Mathlib.Omega.{arith}
use Rattle.std.proofs.lemmas.Bool.Decides.{nat_tests}
use lib.Dec.{leb}
use Rattle.protocol.specs.Codes.{mode_of, error_of, op_of}
use Rattle.gateway.specs.Numbers.{is_mode, is_error, is_op}

abbrev within : ℕ → ℕ → Bool
within high n = leb 1 n && leb n high

pub mode_range : (n : ℕ) → is_mode (mode_of n) ≡ leb n 1
mode_range n = grind (arith, nat_tests)

pub op_range : (n : ℕ) → is_op (op_of n) ≡ within 3 n
op_range n = grind (arith, nat_tests)

pub error_range : (n : ℕ) → is_error (error_of n) ≡ within 11 n
error_range n = grind (arith, nat_tests)
