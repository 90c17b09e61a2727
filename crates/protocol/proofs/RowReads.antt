-- What a row is, field by field.
use mathlib.Core.Bool.{Bool}
use mathlib.Core.Path.{◌≡◌}
use mathlib.Core.List.{List}
use Prim.Native.Nat.{ℕ}
use Rattle.std.specs.Prelude.{Ok}
use Rattle.varint.specs.Formats.{name}
use Rattle.varint.specs.Leb128.{get_u64}
use Rattle.varint.specs.declared.error.Mismatch.TheVariants as M
use Rattle.protocol.specs.Fields.{flag}
use Rattle.protocol.specs.Profile.{step}
use Rattle.protocol.specs.Startup.{claim}

module _ (s : List ℕ) (at : ℕ) {x : List ℕ} {q : ℕ} (n : name.read s at ≡ Ok (x, q)) where
  pub claim_read : {fingerprint e : ℕ} → get_u64 s q ≡ Ok (fingerprint, e) → claim.read s at ≡ Ok ((record { name = x; fingerprint = fingerprint }), e)
  claim_read h = rw (n, h)

  pub step_read : {examined p : ℕ} {full : Bool} {e : ℕ} → get_u64 s q ≡ Ok (examined, p) → (flag M.FullScan).read s p ≡ Ok (full, e)
      → step.read s at ≡ Ok ((record { label = x; examined = examined; full_scan = full }), e)
  step_read h k = rw (n, h, k)
