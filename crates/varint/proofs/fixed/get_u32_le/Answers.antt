use mathlib.Core.Path.{sym, ◌∙◌, ap}
use Prim.Native.Nat.{ℕ}
use Rattle.std.proofs.Common.{rules}
use Rattle.std.specs.Prelude.{Ok}
use Rattle.varint.proofs.Digits.{got_le_4}
use Rattle.varint.proofs.fixed.get_u32_le.Goals as goal

pub returns : goal.returns
returns c = sym (got_le_4 c.in_ok-bytes.bytes c.from_le_bytes.result (search rules) c.args.s.now c.args.at _ (sym c.take.ensures ∙ c.in_ok-bytes.was) (search rules) c.from_le_bytes.ensures (search rules)
    ∙ ap (λ (n : ℕ). Ok (n, c.in_ok-bytes.next)) (sym c.from.ensures))
