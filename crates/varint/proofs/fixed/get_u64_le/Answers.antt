use mathlib.Core.Path.{sym, ◌∙◌}
use Rattle.std.proofs.Common.{rules}
use Rattle.varint.proofs.Digits.{got_le_8}
use Rattle.varint.proofs.fixed.get_u64_le.Goals as goal

pub returns : goal.returns
returns c = sym (got_le_8 c.in_ok-bytes.bytes c.from_le_bytes.result (search rules) c.args.s.now c.args.at _ (sym c.take.ensures ∙ c.in_ok-bytes.was) (search rules) c.from_le_bytes.ensures (search rules))
