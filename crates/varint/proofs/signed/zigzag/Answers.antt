use mathlib.Core.Path.{sym, ap}
use Rattle.varint.specs.Zigzag.{zig}
use Rattle.varint.proofs.Bits64.{Negative, negative, Positive, positive}
use Rattle.varint.proofs.signed.zigzag.Goals as goal

below_zero : (c : goal.Then-value-lt0) → Negative c.args.value
below_zero c = negative c.args.value c.ranges.value c.if-value-lt0.true

not_below : (c : goal.Else-value-lt0) → Positive c.args.value
not_below c = positive c.args.value c.ranges.value c.if-value-lt0.false

pub returns-then-value-lt0 : goal.returns-then-value-lt0
unfolding zig
returns-then-value-lt0 c =
    let n = below_zero c in rw n.flipped (sym (ap zig n.is))

pub returns-else-value-lt0 : goal.returns-else-value-lt0
unfolding zig
returns-else-value-lt0 c =
    let n = not_below c in rw n.same (sym (ap zig n.is))
