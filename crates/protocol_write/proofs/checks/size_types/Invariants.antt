use mathlib.Core.Path.{◌≡◌}
use Prim.Native.Nat.{◌+◌, ◌≤◌}
use Rattle.varint.specs.Outs.{declared}
use Rattle.desc.proofs.EmitPrint.{last}
use Rattle.protocol.specs.Types.{types_laid}
use Rattle.protocol.specs.declared.message.RowKind.TheVariants as K
use Rattle.protocol_write.specs.Inner.Checking.{row_count, types_size}
use Rattle.protocol_write.proofs.checks.size_types.Given as goal

abbrev pub invariant-loop-row : goal.invariant-loop-row
invariant-loop-row l = (l.row-iterator.size ≡ 6)
    × (types_laid l.lent.limit l.rows l.lent.nodes.now (row_count K.Predicate l.rows) 0 0 ≡ types_laid l.lent.limit l.row-iterator.rest.now l.lent.nodes.now (row_count K.Predicate l.row-iterator.rest.now) 0 l.n)
    × (declared (types_size l.lent.limit l.rows l.lent.nodes.now (row_count K.Predicate l.rows) 0) ≡ declared (l.size + types_size l.lent.limit l.row-iterator.rest.now l.lent.nodes.now (row_count K.Predicate l.row-iterator.rest.now) 0))
    × (l.size ≤ last)
