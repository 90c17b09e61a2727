use mathlib.Core.Path.{◌≡◌}
use Rattle.protocol.specs.declared.message.RowKind.TheVariants as K
use Rattle.protocol_write.specs.Inner.Checking.{row_count, rows_names}
use Rattle.protocol_write.proofs.RowsLaid.{RowsLaid}
use Rattle.protocol_write.proofs.checks.check_texts.Given as goal

abbrev pub invariant-loop-row : goal.invariant-loop-row
invariant-loop-row l = (l.row-iterator.size ≡ 6)
    × (rows_names K.Predicate l.lent.limit l.lent.text.now l.rows l.lent.nodes.now (row_count K.Predicate l.rows) 0 ≡ rows_names K.Predicate l.lent.limit l.lent.text.now l.row-iterator.rest.now l.lent.nodes.now (row_count K.Predicate l.row-iterator.rest.now) 0)
    × RowsLaid l.lent.limit l.row-iterator.rest.now l.lent.nodes.now K.Predicate (row_count K.Predicate l.row-iterator.rest.now) 0
