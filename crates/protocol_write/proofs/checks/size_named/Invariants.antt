use mathlib.Core.Path.{◌≡◌}
use Rattle.protocol.specs.Rows.{width_of}
use Rattle.protocol_write.specs.Inner.Checking.{row_count, rows_names}
use Rattle.protocol_write.specs.Inner.Writing.{pen, put_rows}
use Rattle.protocol_write.proofs.RowsLaid.{RowsLaid}
use Rattle.protocol_write.proofs.checks.size_named.Given as goal

abbrev pub invariant-loop-row : goal.invariant-loop-row
invariant-loop-row g l =
    let kind = g.R.Row.KIND in
    let lent = l.initial.gauge.lent.now in
    let rest = l.row-iterator.rest.now in
    (l.row-iterator.size ≡ width_of kind) × (l.gauge.lent ≡ l.initial.gauge.lent) × (l.gauge.out.ghost_name ≡ l.initial.gauge.out.ghost_name)
    × (rows_names kind lent.limit lent.text.now l.rows lent.nodes.now (row_count kind l.rows) 0 ≡ rows_names kind lent.limit lent.text.now rest lent.nodes.now (row_count kind rest) 0)
    × (put_rows kind lent.limit lent.text.now l.rows lent.nodes.now (row_count kind l.rows) 0 (pen l.initial.gauge) ≡ put_rows kind lent.limit lent.text.now rest lent.nodes.now (row_count kind rest) 0 (pen l.gauge))
    × RowsLaid lent.limit rest lent.nodes.now kind (row_count kind rest) 0
